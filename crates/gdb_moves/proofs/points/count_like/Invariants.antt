use Rattle.std.proofs.Common.{◌≡◌, take}
use Rattle.std.specs.Prelude.{count_by}
use Rattle.gdb_moves.specs.Points.{is_same_kind}
use Rattle.gdb_moves.proofs.points.count_like.Given as goal

-- how many of those so far are of the kind
abbrev pub invariant-loop-other : goal.invariant-loop-other
invariant-loop-other l = l.count ≡ count_by (is_same_kind l.point) (take l.other-index l.points)
