use Rattle.std.proofs.Common.{◌≡◌, drop}
use Rattle.gdb_moves.specs.Points.{first_touched}
use Rattle.gdb_moves.proofs.points.first_touched.Given as goal

-- none so far is touched
abbrev pub invariant-loop-point : goal.invariant-loop-point
invariant-loop-point l = first_touched l.points l.used ≡ first_touched (drop l.point-index l.points) l.used
