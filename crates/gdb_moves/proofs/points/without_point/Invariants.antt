use Rattle.std.proofs.Common.{◌≡◌, ◌++◌, drop}
use Rattle.gdb_moves.specs.Points.{without_point}
use Rattle.gdb_moves.proofs.points.without_point.Given as goal

-- what was kept so far, with what is kept of those to come, is all that is kept
abbrev pub invariant-loop-other : goal.invariant-loop-other
invariant-loop-other l =
    l.kept ++ without_point l.point (drop l.other-index l.points) ≡ without_point l.point l.points
