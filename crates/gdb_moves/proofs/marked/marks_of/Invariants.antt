use Rattle.std.proofs.Common.{take}
use Rattle.gdb_moves.specs.Marks.{AreMarks}
use Rattle.gdb_moves.proofs.marked.marks_of.Given as goal

-- those of the points so far
abbrev pub invariant-loop-point : goal.invariant-loop-point
invariant-loop-point l = AreMarks (take l.point-index l.points) l.marks
