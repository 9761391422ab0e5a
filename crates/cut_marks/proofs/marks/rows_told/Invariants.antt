use Rattle.std.proofs.Common.{◌≡◌, take}
use Rattle.std.specs.List.{flat_map}
use Rattle.cut_marks.specs.Marks.{mark_row}
use Rattle.cut_marks.proofs.marks.rows_told.Given as goal

-- the rows so far
abbrev pub invariant-loop-mark : goal.invariant-loop-mark
invariant-loop-mark l = l.out.items ≡ flat_map mark_row (take l.mark-index l.marks)
