use Rattle.std.proofs.Common.{◌≡◌, drop}
use Rattle.cut_marks.specs.Marks.{counts_of}
use Rattle.cut_marks.proofs.marks.counts_of.Given as goal

-- none so far has the name
abbrev pub invariant-loop-mark : goal.invariant-loop-mark
invariant-loop-mark l = counts_of l.name l.marks ≡ counts_of l.name (drop l.mark-index l.marks)
