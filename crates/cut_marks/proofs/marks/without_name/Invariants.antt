use Rattle.std.proofs.Common.{◌≡◌, ◌++◌, drop}
use Rattle.cut_marks.specs.Marks.{without_name}
use Rattle.cut_marks.proofs.marks.without_name.Given as goal

-- what was kept so far, with what is kept of those to come, is all that is kept
abbrev pub invariant-loop-mark : goal.invariant-loop-mark
invariant-loop-mark l = l.kept ++ without_name l.name (drop l.mark-index l.marks) ≡ without_name l.name l.marks
