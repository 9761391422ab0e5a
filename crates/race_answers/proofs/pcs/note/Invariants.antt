use Rattle.std.proofs.Common.{drop}
use Rattle.roomy_lists.specs.Lists.{items_in}
use Rattle.race_answers.specs.Pcs.{IsNoting}
use Rattle.race_answers.proofs.pcs.note.Given as goal

-- the places so far are taken, and the pcs before them noted
abbrev pub invariant-loop-core : goal.invariant-loop-core
invariant-loop-core l =
    IsNoting l.audited.which l.audited.recording l.replay (drop l.core-index l.places) (items_in l.pcs)
