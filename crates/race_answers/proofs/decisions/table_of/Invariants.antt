use Rattle.std.proofs.Common.{take}
use Rattle.roomy_lists.specs.Lists.{items_in}
use Rattle.race_answers.specs.Decisions.{CountsEdges}
use Rattle.race_answers.proofs.decisions.table_of.Given as goal

-- the edges so far are counted
abbrev pub invariant-loop-ends : goal.invariant-loop-ends
invariant-loop-ends l = CountsEdges (items_in l.pcs) (take l.ends-index l.all) l.table
