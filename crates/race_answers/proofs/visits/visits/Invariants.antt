use Rattle.std.proofs.Common.{◌≡◌}
use Rattle.roomy_lists.specs.Lists.{items_in}
use Rattle.race_answers.specs.Traces.{visits}
use Rattle.race_answers.proofs.visits.visits.Given as goal

-- the visits so far
abbrev pub invariant-loop-k : goal.invariant-loop-k
invariant-loop-k l = l.list ≡ visits (items_in l.known.pcs) l.pc l.core l.k
