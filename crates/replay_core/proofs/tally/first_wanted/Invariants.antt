use Rattle.std.proofs.Common.{◌≡◌}
use Rattle.replay_core.specs.Tallies.{AreWanted}
use Rattle.replay_core.proofs.tally.first_wanted.Given as goal

abbrev pub invariant-loop-core : goal.invariant-loop-core
invariant-loop-core l = record {
  plan_is : l.sources ≡ l.fn.sources;
  wanted : AreWanted l.sources.edges l.core l.list.items;
}
