-- no core from the first one on is ready so far
use Rattle.std.proofs.Common.{◌≡◌, ◌-◌, length}
use Rattle.replay_core.specs.Orders.{lowest}
use Rattle.replay_core.specs.Tallies.{AreAwaited, count_of}
use Rattle.replay_core.proofs.low_order.lowest_from.Given as goal

abbrev pub invariant-loop-core : goal.invariant-loop-core
invariant-loop-core l = record {
  lowest : lowest l.tally.plan (count_of l.tally.counts) l.core (length l.tally.plan.totals - l.core)
      ≡ lowest l.tally.plan (count_of l.tally.counts) l.fn.from (length l.tally.plan.totals - l.fn.from);
  awaited : AreAwaited l.tally l.core l.until;
}
