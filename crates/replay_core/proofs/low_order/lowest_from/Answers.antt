use Rattle.std.proofs.Common.{◌≡◌, ◌+◌, ◌-◌, ◌∙◌, suc, length, refl, sym, arith}
use Rattle.replay_core.proofs.Sources.{lowest_on}
use Rattle.replay_core.specs.Tallies.{count_of}
use Rattle.replay_core.proofs.LowestReady.{awaited_at, awaited_lower, awaited_more, lowest_here, lowest_past}
use Rattle.replay_core.proofs.low_order.lowest_from.Goals as goal

pub loop-core-preserved : goal.loop-core-preserved
loop-core-preserved c =
    let u = c.args.tally.now in
    let n = length u.plan.totals in
    let below = c.loop-core-test.true in
    let one_more : n - c.loop-core.core ≡ suc (n - (c.loop-core.core + 1)) =
    omega (arith, c.cores-core-end.ensures.all) in record {
      lowest = lowest_on u.plan (count_of u.counts) c.loop-core.core (n - c.loop-core.core) (n - (c.loop-core.core + 1))
          (c.loop-core.core + 1) one_more refl
          (sym c.is_ready_or_waits.ensures.ready ∙ c.if-is_ready_or_waits.false) ∙ c.loop-core.invariant.lowest;
      awaited = awaited_more u c.loop-core.core c.loop-core.until _ c.loop-core.invariant.awaited
          c.is_ready_or_waits.ensures.below (c.is_ready_or_waits.ensures.waits c.if-is_ready_or_waits.false);
    }

pub returns-then-is_ready_or_waits-clause-lowest : goal.returns-then-is_ready_or_waits-clause-lowest
returns-then-is_ready_or_waits-clause-lowest c =
    let u = c.args.tally.now in
    lowest_here u.plan (count_of u.counts) c.loop-core.core (length u.plan.totals - c.loop-core.core)
    (let lt = c.loop-core-test.true in omega (arith, c.cores-core-end.ensures.all))
    (sym c.is_ready_or_waits.ensures.ready ∙ c.if-is_ready_or_waits.true)
    ∙ c.loop-core.invariant.lowest

pub returns-then-is_ready_or_waits-clause-awaited : goal.returns-then-is_ready_or_waits-clause-awaited
returns-then-is_ready_or_waits-clause-awaited c d e =
    awaited_at c.args.tally.now c.loop-core.core d _ e
    (awaited_lower c.args.tally.now c.loop-core.core c.loop-core.until _ c.loop-core.invariant.awaited
    c.is_ready_or_waits.ensures.below)

pub returns-clause-lowest : goal.returns-clause-lowest
returns-clause-lowest c =
    let u = c.args.tally.now in
    lowest_past u.plan (count_of u.counts) c.loop-core.core (length u.plan.totals - c.loop-core.core)
    (let lt = c.loop-core-test.false in omega (arith, c.cores-core-end.ensures.all)) ∙ c.loop-core.invariant.lowest
