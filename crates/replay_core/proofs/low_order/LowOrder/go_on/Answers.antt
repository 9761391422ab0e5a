use Rattle.std.proofs.Common.{◌≡◌, ◌∙◌, ◌<◌, length, ap, slice_index, Some, arith}
use Rattle.replay_core.specs.Tallies.{Tallied, count_of}
use Rattle.replay_core.proofs.LowestReady.{awaited_still, low_is, lowest_still}
use Rattle.replay_core.proofs.low_order.LowOrder.go_on.Goals as goal

pub lowest_from-self-inside-requires-clause-awaited : goal.lowest_from-self-inside-requires-clause-awaited
lowest_from-self-inside-requires-clause-awaited c =
    let t = c.self.inside.tally in
    let until = c.self.inside.until in
    let same : c.self.inside.low ≡ Some c.args.core = low_is c.self.inside.low c.args.core c.if-eq.ensures in
    let inside : c.args.core < length t.plan.totals = let e =
    ap (λ (x : Tallied). length x.plan.totals) c.self.view_is in omega (arith, c.requires.inside) in
    awaited_still t c.go_on.new.self c.args.core c.args.count until c.go_on.ensures.plan c.go_on.ensures.counts
    c.go_on.ensures.here (omega arith) (c.self.invariant.awaited c.args.core same)
    (omega (arith, c.go_on.ensures.here, c.count.ensures.count, c.if-count-self.true))

pub invariant_of-self : goal.invariant_of-self
invariant_of-self c =
    let t = c.self.inside.tally in
    let u = c.go_on.new.self in
    let until = c.self.inside.until in
    let same : c.self.inside.low ≡ Some c.args.core = low_is c.self.inside.low c.args.core c.if-eq.ensures in
    let inside : c.args.core < length t.plan.totals = let e =
    ap (λ (x : Tallied). length x.plan.totals) c.self.view_is in omega (arith, c.requires.inside) in
    let before : count_of u.counts c.args.core < slice_index until c.args.core =
    omega (arith, c.go_on.ensures.here, c.count.ensures.count, c.if-count-self.true) in
    record {
      lowest_is = c.lowest_from-self-inside.ensures.lowest
          ∙ lowest_still t u c.args.core c.args.count until c.go_on.ensures.plan c.go_on.ensures.counts
          c.go_on.ensures.here (omega arith) (c.self.invariant.awaited c.args.core same) before;
      awaited = c.lowest_from-self-inside.ensures.awaited;
    }
