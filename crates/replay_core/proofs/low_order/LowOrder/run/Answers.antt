use Rattle.std.proofs.Common.{◌≡◌, ◌∙◌, ◌<◌, Some, arith, length, slice_index, subst, sym}
use Rattle.replay_core.specs.Orders.{lowest_ready}
use Rattle.replay_core.specs.Tallies.{IsRun, Tallied, count_of}
use Rattle.replay_core.proofs.LowestGoesOn.{run_is}
use Rattle.replay_core.proofs.low_order.LowOrder.run.Goals as goal

pub returns : goal.returns
returns c =
    let t = c.self.inside.tally in
    let core = c.args.core in
    let low : lowest_ready t.plan (count_of t.counts) ≡ Some core =
    subst (λ (x : Tallied). lowest_ready x.plan (count_of x.counts) ≡ Some core) (sym c.self.view_is)
    c.requires.lowest in
    let inside : core < length t.plan.totals =
    subst (λ (x : Tallied). core < length x.plan.totals) (sym c.self.view_is) c.requires.inside in
    let below : count_of t.counts core < slice_index t.plan.totals core =
    subst (λ (x : Tallied). count_of x.counts core < slice_index x.plan.totals core) (sym c.self.view_is)
    c.requires.below in
    let next = c.next_count-next.ensures in
    let count = next.count in
    let total = c.total-total.ensures in
    subst (λ (x : Tallied). IsRun x core c.least_from.result) c.self.view_is
    (run_is t core inside next.place below low c.self.inside.until
    (c.self.invariant.awaited core (c.self.invariant.lowest_is ∙ low)) c.least_from.result
    (let least = c.least_from.ensures.least in omega arith)
    (λ up. let most = c.least_from.ensures.most (omega arith) in (omega (arith, most.0), most.1))
    (λ k up le. c.free_to-free.ensures k up
    (let most = c.least_from.ensures.most (omega arith) in omega (arith, most.2))))
