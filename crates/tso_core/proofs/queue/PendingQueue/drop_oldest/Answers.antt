use Rattle.std.proofs.Common.{◌∙◌, ◌≤◌, ◌<◌, ◌-◌, ap, arith, take, length}
use Rattle.tso_state.specs.Pending.{stores_in}
use Rattle.tso_core.proofs.Queues.{stores_left}
use Rattle.tso_core.proofs.queue.PendingQueue.drop_oldest.Goals as goal

pub invariant_of-self : goal.invariant_of-self
invariant_of-self c =
    let within : c.self.inside.len ≤ 16 = c.self.invariant.0 in
    let long : c.self.inside.len ≤ length c.self.inside.places = rw c.self.invariant.1 within in
    let some : 0 < c.self.inside.len = omega (arith, c.if-self-eq0.false) in
    let left = stores_left c.self.inside.places c.self.inside.len c.stores_of.result _ c.stores_of.ensures some long in
    let stores = c.self.invariant.2 in
    let moved = ap (λ ps. stores_in (take (c.self.inside.len - 1) ps)) c.copy_within.ensures.after in
    (omega arith, c.copy_within.ensures.len ∙ c.self.invariant.1, omega (arith, left, stores, moved))
