use Rattle.std.proofs.Common.{◌≤◌, arith, take}
use Rattle.std.proofs.lemmas.List.{length-take-le}
use Rattle.tso_core.proofs.Queues.{one_few, stores_few}
use Rattle.tso_core.proofs.queue.PendingQueue.push.Goals as goal

pub overflow_add-self : goal.overflow_add-self
overflow_add-self c =
    let few = stores_few (take c.self.inside.len c.self.inside.places) in
    let within : c.self.inside.len ≤ 16 = c.self.invariant.0 in
    let long = length-take-le c.self.inside.len c.self.inside.places (rw c.self.invariant.1 within) in
    let one = one_few c.args.pending in
    let stores = c.self.invariant.2 in
    omega (arith, few, long, one, stores, within, c.stores_of.ensures)
