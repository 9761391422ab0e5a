use Rattle.replay_core.specs.Orders.{counts_in}
use Rattle.replay_core.proofs.Sources.{ready_by, ready_not, ready_order}
use Rattle.replay_core.proofs.replay.Replay.ready.Goals as goal

pub returns-then-count-total-clause-order : goal.returns-then-count-total-clause-order
returns-then-count-total-clause-order c =
    let u = c.args.self.now in
    ready_order u.plan u.state c.args.core c.is_sourced.result
    (ready_by u.plan (counts_in u.state) c.args.core c.count-count.result c.total.result c.is_sourced.result c.requires
    c.count-count.ensures c.total.ensures
    c.if-count-total.true c.is_sourced.ensures)

pub returns-else-count-total-clause-order : goal.returns-else-count-total-clause-order
returns-else-count-total-clause-order c =
    let u = c.args.self.now in
    ready_order u.plan u.state c.args.core _
    (ready_not u.plan (counts_in u.state) c.args.core c.count-count.result c.total.result c.requires
    c.count-count.ensures c.total.ensures
    c.if-count-total.false)
