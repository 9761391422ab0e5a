use Rattle.replay_core.specs.Orders.{counts_in}
use Rattle.replay_core.proofs.PlaceSteps.{cut_made}
use Rattle.replay_core.proofs.replay.Replay.cut.Goals as goal

pub returns : goal.returns
returns c =
    let u = c.args.self.now in
    cut_made u.plan (counts_in u.state) c.cores-cores.result c.loop-core.core c.loop-core.counts
    c.cores-cores.ensures.all c.loop-core-test.false
    c.loop-core.invariant.wide c.loop-core.invariant.done c.loop-core.invariant.rest c.loop-core.auto.core-end
