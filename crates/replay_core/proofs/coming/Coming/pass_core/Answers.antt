use Rattle.replay_core.proofs.AwaitedEdges.{stays_passes}
use Rattle.replay_core.proofs.coming.Coming.pass_core.Goals as goal

pub returns-then-stays : goal.returns-then-stays
returns-then-stays c =
    let e = c.stays.ensures in
    let is = c.if-stays.true in
    stays_passes c.args.log.which c.args.log.recording.now c.requires.valid c.args.self.now c.stays.new.self c.args.of
    c.args.at c.args.found.now c.requires.coming (e.known is) (e.later is) (e.put is)
