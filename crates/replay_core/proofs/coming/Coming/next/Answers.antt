use Rattle.replay_core.proofs.AwaitedEdges.{known_next}
use Rattle.replay_core.proofs.coming.Coming.next.Goals as goal

pub returns-in-Some : goal.returns-in-Some
returns-in-Some c =
    known_next c.args.log.which c.args.log.recording.now c.requires.valid c.args.self.now c.args.of c.args.at
    c.in-Some.edge c.requires.coming c.in-Some.ensures
