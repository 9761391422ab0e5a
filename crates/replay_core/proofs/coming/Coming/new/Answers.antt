use Rattle.replay_core.proofs.AwaitedEdges.{coming_unknown}
use Rattle.replay_core.proofs.coming.Coming.new.Goals as goal

pub returns : goal.returns
returns c which r core valid =
    coming_unknown which r valid core r.params.cores c.none.result c.none.ensures.from c.none.ensures.edges
