use Rattle.replay_core.specs.Play.{instr}
use Rattle.replay_core.proofs.AwaitedEdges.{no_sources}
use Rattle.replay_core.proofs.coming.Coming.free_to.Goals as goal

pub returns : goal.returns
returns c which r core n valid coming from before =
    let early = c.early_to.ensures n from before in
    no_sources which r valid c.args.self.now (instr core n) coming early.0 early.1
