use Rattle.replay_core.proofs.replay.Replay.run.Goals as goal

pub returns : goal.returns
returns c = c.run_given.ensures
