use Rattle.rtr_cli.proofs.BufferLemmas.{tso_fits, tso_promised}
use Rattle.rtr_cli.proofs.buffers.tso_replayed.Goals as goal

-- what the replay came to is an outcome over the recording's image
pub told-requires-clause-fits : goal.told-requires-clause-fits
told-requires-clause-fits c = tso_fits c.args.recording c.in-Ok.outcome c.requires c.in-Ok.ensures

pub returns-in_ok-told-in-Ok-clause-replayed : goal.returns-in_ok-told-in-Ok-clause-replayed
returns-in_ok-told-in-Ok-clause-replayed c =
    tso_promised c.args.recording c.in-Ok.outcome c.requires c.in-Ok.ensures
