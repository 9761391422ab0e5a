use Rattle.rtr_cli.proofs.BufferRuns.{tso_run_promised}
use Rattle.rtr_cli.proofs.buffers.tso_run_input.Goals as goal

-- what is promised of every run, of the run of these bytes
pub returns-clause-promised : goal.returns-clause-promised
returns-clause-promised c = tso_run_promised c.args.run c.args.loads c.args.input.items c.requires.fits
