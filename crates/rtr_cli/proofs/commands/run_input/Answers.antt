use Rattle.rtr_cli.proofs.RecordingLemmas.{run_promised}
use Rattle.rtr_cli.proofs.commands.run_input.Goals as goal

-- what is promised of every run, of the run of the image that the input is
pub returns-clause-promised : goal.returns-clause-promised
returns-clause-promised c =
    run_promised c.args.run c.args.loads c.args.input.items c.in_ok-bytes.bytes.items c.in_ok-bytes.ensures.loaded
    c.requires.fits
