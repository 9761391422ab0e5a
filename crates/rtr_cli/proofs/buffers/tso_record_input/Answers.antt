use Rattle.rtr_cli.proofs.BufferRuns.{tso_record_promised}
use Rattle.rtr_cli.proofs.buffers.tso_record_input.Goals as goal

-- what is promised of every run, of the run of these bytes
pub returns-clause-promised : goal.returns-clause-promised
returns-clause-promised c =
    let small = rw c.as_slice.ensures.value at c.are_bytes.ensures in
    tso_record_promised c.args.run c.args.input.items c.requires.fits c.requires.within small
