use Rattle.certificate_codec.proofs.reading.clocks.Goals as goal

pub read_items-requires : goal.read_items-requires
read_items-requires c place lt = rw c.in_ok-ends.ensures lt

pub returns : goal.returns
returns c = rw c.in_ok-ends.ensures at c.read_items.ensures
