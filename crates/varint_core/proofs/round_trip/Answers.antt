use Rattle.varint_core.proofs.ShortestSpelling as laws
use Rattle.varint_core.proofs.round_trip.Goals as goal

pub returns : goal.returns
returns c = laws.round_trip
