use Rattle.varint_core.proofs.ShortestSpelling as laws
use Rattle.varint_core.proofs.prefix_free.Goals as goal

pub returns : goal.returns
returns c = laws.prefix_free
