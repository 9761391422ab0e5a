use Rattle.varint_core.proofs.ShortestSpelling as laws
use Rattle.varint_core.proofs.one_spelling.Goals as goal

pub returns : goal.returns
returns c = laws.one_spelling
