use Rattle.vector_reduce.proofs.ThinFileLaws as whole
use Rattle.vector_reduce.proofs.laws.thinned_spellings.Goals as goal

pub returns : goal.returns
returns c = record { read = whole.read_is_spelled; spelled = whole.spelled_is_read; prefix = whole.prefix_free }
