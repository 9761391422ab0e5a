use Rattle.cut_index.proofs.HeldAccesses.{word_at_law}
use Rattle.cut_index.proofs.laws.words_are_left.Goals as goal

pub returns : goal.returns
returns c = word_at_law
