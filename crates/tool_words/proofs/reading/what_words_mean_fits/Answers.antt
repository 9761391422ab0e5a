use Rattle.tool_words.proofs.FittingLemmas.{fitting_law}
use Rattle.tool_words.proofs.reading.what_words_mean_fits.Goals as goal

pub returns : goal.returns
returns c = fitting_law
