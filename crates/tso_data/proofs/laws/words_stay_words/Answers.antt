use Rattle.tso_data.proofs.ByteWords.{opens_small}
use Rattle.tso_data.proofs.LoggedWords.{small_told}
use Rattle.tso_data.proofs.laws.words_stay_words.Goals as goal

pub returns-clause-told : goal.returns-clause-told
returns-clause-told c = small_told

pub returns-clause-opens : goal.returns-clause-opens
returns-clause-opens c = opens_small
