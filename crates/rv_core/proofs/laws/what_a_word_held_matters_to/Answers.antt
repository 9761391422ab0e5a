use Rattle.rv_core.proofs.LawLemmas.{local_law, unread_law, whole_law, whole_store_law}
use Rattle.rv_core.proofs.laws.what_a_word_held_matters_to.Goals as goal

pub returns : goal.returns
returns c = record { local = local_law; unread = unread_law; whole = whole_law; whole_store = whole_store_law }
