use Rattle.flat_laws.proofs.LastWords.{cores_shown, done_shown, words_shown}
use Rattle.flat_laws.proofs.LeftSteps.{left_shown}
use Rattle.flat_laws.proofs.ends.a_flat_state_shows_its_end.Goals as goal

pub returns-clause-cores : goal.returns-clause-cores
returns-clause-cores c = cores_shown

pub returns-clause-done : goal.returns-clause-done
returns-clause-done c = done_shown

pub returns-clause-words : goal.returns-clause-words
returns-clause-words c = words_shown

pub returns-clause-left : goal.returns-clause-left
returns-clause-left c = left_shown
