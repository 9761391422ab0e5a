use Rattle.turn_lists.proofs.SpelledOnce.{spelled_once}
use Rattle.turn_lists.proofs.reading.turns_are_spelled_once.Goals as goal

pub returns : goal.returns
returns c = spelled_once
