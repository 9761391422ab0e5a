use Rattle.hunt_words.proofs.TurnsRead.{turns-of-fit, turns-of-read}
use Rattle.hunt_words.proofs.values.turns_named.Goals as goal

pub returns-clause-value : goal.returns-clause-value
returns-clause-value c = turns-of-read c.args.text.now c.turns_of.result c.turns_of.ensures

pub returns-clause-fit : goal.returns-clause-fit
returns-clause-fit c = turns-of-fit c.args.text.now c.turns_of.result c.turns_of.ensures
