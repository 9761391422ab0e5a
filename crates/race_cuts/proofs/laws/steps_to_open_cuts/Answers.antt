use Rattle.race_cuts.proofs.BackSteps.{back_is_open, first_open}
use Rattle.race_cuts.proofs.laws.steps_to_open_cuts.Goals as goal

pub returns : goal.returns
returns c = record { back = back_is_open; first = first_open }
