use Rattle.run_replays.proofs.Loads.{outcome_loads, play_loads}
use Rattle.run_replays.proofs.laws.loads_are_those_of_the_accesses.Goals as goal

pub returns : goal.returns
returns c = record { outcome = outcome_loads; play = play_loads }
