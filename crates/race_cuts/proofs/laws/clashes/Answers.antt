use Rattle.race_cuts.proofs.NextAccesses.{clash_at_law, clash_next_law}
use Rattle.race_cuts.proofs.laws.clashes.Goals as goal

pub returns : goal.returns
returns c = record { order = clash_next_law; state = clash_at_law }
