use Rattle.run_outcome.proofs.Later.{earlier_law, next_retires, retires_once, stays_retired}
use Rattle.run_outcome.proofs.laws.instructions_retire_in_turn.Goals as goal

pub returns : goal.returns
returns c = record { next = next_retires; stays = stays_retired; once = retires_once; earlier = earlier_law }
