use Rattle.cut_replay.proofs.Unique.{one_state_law}
use Rattle.cut_replay.proofs.laws.one_state.Goals as goal

pub returns : goal.returns
returns c = one_state_law
