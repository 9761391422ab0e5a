use Rattle.replay_audit.proofs.PlaySizes.{replay_fits_law}
use Rattle.replay_audit.proofs.laws.replays_fit_their_plan.Goals as goal

pub returns : goal.returns
returns c = replay_fits_law
