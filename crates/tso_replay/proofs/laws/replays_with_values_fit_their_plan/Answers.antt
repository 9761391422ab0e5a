use Rattle.replay_audit.proofs.PlaySizes as laws_of
use Rattle.tso_replay.proofs.laws.replays_with_values_fit_their_plan.Goals as goal

pub returns : goal.returns
returns c = laws_of.valued_fits
