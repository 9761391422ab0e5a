use Rattle.flat_laws.proofs.Followed.{marks_follow}
use Rattle.flat_laws.proofs.laws.askers_follow.Goals as goal

pub returns : goal.returns
returns c = marks_follow
