use Rattle.schedule_pick.proofs.ChoiceLemmas.{following_law}
use Rattle.schedule_pick.proofs.laws.one_choice_after_the_other.Goals as goal

pub returns : goal.returns
returns c = following_law
