use Rattle.machine_known.proofs.CarryMoves as following
use Rattle.machine_known.proofs.RetiredNext.{carry_follows}
use Rattle.machine_known.proofs.laws.carries_follow.Goals as goal

pub returns-clause-follow : goal.returns-clause-follow
returns-clause-follow g c = λ s m rider e ports. following.carries_follow g.R.Rider.riding g.K.Carry.carrying s m rider
    e ports

pub returns-clause-told : goal.returns-clause-told
returns-clause-told g c = λ s m y e is. carry_follows g.R.Rider.riding g.K.Carry.carrying s m y e is
