use Rattle.tso_data.proofs.WordSteps.{step_works}
use Rattle.tso_data.proofs.laws.every_step_keeps_data.Goals as goal

pub returns-clause-coherent : goal.returns-clause-coherent
returns-clause-coherent g c =
    λ s move rider memory e h k. (step_works g.R.Rider.riding g.K.Carry.carrying s move rider memory e h k).coherent

pub returns-clause-finds : goal.returns-clause-finds
returns-clause-finds g c =
    λ s move rider memory e h k. (step_works g.R.Rider.riding g.K.Carry.carrying s move rider memory e h k).finds
