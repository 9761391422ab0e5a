use Rattle.machine_data.proofs.WordSteps.{step_works}
use Rattle.machine_data.proofs.laws.every_step_keeps_data.Goals as goal

pub returns-clause-coherent : goal.returns-clause-coherent
returns-clause-coherent g c = λ s move rider memory is holds h. (step_works g.R.Rider.riding g.K.Carry.carrying s move
    rider memory is holds h).coherent

pub returns-clause-finds : goal.returns-clause-finds
returns-clause-finds g c = λ s move memory is holds h. (step_works g.R.Rider.riding g.K.Carry.carrying s move
    g.R.Rider.riding.fresh memory is holds h).finds
