use Rattle.machine_plain.proofs.ForgetfulSteps.{plain_step, plain_event}
use Rattle.machine_plain.proofs.laws.riders_change_nothing.Goals as goal

pub returns-clause-step : goal.returns-clause-step
returns-clause-step g c = λ riding carrying rider s m. plain_step riding carrying rider s m

pub returns-clause-event : goal.returns-clause-event
returns-clause-event g c = λ riding carrying s m. plain_event riding carrying s m
