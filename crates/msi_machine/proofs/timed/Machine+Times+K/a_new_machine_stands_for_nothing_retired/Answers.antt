use Rattle.std.proofs.Common.{sym, subst, []}
use Rattle.access_times.specs.declared.times.Times.{Times}
use Rattle.msi_state.specs.States.{State}
use Rattle.machine_times.proofs.NewMachine.{machine_start}
use Rattle.machine_times.proofs.RiderLaws.{times_fresh}
use Rattle.machine_times.specs.Retirements.{MachineStandsFor}
use Rattle.machine_times.specs.TimedSteps.{times_parts}
use Rattle.msi_machine.proofs.timed.Machine+Times+K.a_new_machine_stands_for_nothing_retired.Goals as goal

pub returns : goal.returns
returns g c = λ image cores limit start.
    subst (λ (s : State Times g.row.K.Denot). MachineStandsFor times_parts g.K.Carry.carrying [] s) (sym start)
    (machine_start times_parts g.K.Carry.carrying times_fresh image cores limit)
