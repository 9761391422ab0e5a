use Rattle.std.proofs.Common.{sym, subst, []}
use Rattle.access_times.specs.declared.times.Times.{Times}
use Rattle.machine_times.proofs.RiderLaws.{times_fresh}
use Rattle.machine_times.specs.TimedSteps.{times_parts}
use Rattle.tso_state.specs.States.{State}
use Rattle.tso_times.proofs.NoAccessYet.{buffered_start}
use Rattle.tso_times.specs.Timed.{StandsAfter}
use Rattle.tso_core.proofs.timed.BufferedMachine+Times+K.a_new_machine_stands_for_no_access.Goals as goal

pub returns : goal.returns
returns g c = λ image cores limit start.
    subst (λ (s : State Times g.row.K.Denot). StandsAfter times_parts g.K.Carry.carrying [] s) (sym start)
    (buffered_start times_parts g.K.Carry.carrying times_fresh image cores limit)
