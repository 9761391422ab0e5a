use Rattle.std.proofs.Common.{◌≤◌, sym, subst}
use Rattle.access_times.specs.declared.carry.NoCarry.{NoCarry}
use Rattle.access_times.specs.declared.rider.NoRider.{NoRider}
use Rattle.tso_bound.specs.Bound.{left}
use Rattle.tso_bound.specs.Ends.{most_steps}
use Rattle.tso_state.specs.States.{State}
use Rattle.hunt_runs.proofs.StartBounds.{tso_few_left}
use Rattle.tso_plain.specs.Plain.{plain}
use Rattle.hunt_runs.proofs.StartRuns.{tso_runs_from_start}
use Rattle.hunt_runs.proofs.buffered.BufferedMachineNoRiderNoCarryHuntedMachine.restart.Goals as goal

pub returns-clause-stands : goal.returns-clause-stands
returns-clause-stands c =
    tso_runs_from_start c.args.self.state.image c.args.params (plain c.in_ok-machine.machine.state)
    c.in_ok-machine.ensures.plain

pub returns-clause-few : goal.returns-clause-few
returns-clause-few c =
    subst (λ (s : State NoRider NoCarry). left s ≤ most_steps c.args.params) (sym c.in_ok-machine.ensures.start)
    (tso_few_left _ _ c.args.self.state.image c.args.params)
