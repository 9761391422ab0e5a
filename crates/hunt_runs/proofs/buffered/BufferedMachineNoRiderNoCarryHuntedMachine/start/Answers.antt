use Rattle.std.proofs.Common.{◌≤◌, sym, subst}
use Rattle.access_times.specs.declared.carry.NoCarry.{NoCarry}
use Rattle.access_times.specs.declared.rider.NoRider.{NoRider}
use Rattle.tso_bound.specs.Bound.{left}
use Rattle.tso_bound.specs.Ends.{most_steps}
use Rattle.tso_state.specs.States.{State}
use Rattle.hunt_runs.proofs.StartBounds.{tso_few_left}
use Rattle.hunt_runs.proofs.buffered.BufferedMachineNoRiderNoCarryHuntedMachine.start.Goals as goal

pub returns-clause-few : goal.returns-clause-few
returns-clause-few c =
    subst (λ (s : State NoRider NoCarry). left s ≤ most_steps c.args.params) (sym c.in_ok-machine.ensures.start)
    (tso_few_left _ _ c.args.program c.args.params)
