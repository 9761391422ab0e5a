use Rattle.std.proofs.Common.{subst}
use Rattle.flat_machine.specs.Machines.{IsKept}
use Rattle.flat_machine.specs.declared.machine.FlatMachine.{FlatMachine}
use Rattle.hunt_runs.proofs.FlatEnds.{flat_ends}
use Rattle.hunt_runs.proofs.flat.FlatRunHuntedMachine.has_come_to.Goals as goal

pub returns : goal.returns
returns c = λ image params schedule t rest fits at.
    flat_ends c.args.self.now image params schedule t rest
    (subst (λ (m : FlatMachine). IsKept m) c.self.view_is c.self.invariant.1) c.requires fits at
