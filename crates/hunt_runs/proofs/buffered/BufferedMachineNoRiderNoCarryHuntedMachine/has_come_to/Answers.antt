use Rattle.std.proofs.Common.{◌∙◌, sym}
use Rattle.tso_plain.specs.Plain.{plain}
use Rattle.tso_plain.proofs.ForgetfulSteps.{plain_done}
use Rattle.hunt_runs.proofs.BufferedRuns.{ends_as}
use Rattle.hunt_runs.proofs.buffered.BufferedMachineNoRiderNoCarryHuntedMachine.has_come_to.Goals as goal

pub returns : goal.returns
returns c = λ image params schedule t rest fits stands.
    let s = c.args.self.now.state in
    ends_as image params schedule t (plain s) rest fits (sym (plain_done s) ∙ c.requires) stands
