use Rattle.std.proofs.Common.{◌∙◌, ap, sym, subst}
use Rattle.access_times.specs.declared.carry.NoCarry.{NoCarry}
use Rattle.access_times.specs.declared.rider.NoRider.{NoRider}
use Rattle.tso_plain.proofs.ForgetfulSteps.{plain_done}
use Rattle.tso_plain.specs.Plain.{plain}
use Rattle.tso_state.specs.States.{State, all_done}
use Rattle.tso_outcome.specs.Outcomes.{RunsAt}
use Rattle.hunt_runs.specs.BufferedSeen.{changes_in}
use Rattle.hunt_runs.proofs.BufferedRuns.{accepts_all, stands_next, told_changes, told_is}
use Rattle.hunt_runs.proofs.buffered.BufferedMachineNoRiderNoCarryHuntedMachine.take.Goals as goal

pub step-requires-clause-accepts : goal.step-requires-clause-accepts
step-requires-clause-accepts c = λ m is. accepts_all _ _ _ _ _

pub returns-clause-stands : goal.returns-clause-stands
returns-clause-stands c = λ image params schedule t rest is stands.
    let s = c.make_room.new.self.state in
    stands_next image params schedule t c.args.number (plain s) (plain c.step.new.self.state) rest c.step.result
    (sym (plain_done s) ∙ ap all_done c.make_room.ensures.state ∙ c.requires.going) c.step.ensures.taken.plainly
    c.step.ensures.moved.plainly is
    (subst (λ (u : State NoRider NoCarry). RunsAt image params schedule t (plain u) rest)
    (sym c.make_room.ensures.state) stands)

pub returns-clause-changes : goal.returns-clause-changes
returns-clause-changes c = λ image params schedule t rest is stands.
    let s = c.make_room.new.self.state in
    told_changes _ _ _ _ c.step.new.clerk _ _ c.step.ensures.told
    ∙ ap changes_in c.step.ensures.moved.tells
    ∙ told_is image params schedule t c.args.number (plain s) rest c.step.result c.step.ensures.taken.plainly is
    (subst (λ (u : State NoRider NoCarry). RunsAt image params schedule t (plain u) rest)
    (sym c.make_room.ensures.state) stands)
