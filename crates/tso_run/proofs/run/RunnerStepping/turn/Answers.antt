use Rattle.std.proofs.Common.{◌≡◌, ap, sym, subst, ◌∙◌, List}
use Rattle.access_times.specs.declared.carry.NoCarry.{NoCarry}
use Rattle.access_times.specs.declared.rider.NoRider.{NoRider}
use Rattle.tso_outcome.proofs.RunPlaces.{Steps, stands_next, steps_by}
use Rattle.tso_outcome.specs.Loads.{loads_told}
use Rattle.tso_outcome.specs.Outcomes.{StandsAt}
use Rattle.tso_plain.specs.Plain.{plain}
use Rattle.tso_plain.proofs.ForgetfulSteps.{plain_done}
use Rattle.tso_state.specs.Events.{Told}
use Rattle.tso_state.specs.Runs.{chosen, plain_told}
use Rattle.tso_state.specs.States.{State, all_done}
use Rattle.tso_run.proofs.LoadTells.{IsRunning, accepts_next, all_told_loads}
use Rattle.tso_run.proofs.run.RunnerStepping.turn.Goals as goal

pub step-requires-clause-accepts : goal.step-requires-clause-accepts
step-requires-clause-accepts c =
    let same = c.make_room.ensures.state in
    λ m is. accepts_next _ _ c.make_room.new.self.state m _ _ c.make_room-2.new.self c.args.run.now.clerk.lists
    c.args.run.now.choices
    (subst (λ (u : State NoRider NoCarry). IsRunning (plain u) c.args.run.now.clerk.lists c.args.run.now.choices)
    (sym same) c.requires.under_way)
    (ap (chosen (plain c.make_room.new.self.state)) (sym c.next.ensures.choice) ∙ is) c.make_room-2.ensures.lists
    c.in_ok-make_room-2.ensures.roomy

pub returns-clause-stands : goal.returns-clause-stands
returns-clause-stands c =
    let r = c.args.run.now in
    let s = c.make_room.new.self.state in
    let m = c.step.result in
    let steps : Steps (plain s) (plain c.step.new.self.state) r.choices c.next.new.self m =
    steps_by c.next.ensures.choice c.step.ensures.taken.plainly c.step.ensures.moved.plainly c.next.ensures.rest in
    let told : c.step.new.clerk.lists ≡ loads_told r.clerk.lists (plain_told (plain s) m) =
    all_told_loads _ _ _ _ c.make_room-2.new.self c.step.new.clerk _ c.step.ensures.told
    ∙ ap (λ (list : List Told). loads_told c.make_room-2.new.self.lists list) c.step.ensures.moved.tells
    ∙ ap (λ lists. loads_told lists (plain_told (plain s) m)) c.make_room-2.ensures.lists in
    λ image params schedule t stands. stands_next image params schedule t _ _ _ _ m _ _
    (sym (plain_done s) ∙ ap all_done c.make_room.ensures.state ∙ c.requires.going) steps told
    (subst (λ (u : State NoRider NoCarry). StandsAt image params schedule t (plain u) r.clerk.lists r.choices)
    (sym c.make_room.ensures.state) stands)
