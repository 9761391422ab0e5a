use Rattle.std.proofs.Common.{◌≡◌, ap, sym, subst, ◌∙◌, List, ◌++◌}
use Rattle.access_times.specs.declared.carry.NoCarry.{NoCarry}
use Rattle.access_times.specs.declared.rider.NoRider.{NoRider}
use Rattle.rtr_types.specs.declared.access.Access.{Access}
use Rattle.tso_outcome.proofs.RunPlaces.{Steps, steps_by}
use Rattle.tso_plain.proofs.ForgetfulSteps.{plain_done}
use Rattle.tso_plain.specs.Plain.{plain}
use Rattle.tso_state.specs.Events.{Told}
use Rattle.tso_state.specs.Runs.{plain_told}
use Rattle.tso_state.specs.States.{State, all_done}
use Rattle.tso_told.specs.Played.{ordered_told}
use Rattle.run_accesses.proofs.TsoKeptAccesses.{accepts_next, all_told_kept, stands_next}
use Rattle.run_accesses.specs.TsoAccesses.{StandsAt}
use Rattle.run_accesses.proofs.buffered.RunnerStepping.turn.Goals as goal

pub step-requires-clause-accepts : goal.step-requires-clause-accepts
step-requires-clause-accepts c =
    λ m is. accepts_next _ _ c.make_room.new.self.state m _ _ c.make_room-2.new.self c.in_ok-make_room-2.ensures.roomy

pub returns-clause-stands : goal.returns-clause-stands
returns-clause-stands c =
    let r = c.args.run.now in
    let s = c.make_room.new.self.state in
    let m = c.step.result in
    let steps : Steps (plain s) (plain c.step.new.self.state) r.choices c.next.new.self m =
    steps_by c.next.ensures.choice c.step.ensures.taken.plainly c.step.ensures.moved.plainly c.next.ensures.rest in
    let told : c.step.new.clerk.items ≡ r.clerk.items ++ ordered_told (plain_told (plain s) m) =
    all_told_kept _ _ _ _ c.make_room-2.new.self c.step.new.clerk _ c.step.ensures.told
    ∙ ap (λ (list : List Told). c.make_room-2.new.self.items ++ ordered_told list) c.step.ensures.moved.tells
    ∙ ap (λ (list : List Access). list ++ ordered_told (plain_told (plain s) m)) c.make_room-2.ensures.kept in
    λ image params schedule t stands. stands_next image params schedule t _ _ _ _ _ _ m
    (sym (plain_done s) ∙ ap all_done c.make_room.ensures.state ∙ c.requires.going) steps told
    (subst (λ (u : State NoRider NoCarry). StandsAt image params schedule t (plain u) r.clerk.items r.choices)
    (sym c.make_room.ensures.state) stands)
