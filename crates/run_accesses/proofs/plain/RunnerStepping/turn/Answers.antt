use Rattle.std.proofs.Common.{◌≡◌, ap, sym, subst, ◌∙◌, List, ◌++◌}
use Rattle.access_times.specs.declared.carry.NoCarry.{NoCarry}
use Rattle.access_times.specs.declared.rider.NoRider.{NoRider}
use Rattle.machine_plain.proofs.Shows.{plain_done}
use Rattle.machine_plain.specs.Plain.{plain}
use Rattle.msi_state.specs.Events.{Event}
use Rattle.msi_state.specs.Runs.{accesses_in, plain_event}
use Rattle.msi_state.specs.States.{State, all_done}
use Rattle.rtr_types.specs.declared.access.Access.{Access}
use Rattle.run_outcome.proofs.RunPlaces.{Steps, steps_by}
use Rattle.run_accesses.proofs.KeptAccesses.{accepts_next, stands_next, told_accesses}
use Rattle.run_accesses.specs.Accesses.{StandsAt}
use Rattle.run_accesses.proofs.plain.RunnerStepping.turn.Goals as goal

pub step-requires-clause-accepts : goal.step-requires-clause-accepts
step-requires-clause-accepts c =
    accepts_next c.make_room.new.self.state c.make_room-2.new.self c.in_ok-make_room-2.ensures.roomy

pub returns-clause-stands : goal.returns-clause-stands
returns-clause-stands c =
    let r = c.args.run.now in
    let s = c.make_room.new.self.state in
    let m = c.step.result.taken in
    let steps : Steps (plain s) (plain c.step.new.self.state) r.choices c.next.new.self m =
    steps_by c.next.ensures.choice c.step.ensures.taken.plainly c.step.ensures.moved.plainly c.next.ensures.rest in
    let told : c.step.new.clerk.items ≡ r.clerk.items ++ accesses_in (plain_event (plain s) m) =
    told_accesses _ _ c.make_room-2.new.self c.step.new.clerk _ _ c.step.ensures.told
    ∙ ap (λ (e : Event). c.make_room-2.new.self.items ++ accesses_in e) c.step.ensures.moved.tells
    ∙ ap (λ (list : List Access). list ++ accesses_in (plain_event (plain s) m)) c.make_room-2.ensures.kept in
    λ image params schedule t stands. stands_next image params schedule t _ _ _ _ _ _ m
    (sym (plain_done s) ∙ ap all_done c.make_room.ensures.state ∙ c.requires.going) steps told
    (subst (λ (u : State NoRider NoCarry). StandsAt image params schedule t (plain u) r.clerk.items r.choices)
    (sym c.make_room.ensures.state) stands)
