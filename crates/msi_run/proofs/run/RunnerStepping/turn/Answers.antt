use Rattle.std.proofs.Common.{◌≡◌, ap, sym, subst, ◌∙◌}
use Rattle.access_times.specs.declared.carry.NoCarry.{NoCarry}
use Rattle.access_times.specs.declared.rider.NoRider.{NoRider}
use Rattle.machine_plain.proofs.Shows.{plain_done}
use Rattle.machine_plain.specs.Plain.{plain}
use Rattle.msi_state.specs.Events.{Event}
use Rattle.msi_state.specs.Runs.{plain_event}
use Rattle.msi_state.specs.States.{State, all_done}
use Rattle.msi_state.specs.Steps.{AcceptsNext}
use Rattle.load_lists.specs.Lists.{LoadRooms}
use Rattle.rtr_types.specs.declared.instr.Instr.{Instr}
use Rattle.run_outcome.proofs.RunPlaces.{Steps, stands_next, steps_by}
use Rattle.run_outcome.specs.Loads.{lists_told}
use Rattle.run_outcome.specs.Outcomes.{StandsAt}
use Rattle.msi_run.proofs.RunPlaces.{accepts_next, told_lists}
use Rattle.run_steps.specs.Clerks.{Accepts}
use Rattle.msi_run.proofs.run.RunnerStepping.turn.Goals as goal

pub step-requires-clause-accepts : goal.step-requires-clause-accepts
step-requires-clause-accepts c =
    let way = c.requires.under_way in
    let roomy = c.in_ok-make_room-2.ensures.roomy in
    subst (AcceptsNext (λ (l : LoadRooms) (i : Instr). Accepts l i) c.make_room-2.new.self)
    (sym c.make_room.ensures.state)
    (accepts_next way.image way.params way.schedule way.t c.args.run.now.machine.state c.args.run.now.clerk.lists
    c.args.run.now.choices c.make_room-2.new.self way.fits way.stands_so c.make_room-2.ensures.lists roomy)

pub returns-clause-stands : goal.returns-clause-stands
returns-clause-stands c =
    let r = c.args.run.now in
    let s = c.make_room.new.self.state in
    let m = c.step.result.taken in
    let steps : Steps (plain s) (plain c.step.new.self.state) r.choices c.next.new.self m =
    steps_by c.next.ensures.choice c.step.ensures.taken.plainly c.step.ensures.moved.plainly c.next.ensures.rest in
    let told : c.step.new.clerk.lists ≡ lists_told r.clerk.lists (plain_event (plain s) m) =
    told_lists _ _ c.make_room-2.new.self c.step.new.clerk _ _ c.step.ensures.told
    ∙ ap (λ (e : Event). lists_told c.make_room-2.new.self.lists e) c.step.ensures.moved.tells
    ∙ ap (λ lists. lists_told lists (plain_event (plain s) m)) c.make_room-2.ensures.lists in
    λ image params schedule t stands. stands_next image params schedule t _ _ _ _ _ _ m
    (sym (plain_done s) ∙ ap all_done c.make_room.ensures.state ∙ c.requires.going) steps told
    (subst (λ (u : State NoRider NoCarry). StandsAt image params schedule t (plain u) r.clerk.lists r.choices)
    (sym c.make_room.ensures.state) stands)
