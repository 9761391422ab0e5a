-- The marks are those of the moves that can be made, so the one picked can be; after it the notes fit again, and the
-- laws of moves give the promises.
use Rattle.std.proofs.Common.{◌≡◌, ◌∙◌, ap, sym, subst, ◌<◌, ◌%◌, List, length, true, ℕ}
use Rattle.std.proofs.lemmas.List.{with_items_is}
use Rattle.std.proofs.lemmas.Nat.{mod_below}
use Rattle.tso_invariant.proofs.MoveInvariant.{step_cores}
use Rattle.tso_plain.specs.Plain.{plain}
use Rattle.tso_plain.proofs.Events.{plain_event}
use Rattle.tso_plain.proofs.ForgetfulSteps.{plain_step, plain_told}
use Rattle.tso_core.specs.Machineries.{Machinery}
use Rattle.tso_core.specs.Moving.{AcceptsOf, rider_left}
use Rattle.tso_state.specs.States.{State}
use Rattle.tso_state.specs.Steps.{enabled, event}
use Rattle.tso_core.specs.declared.standing.Standing.{Standing}
use Rattle.tso_core.specs.Steppings.{HasMoved, KeepsPromises}
use Rattle.tso_core.proofs.ChosenMove.{found_chosen, found_enabled, found_taken, some_counted}
use Rattle.tso_core.proofs.MoveFrames.{notes_kept}
use Rattle.tso_core.proofs.Promises.{promises_kept}
use Rattle.tso_core.proofs.Standings.{standings_long}
use Rattle.tso_core.proofs.machine.BufferedMachine.step.Goals as goal

pub nonzero_rem-choice : goal.nonzero_rem-choice
nonzero_rem-choice g c =
    some_counted g.R.Rider.riding g.K.Carry.carrying c.self.view_is c.self.invariant.holds c.requires.more
    c.all_marks-marks.ensures.moves c.count.ensures

pub pick-taken-requires : goal.pick-taken-requires
pick-taken-requires g c =
    subst (λ (n : ℕ). c.args.choice % c.count.result < n) c.count.ensures (mod_below c.args.choice c.count.result
    (nonzero_rem-choice g c))

pub make_move-requires-clause-enabled : goal.make_move-requires-clause-enabled
make_move-requires-clause-enabled g c =
    found_enabled g.R.Rider.riding g.K.Carry.carrying c.self.inside.parts c.args.self.now c.args.choice c.count.result
    c.pick-taken.result c.self.view_is
    c.self.invariant.holds c.requires.more c.all_marks-marks.ensures.moves c.count.ensures c.pick-taken.ensures

pub make_move-requires-clause-accepts : goal.make_move-requires-clause-accepts
make_move-requires-clause-accepts g c =
    let taken = found_chosen g.R.Rider.riding g.K.Carry.carrying c.self.inside.parts c.args.self.now c.args.choice
    c.count.result c.pick-taken.result
    c.self.view_is c.self.invariant.holds c.requires.more c.all_marks-marks.ensures.moves c.count.ensures
    c.pick-taken.ensures in
    subst (λ (m : Machinery g.row.R.Denot g.row.K.Denot). AcceptsOf g.C.Clerk.accepts g.C.TsoClerk.accepts_alone
    g.C.Clerk.told_local
    g.C.Clerk.told_touch g.C.TsoClerk.told_logged g.R.Rider.riding g.K.Carry.carrying m.state c.pick-taken.result
    c.args.clerk.now)
    (sym c.self.view_is) (c.requires.accepts c.pick-taken.result taken)

pub invariant_of-self : goal.invariant_of-self
invariant_of-self g c =
    let s : State g.row.R.Denot g.row.K.Denot = c.self.inside.parts.state in
    let t : State g.row.R.Denot g.row.K.Denot = c.make_move.new.self.state in
    let can_be : enabled g.R.Rider.riding g.K.Carry.carrying s c.pick-taken.result ≡ true =
    found_enabled g.R.Rider.riding g.K.Carry.carrying c.self.inside.parts c.args.self.now c.args.choice c.count.result
    c.pick-taken.result c.self.view_is
    c.self.invariant.holds c.requires.more c.all_marks-marks.ensures.moves c.count.ensures c.pick-taken.ensures in
    let roomy = rw (← c.self.view_is) at c.requires.roomy in
    let long : length c.make_move.new.standings ≡ c.self.inside.standings.len =
    standings_long t c.make_move.new.standings c.make_move.ensures.stands
    ∙ ap (λ (x : State g.row.R.Denot g.row.K.Denot). length x.cores) c.make_move.ensures.made.state
    ∙ step_cores g.R.Rider.riding g.K.Carry.carrying (rider_left g.R.Rider.riding g.K.Carry.carrying s t
    c.pick-taken.result) s c.pick-taken.result
    ∙ sym (standings_long s c.self.inside.standings.items c.self.invariant.stands)
    ∙ ap (λ (xs : List Standing). length xs) (sym c.as_mut_slice-standings.ensures.value)
    ∙ c.as_mut_slice-standings.ensures.len in
    notes_kept g.R.Rider.riding g.K.Carry.carrying c.self.inside.parts c.make_move.new.self c.pick-taken.result _
    c.make_move.new.standings
    c.make_move.new.marks c.core-self-inside.result roomy c.self.invariant.holds can_be c.make_move.ensures.made.state
    c.make_move.ensures.made.rooms c.make_move.ensures.stands
    (with_items_is c.self.inside.standings c.make_move.new.standings long) c.make_move.ensures.marked
    c.core-self-inside.ensures

pub returns-clause-taken : goal.returns-clause-taken
returns-clause-taken g c =
    found_taken g.R.Rider.riding g.K.Carry.carrying c.self.inside.parts c.args.self.now c.args.choice c.count.result
    c.pick-taken.result c.self.view_is
    c.self.invariant.holds c.requires.more c.all_marks-marks.ensures.moves c.count.ensures c.pick-taken.ensures

pub returns-clause-moved : goal.returns-clause-moved
returns-clause-moved g c =
    let s : State g.row.R.Denot g.row.K.Denot = c.self.inside.parts.state in
    let rider = rider_left g.R.Rider.riding g.K.Carry.carrying s c.make_move.new.self.state c.pick-taken.result in
    subst (λ (m : Machinery g.row.R.Denot g.row.K.Denot). HasMoved g.R.Rider.riding g.K.Carry.carrying m
    c.make_move.new.self c.pick-taken.result)
    c.self.view_is
    (record {
      state = c.make_move.ensures.made.state;
      plainly = ap (plain {R = g.row.R.Denot} {K = g.row.K.Denot}) c.make_move.ensures.made.state
          ∙ plain_step g.R.Rider.riding g.K.Carry.carrying rider s c.pick-taken.result;
      does = plain_event g.R.Rider.riding g.K.Carry.carrying s c.pick-taken.result;
      tells = plain_told g.R.Rider.riding g.K.Carry.carrying s c.pick-taken.result;
      image = ap (λ (x : State g.row.R.Denot g.row.K.Denot). x.image) c.make_move.ensures.made.state;
      cores = ap (λ (x : State g.row.R.Denot g.row.K.Denot). length x.cores) c.make_move.ensures.made.state
          ∙ step_cores g.R.Rider.riding g.K.Carry.carrying rider s c.pick-taken.result;
      rooms = c.make_move.ensures.made.rooms;
    })

pub returns-clause-keeps : goal.returns-clause-keeps
returns-clause-keeps g c =
    subst (λ (m : Machinery g.row.R.Denot g.row.K.Denot). KeepsPromises g.R.Rider.riding g.K.Carry.carrying m.state
    c.make_move.new.self.state
    (event g.R.Rider.riding g.K.Carry.carrying m.state c.pick-taken.result)) c.self.view_is
    (subst (λ (t : State g.row.R.Denot g.row.K.Denot). KeepsPromises g.R.Rider.riding g.K.Carry.carrying
    c.self.inside.parts.state t
    (event g.R.Rider.riding g.K.Carry.carrying c.self.inside.parts.state c.pick-taken.result))
    (sym c.make_move.ensures.made.state)
    (promises_kept g.R.Rider.riding g.K.Carry.carrying c.self.inside.parts.state c.pick-taken.result
    (rider_left g.R.Rider.riding g.K.Carry.carrying c.self.inside.parts.state c.make_move.new.self.state
    c.pick-taken.result)
    (found_enabled g.R.Rider.riding g.K.Carry.carrying c.self.inside.parts c.args.self.now c.args.choice c.count.result
    c.pick-taken.result c.self.view_is c.self.invariant.holds c.requires.more c.all_marks-marks.ensures.moves
    c.count.ensures c.pick-taken.ensures)
    c.self.invariant.holds))
