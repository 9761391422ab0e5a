-- The marks are those of the moves that can be made, so the one picked can be; after it the notes fit again, and the
-- laws of moves give the promises.
use Rattle.std.proofs.Common.{◌≡◌, ◌∙◌, ap, refl, sym, subst, ◌<◌, ◌*◌, ◌%◌, List, length, true, ℕ}
use Rattle.std.proofs.lemmas.List.{with_items_is}
use Rattle.std.proofs.lemmas.Nat.{mod_below}
use Rattle.machine_bound.proofs.Capacity.{nearer}
use Rattle.machine_bound.proofs.Payments.{earns}
use Rattle.machine_data.proofs.WordSteps.{step_works}
use Rattle.machine_invariant.specs.Holds.{MachineHolds}
use Rattle.machine_invariant.proofs.MoveInvariant.{holds_kept}
use Rattle.machine_invariant.proofs.StepFrame.{step_cores}
use Rattle.machine_plain.specs.Plain.{plain}
use Rattle.machine_plain.proofs.ForgetfulSteps.{plain_event, plain_step}
use Rattle.machine_plain.proofs.SameMoves.{plain_moves}
use Rattle.machine_invariant.proofs.MoveGrounds.{rooms_there, rows_there}
use Rattle.machine_invariant.proofs.Stuck.{some_move}
use Rattle.msi_state.specs.Events.{Event}
use Rattle.move_marks.proofs.NumberedMoves.{numbered, numbered_chosen, numbered_passes}
use Rattle.msi_state.specs.declared.moves.Move.{Move}
use Rattle.machine_ports.specs.Steppings.{IsNumbered}
use Rattle.msi_state.specs.Moves.{candidates}
use Rattle.msi_state.specs.Runs.{chosen_of}
use Rattle.msi_state.specs.States.{Machinery, State}
use Rattle.msi_state.specs.Steps.{enabled, event, moves, rider_left, step}
use Rattle.msi_machine.specs.declared.standing.Standing.{Standing}
use Rattle.msi_machine.specs.Steppings.{HasMoved, KeepsPromises}
use Rattle.msi_machine.proofs.AtHand.{one_writer}
use Rattle.msi_machine.proofs.ChosenMove.{found_enabled, seen_holds}
use Rattle.msi_machine.proofs.MoveFrames.{notes_kept}
use Rattle.msi_machine.proofs.Standings.{standings_long}
use Rattle.msi_machine.proofs.machine.Machine.step.Goals as goal

pub nonzero_rem-choice : goal.nonzero_rem-choice
nonzero_rem-choice g c =
    let holds = seen_holds g.R.Rider.riding g.K.Carry.carrying c.self.view_is c.self.invariant.holds in
    subst (λ (n : ℕ). 0 < n) (sym (c.count.ensures ∙ ap length c.all_marks-marks.ensures.moves))
    (some_move g.R.Rider.riding g.K.Carry.carrying c.args.self.now.state holds c.requires.more)

pub pick-taken-requires : goal.pick-taken-requires
pick-taken-requires g c =
    subst (λ (n : ℕ). c.args.choice % c.count.result < n) c.count.ensures (mod_below c.args.choice c.count.result
    (nonzero_rem-choice g c))

pub make_move-retired-requires-clause-enabled : goal.make_move-retired-requires-clause-enabled
make_move-retired-requires-clause-enabled g c =
    found_enabled g.R.Rider.riding g.K.Carry.carrying c.self.inside.parts c.args.self.now c.args.choice c.count.result
    c.pick-taken.result c.self.view_is
    c.self.invariant.holds c.requires.more c.all_marks-marks.ensures.moves c.count.ensures c.pick-taken.ensures

pub invariant_of-self : goal.invariant_of-self
invariant_of-self g c =
    let s : State g.row.R.Denot g.row.K.Denot = c.self.inside.parts.state in
    let t : State g.row.R.Denot g.row.K.Denot = c.make_move-retired.new.self.state in
    let can_be : enabled g.R.Rider.riding g.K.Carry.carrying s c.pick-taken.result ≡ true =
    found_enabled g.R.Rider.riding g.K.Carry.carrying c.self.inside.parts c.args.self.now c.args.choice c.count.result
    c.pick-taken.result c.self.view_is
    c.self.invariant.holds c.requires.more c.all_marks-marks.ensures.moves c.count.ensures c.pick-taken.ensures in
    let roomy = rw (← c.self.view_is) at c.requires.roomy in
    let long : length c.make_move-retired.new.standings ≡ c.self.inside.standings.len =
    standings_long t c.make_move-retired.new.standings c.make_move-retired.ensures.noted.stands
    ∙ ap (λ (x : State g.row.R.Denot g.row.K.Denot). length x.cores) c.make_move-retired.ensures.made.state
    ∙ step_cores g.R.Rider.riding g.K.Carry.carrying (rider_left g.R.Rider.riding g.K.Carry.carrying s t
    c.pick-taken.result) s c.pick-taken.result
    ∙ sym (standings_long s c.self.inside.standings.items c.self.invariant.stands)
    ∙ ap (λ (xs : List Standing). length xs) (sym c.as_mut_slice-standings.ensures.value)
    ∙ c.as_mut_slice-standings.ensures.len in
    notes_kept g.R.Rider.riding g.K.Carry.carrying c.self.inside.parts c.make_move-retired.new.self c.pick-taken.result
    _ c.make_move-retired.new.standings c.make_move-retired.new.marks c.make_move-retired.new.asker
    c.make_move-retired.result roomy c.self.invariant.holds can_be c.make_move-retired.ensures.made.state
    c.make_move-retired.ensures.made.rooms
    (with_items_is c.self.inside.standings c.make_move-retired.new.standings long) c.make_move-retired.ensures.noted
    c.make_move-retired.ensures.asker c.make_move-retired.ensures.made.retired

pub returns-clause-taken : goal.returns-clause-taken
returns-clause-taken g c =
    let s : State g.row.R.Denot g.row.K.Denot = c.args.self.now.state in
    let holds = seen_holds g.R.Rider.riding g.K.Carry.carrying c.self.view_is c.self.invariant.holds in
    let some : 0 < length (moves g.R.Rider.riding g.K.Carry.carrying s) =
    some_move g.R.Rider.riding g.K.Carry.carrying s holds c.requires.more in
    let is : IsNumbered (moves g.R.Rider.riding g.K.Carry.carrying s) c.args.choice c.pick-taken.result =
    numbered c.args.choice c.count.result c.pick-taken.result c.all_marks-marks.ensures.moves c.count.ensures
    c.pick-taken.ensures in
    let can_be = numbered_passes (enabled g.R.Rider.riding g.K.Carry.carrying s)
    (candidates (length s.cores) (4 * length s.cores)) c.args.choice c.pick-taken.result some is in
    record {
      some = some;
      numbered = is;
      plainly = ap (λ (ms : List Move). chosen_of ms c.args.choice)
          (sym (plain_moves g.R.Rider.riding g.K.Carry.carrying s))
          ∙ numbered_chosen (λ (ms : List Move). chosen_of ms c.args.choice)
          (moves g.R.Rider.riding g.K.Carry.carrying s) c.args.choice c.pick-taken.result (λ first later. refl) some is;
      row = rows_there g.R.Rider.riding g.K.Carry.carrying s c.pick-taken.result holds can_be;
      room = rooms_there g.R.Rider.riding g.K.Carry.carrying s c.pick-taken.result holds can_be;
    }

pub returns-clause-moved : goal.returns-clause-moved
returns-clause-moved g c =
    let s : State g.row.R.Denot g.row.K.Denot = c.self.inside.parts.state in
    let rider = rider_left g.R.Rider.riding g.K.Carry.carrying s c.make_move-retired.new.self.state
    c.pick-taken.result in
    subst (λ (m : Machinery g.row.R.Denot g.row.K.Denot). HasMoved g.R.Rider.riding g.K.Carry.carrying m
    c.make_move-retired.new.self c.pick-taken.result)
    c.self.view_is
    (record {
      state = c.make_move-retired.ensures.made.state;
      plainly = ap (plain {R = g.row.R.Denot} {K = g.row.K.Denot}) c.make_move-retired.ensures.made.state
          ∙ plain_step g.R.Rider.riding g.K.Carry.carrying rider s c.pick-taken.result;
      tells = plain_event g.R.Rider.riding g.K.Carry.carrying s c.pick-taken.result;
      image = ap (λ (x : State g.row.R.Denot g.row.K.Denot). x.image) c.make_move-retired.ensures.made.state;
      cores = ap (λ (x : State g.row.R.Denot g.row.K.Denot). length x.cores) c.make_move-retired.ensures.made.state
          ∙ step_cores g.R.Rider.riding g.K.Carry.carrying rider s c.pick-taken.result;
      rooms = c.make_move-retired.ensures.made.rooms;
    })

pub returns-clause-keeps : goal.returns-clause-keeps
returns-clause-keeps g c =
    let s : State g.row.R.Denot g.row.K.Denot = c.self.inside.parts.state in
    let can_be : enabled g.R.Rider.riding g.K.Carry.carrying s c.pick-taken.result ≡ true =
    found_enabled g.R.Rider.riding g.K.Carry.carrying c.self.inside.parts c.args.self.now c.args.choice c.count.result
    c.pick-taken.result c.self.view_is
    c.self.invariant.holds c.requires.more c.all_marks-marks.ensures.moves c.count.ensures c.pick-taken.ensures in
    let rider = rider_left g.R.Rider.riding g.K.Carry.carrying s c.make_move-retired.new.self.state
    c.pick-taken.result in
    let e : Event = event g.R.Rider.riding g.K.Carry.carrying s c.pick-taken.result in
    let after : MachineHolds g.R.Rider.riding g.K.Carry.carrying (step g.R.Rider.riding g.K.Carry.carrying rider s
    c.pick-taken.result) =
    holds_kept g.R.Rider.riding g.K.Carry.carrying s c.pick-taken.result rider can_be c.self.invariant.holds in
    subst (λ (m : Machinery g.row.R.Denot g.row.K.Denot). KeepsPromises g.R.Rider.riding g.K.Carry.carrying m.state
    c.make_move-retired.new.self.state
    (event g.R.Rider.riding g.K.Carry.carrying m.state c.pick-taken.result)) c.self.view_is
    (subst (λ (t : State g.row.R.Denot g.row.K.Denot). KeepsPromises g.R.Rider.riding g.K.Carry.carrying s t e)
    (sym c.make_move-retired.ensures.made.state)
    (record {
      earns = earns g.R.Rider.riding g.K.Carry.carrying s c.pick-taken.result rider can_be c.self.invariant.holds;
      nearer = nearer g.R.Rider.riding g.K.Carry.carrying s c.pick-taken.result rider can_be c.self.invariant.holds
          after;
      coherent = λ memory k.
          (step_works g.R.Rider.riding g.K.Carry.carrying s c.pick-taken.result rider memory can_be
          c.self.invariant.holds k).coherent;
      finds = λ memory k. (step_works g.R.Rider.riding g.K.Carry.carrying s c.pick-taken.result rider memory can_be
          c.self.invariant.holds k).finds;
      one_writer = one_writer g.R.Rider.riding g.K.Carry.carrying
          (step g.R.Rider.riding g.K.Carry.carrying rider s c.pick-taken.result) after;
    }))
