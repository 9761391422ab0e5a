-- Turn by turn: the place that comes next is found by the counts reached so far, and each turn adds one to them.
use Rattle.std.proofs.Common.{◌∙◌, ◌<◌, ◌+◌, List, ℕ, length, get_or, refl, sym, subst, arith}
use Rattle.std.specs.Prelude.{Option, MatchOption, slice_index, slice_set}
use Rattle.std.proofs.lemmas.Bool.{leb-false, leb-true}
use Rattle.gdb_packets.specs.declared.replies.Stop as stops
use Rattle.race_log.specs.declared.recording.Recording.{Recording}
use Rattle.race_log.specs.Validity.{Valid}
use Rattle.debug_place.specs.Places.{Placed}
use Rattle.gdb_moves.specs.declared.direction.Direction.TheVariants.{Forward}
use Rattle.gdb_moves.specs.Moves.{StepsFree, StepsInto}
use Rattle.gdb_moves.specs.Stopping.{stopping_of}
use Rattle.gdb_moves.proofs.AheadLemmas.{stopped_turn}
use Rattle.gdb_moves.proofs.LeapEnds.{turning_leapt}
use Rattle.gdb_moves.proofs.TurnLemmas.{IsTurning, line_inside, same_line, turn_few, turn_inside, turn_next, turn_passed}
use Rattle.gdb_moves.proofs.TurnLemmas.{turn_room, turn_taken, turn_there}
use Rattle.gdb_moves.proofs.hearing.Hearing.go_with.Goals as goal
use Rattle.gdb_moves.proofs.hearing.Hearing.go_with.Goals.{After-timeline, else-has, else-has-via-else-has}
use Rattle.gdb_moves.proofs.hearing.Hearing.go_with.Goals.{else-has-via-then-has+else-lacks}
use Rattle.gdb_moves.proofs.hearing.Hearing.go_with.Goals.{then-has+then-lacks+in_ok-stop+in_default}

-- the recording is valid, and the timeline has this place
valid : (c : After-timeline) → Valid c.args.place.now.recording
valid c = subst (λ (r : Recording). Valid r) c.requires.run.recording c.recording.ensures.valid

inside : (c : After-timeline) → c.loop-number.number < length c.timeline.result.now
inside c = line_inside _ _ c.loop-number.invariant.kept _ _ c.timeline.ensures
    (c.timeline-number-end.ensures ∙ same_line _ _ c.leap.ensures.kept) _
    c.loop-number-test.true

pub loop-number-init : goal.loop-number-init
loop-number-init c =
    turning_leapt (stopping_of c.args.self.now) c.args.cores c.args.place.now c.leap.new.place c.in_ok-from.from
    c.counted-at.result (subst (λ (r : Recording). Valid r) c.requires.run.recording c.recording.ensures.valid)
    c.in_ok-from.ensures.within c.in_ok-from.ensures.leapt c.counted-at.ensures

pub bounds-at-core : goal.bounds-at-core
bounds-at-core c =
    let here = (goal.at.bounds-at-core c).After-timeline in
    turn_few _ _ _ _ _ _ c.loop-number.invariant (valid here) _ c.timeline.ensures (inside here)

pub has-requires : goal.has-requires
has-requires c =
    let here = (goal.at.has-requires c).After-timeline in
    turn_few _ _ _ _ _ _ c.loop-number.invariant (valid here) _ c.timeline.ensures (inside here)

pub lacks-requires-clause-valid : goal.lacks-requires-clause-valid
lacks-requires-clause-valid c = subst (λ (r : Recording). Valid r) (sym c.loop-number.invariant.kept.recording)
    (valid (goal.at.lacks-requires-clause-valid c).After-timeline)

pub lacks-requires-clause-core : goal.lacks-requires-clause-core
lacks-requires-clause-core c =
    let here = (goal.at.lacks-requires-clause-core c).After-timeline in
    subst (λ (r : Recording). get_or c.timeline.result.now c.loop-number.number 0 < r.params.cores)
    (sym c.loop-number.invariant.kept.recording)
    (turn_inside _ _ _ _ _ _ c.loop-number.invariant (valid here) _ c.timeline.ensures (inside here))

pub step_until-requires-clause-ahead : goal.step_until-requires-clause-ahead
step_until-requires-clause-ahead c =
    let here = (goal.at.step_until-requires-clause-ahead c).After-timeline in
    turn_next _ _ _ _ _ _ c.loop-number.invariant (valid here) _ c.timeline.ensures (inside here)
    (leb-true _ _ (sym c.lacks.ensures ∙ c.if-lacks.true))

pub overflow_add-at : goal.overflow_add-at
overflow_add-at c =
    let here = (goal.at.overflow_add-at c).After-timeline in
    let room = turn_room _ _ _ _ _ _ c.loop-number.invariant (valid here) _ c.timeline.ensures (inside here) in
    omega arith

pub bounds-at-core-in-loop-number : goal.bounds-at-core-in-loop-number
bounds-at-core-in-loop-number c =
    let here = (goal.at.bounds-at-core-in-loop-number c).After-timeline in
    turn_few _ _ _ _ _ _ c.loop-number.invariant (valid here) _ c.timeline.ensures (inside here)

pub returns-in-Some-clause-goes : goal.returns-in-Some-clause-goes
returns-in-Some-clause-goes c =
    let here = (goal.at.returns-in-Some-clause-goes c).After-timeline in
    let h = c.loop-number.invariant in
    let now = c.loop-number.place in
    let core = get_or c.timeline.result.now c.loop-number.number 0 in
    let stopping = stopping_of c.args.self.now in
    stopped_turn Forward stopping _ _ h.turns core _ now _ _ h.free
    (turn_there _ _ _ _ _ _ h (valid here) _ c.timeline.ensures (inside here)
    (sym c.has.ensures ∙ c.if-has.true) (leb-true _ _ (sym c.lacks.ensures ∙ c.if-lacks.true)))
    (subst (λ (s : Option stops.Stop). MatchOption s (StepsFree Forward stopping core now c.step_until.new.place)
    (StepsInto Forward stopping core now c.step_until.new.place)) c.in-Some.is c.in_ok-stop.ensures.steps)

pub loop-number-preserved : goal.loop-number-preserved
loop-number-preserved c =
    let here = (goal.at.loop-number-preserved c).After-timeline in
    let now = c.loop-number.place in
    let core = get_or c.timeline.result.now c.loop-number.number 0 in
    let at = c.loop-number.at in
    let stopping = stopping_of c.args.self.now in
    let new : List ℕ = slice_set at core (slice_index at core + 1) in
    elim c.if-has.branch [
      | then-has+then-lacks+in_ok-stop+in_default w ↦
          subst (λ (p : Placed). IsTurning stopping c.args.cores c.args.place.now new (c.loop-number.number + 1) p)
          (sym w.place-is)
          (turn_taken _ _ _ _ _ _ c.loop-number.invariant (valid here) _ c.timeline.ensures
          (inside here) new refl w.step_until.new.place
          (sym c.has.ensures ∙ w.if-has.true) (leb-true _ _ (sym w.lacks.ensures ∙ w.if-lacks.true))
          (subst (λ (s : Option stops.Stop). MatchOption s (StepsFree Forward stopping core now w.step_until.new.place)
          (StepsInto Forward stopping core now w.step_until.new.place)) w.in_default.is w.in_ok-stop.ensures.steps))
      | else-has w ↦
          subst (λ (p : Placed). IsTurning stopping c.args.cores c.args.place.now new (c.loop-number.number + 1) p)
          (sym w.place-is)
          (turn_passed _ _ _ _ _ _ c.loop-number.invariant (valid here) _ c.timeline.ensures (inside here) new refl
          (λ one. elim w.else-has.branch [
            | else-has-via-then-has+else-lacks v ↦ leb-false _ _ (sym v.lacks.ensures ∙ v.if-lacks.false)
            | else-has-via-else-has v ↦ let none = sym one ∙ sym c.has.ensures ∙ v.if-has.false in absurd cc
          ]))
    ]
