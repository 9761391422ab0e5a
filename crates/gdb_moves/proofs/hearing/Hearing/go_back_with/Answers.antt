-- Turn by turn: the place that comes next on the way back is found by the counts that are left, and each turn takes
-- back one of them.
use Rattle.std.proofs.Common.{◌≡◌, ◌∙◌, ◌<◌, ◌+◌, ◌-◌, List, ℕ, length, get_or, refl, sym, subst, arith}
use Rattle.std.specs.Prelude.{Option, MatchOption, slice_index, slice_set}
use Rattle.std.proofs.lemmas.Bool.{leb-false, leb-true}
use Rattle.gdb_packets.specs.declared.replies.Stop as stops
use Rattle.rtr_types.specs.declared.pairs.Which.{Which}
use Rattle.race_log.specs.declared.recording.Recording.{Recording}
use Rattle.race_log.specs.Validity.{Valid}
use Rattle.replay_audit.specs.Determinate.{IsDeterminate}
use Rattle.debug_place.specs.Places.{Placed}
use Rattle.gdb_moves.specs.declared.direction.Direction.TheVariants.{Back}
use Rattle.gdb_moves.specs.Moves.{StepsFree, StepsInto}
use Rattle.gdb_moves.specs.Stopping.{stopping_of}
use Rattle.gdb_moves.proofs.EndLemmas.{whole_at}
use Rattle.gdb_moves.proofs.BackLemmas.{IsTurningBack, back_count, back_few, back_inside, back_last, back_passed}
use Rattle.gdb_moves.proofs.BackLemmas.{back_taken, back_there, turning_last}
use Rattle.gdb_moves.proofs.AheadLemmas.{stopped_turn}
use Rattle.gdb_moves.proofs.LeapEnds.{turning_back_leapt}
use Rattle.gdb_moves.proofs.TurnLemmas.{line_inside}
use Rattle.gdb_moves.proofs.hearing.Hearing.go_back_with.Goals as goal
use Rattle.gdb_moves.proofs.hearing.Hearing.go_back_with.Goals.{After-timeline, else-has, else-has-via-else-has}
use Rattle.gdb_moves.proofs.hearing.Hearing.go_back_with.Goals.{else-has-via-then-has+else-not-lacks}
use Rattle.gdb_moves.proofs.hearing.Hearing.go_back_with.Goals.{then-has+then-not-lacks+in_ok-stop+in_default}

-- the recording is valid, and the timeline has the place before
valid : (c : After-timeline) → Valid c.args.place.now.recording
valid c = subst (λ (r : Recording). Valid r) c.requires.run.recording c.recording.ensures.valid

number_is : (c : After-timeline) → c.loop-number.number ≡ c.loop-number.number - 1 + 1
number_is c = let some = c.loop-number-test.true in omega arith

inside : (c : After-timeline) → c.loop-number.number - 1 < length c.timeline.result.now
inside c = line_inside _ _ c.loop-number.invariant.kept _ _ c.timeline.ensures refl _
    (let some = c.loop-number-test.true in let most = c.loop-number.auto.number in
    let within = c.in_ok-past.ensures.within in omega arith)

pub loop-number-init : goal.loop-number-init
loop-number-init c =
    turning_back_leapt (stopping_of c.args.self.now) c.args.cores c.args.place.now c.leap_back.new.place
    c.in_ok-past.past c.counted-at.result
    (subst (λ (r : Recording). Valid r) c.requires.run.recording c.recording.ensures.valid)
    c.in_ok-past.ensures.leapt c.counted-at.ensures

pub bounds-at-core : goal.bounds-at-core
bounds-at-core c =
    let here = (goal.at.bounds-at-core c).After-timeline in
    back_few _ _ _ _ _ _ c.loop-number.invariant (valid here) _ c.timeline.ensures _ (number_is here) (inside here)

pub overflow_sub-count : goal.overflow_sub-count
overflow_sub-count c =
    let here = (goal.at.overflow_sub-count c).After-timeline in
    let is = back_count _ _ _ _ _ _ c.loop-number.invariant (valid here) _ c.timeline.ensures _ (number_is here)
    (inside here) in
    omega arith

pub has-requires : goal.has-requires
has-requires c =
    let here = (goal.at.has-requires c).After-timeline in
    back_few _ _ _ _ _ _ c.loop-number.invariant (valid here) _ c.timeline.ensures _ (number_is here) (inside here)

pub lacks-requires-clause-core : goal.lacks-requires-clause-core
lacks-requires-clause-core c =
    let here = (goal.at.lacks-requires-clause-core c).After-timeline in
    subst (λ (r : Recording). get_or c.timeline.result.now (c.loop-number.number - 1) 0 < r.params.cores)
    (sym c.loop-number.invariant.kept.recording)
    (back_inside _ _ _ _ _ _ c.loop-number.invariant (valid here) _ c.timeline.ensures _ (number_is here) (inside here))

pub step_until-requires-clause-ahead : goal.step_until-requires-clause-ahead
step_until-requires-clause-ahead c =
    let here = (goal.at.step_until-requires-clause-ahead c).After-timeline in
    back_last _ _ _ _ _ _ c.loop-number.invariant (valid here) _ c.timeline.ensures _ (number_is here) (inside here)
    (sym c.has.ensures ∙ c.if-has.true) (leb-false _ _ (sym c.lacks.ensures ∙ c.if-not-lacks.true))

pub returns-in-Some-clause-goes : goal.returns-in-Some-clause-goes
returns-in-Some-clause-goes c =
    let here = (goal.at.returns-in-Some-clause-goes c).After-timeline in
    let h = c.loop-number.invariant in
    let now = c.loop-number.place in
    let core = get_or c.timeline.result.now (c.loop-number.number - 1) 0 in
    let stopping = stopping_of c.args.self.now in
    stopped_turn Back stopping _ _ h.turns core _ now _ _ h.free
    (back_there _ _ _ _ _ _ h (valid here) _ c.timeline.ensures _ (number_is here)
    (inside here)
    (sym c.has.ensures ∙ c.if-has.true) (leb-false _ _ (sym c.lacks.ensures ∙ c.if-not-lacks.true)))
    (subst (λ (s : Option stops.Stop). MatchOption s (StepsFree Back stopping core now c.step_until.new.place)
    (StepsInto Back stopping core now c.step_until.new.place)) c.in-Some.is c.in_ok-stop.ensures.steps)

pub bounds-at-core-in-loop-number : goal.bounds-at-core-in-loop-number
bounds-at-core-in-loop-number c =
    let here = (goal.at.bounds-at-core-in-loop-number c).After-timeline in
    back_few _ _ _ _ _ _ c.loop-number.invariant (valid here) _ c.timeline.ensures _ (number_is here) (inside here)

pub loop-number-preserved : goal.loop-number-preserved
loop-number-preserved c =
    let here = (goal.at.loop-number-preserved c).After-timeline in
    let now = c.loop-number.place in
    let core = get_or c.timeline.result.now (c.loop-number.number - 1) 0 in
    let at = c.loop-number.at in
    let stopping = stopping_of c.args.self.now in
    let new : List ℕ = slice_set at core (slice_index at core - 1) in
    elim c.if-has.branch [
      | then-has+then-not-lacks+in_ok-stop+in_default w ↦
          subst (λ (p : Placed). IsTurningBack stopping c.args.cores c.args.place.now new (c.loop-number.number - 1) p)
          (sym w.place-is)
          (back_taken _ _ _ _ _ _ c.loop-number.invariant (valid here) _ c.timeline.ensures _ (number_is here)
          (inside here) new refl
          w.step_until.new.place
          (sym c.has.ensures ∙ w.if-has.true) (leb-false _ _ (sym w.lacks.ensures ∙ w.if-not-lacks.true))
          (subst (λ (s : Option stops.Stop). MatchOption s
          (StepsFree Back stopping core now w.step_until.new.place)
          (StepsInto Back stopping core now w.step_until.new.place)) w.in_default.is w.in_ok-stop.ensures.steps))
      | else-has w ↦
          subst (λ (p : Placed). IsTurningBack stopping c.args.cores c.args.place.now new (c.loop-number.number - 1) p)
          (sym w.place-is)
          (back_passed _ _ _ _ _ _ c.loop-number.invariant (valid here) _ c.timeline.ensures _ (number_is here)
          (inside here) new refl
          (λ one. elim w.else-has.branch [
            | else-has-via-then-has+else-not-lacks v ↦ leb-true _ _ (sym v.lacks.ensures ∙ v.if-not-lacks.false)
            | else-has-via-else-has v ↦ let none = sym one ∙ sym c.has.ensures ∙ v.if-has.false in absurd cc
          ]))
    ]
