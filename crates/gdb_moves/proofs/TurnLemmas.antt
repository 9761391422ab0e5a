-- Turn by turn along the timeline: of the cores that move the place has what stands at the places so far, and at least
-- as many instructions as the timeline has come to.
use Rattle.std.proofs.Common.{◌≡◌, inl, inr, ℕ, ◌+◌, ◌<◌, ◌≤◌, true, List, ◌∷◌, ◌++◌, length, take, drop, get_or}
use Rattle.std.proofs.Common.{replicate, suc, refl, sym, ap, subst, ◌∙◌, add-one, arith, length-set}
use Rattle.std.specs.Prelude.{slice_index, slice_set}
use Rattle.std.proofs.Math.Path.{fun_ext}
use Rattle.std.proofs.Math.Seq.{drop-cons}
use Rattle.std.proofs.lemmas.Bool.{cases_lt}
use Rattle.std.proofs.lemmas.List.{length-replicate, take-append-drop, take_more}
use native.Mathlib.Decide.{ℕ_discrete}
use Rattle.rtr_types.proofs.Ranges.{zero_at}
use Rattle.rtr_types.specs.CoreSets.{has}
use Rattle.rtr_types.specs.declared.TheConstants.{CORES_MAX}
use Rattle.rtr_types.specs.declared.core_set.CoreSet.{CoreSet}
use Rattle.rtr_types.specs.declared.pairs.Which.{Which}
use Rattle.replay_core.specs.Orders.{Ordered, Ready, bump, counts, nought}
use Rattle.replay_core.specs.Plans.{Plan}
use Rattle.replay_core.specs.Tallies.{count_of}
use Rattle.replay_core.proofs.Counts.{bump_else, bump_same, counts_on}
use Rattle.replay_core.proofs.Lists.{ordered_on}
use Rattle.replay_audit.specs.Audits.{IsInstrOf}
use Rattle.race_log.specs.declared.recording.Recording.{Recording}
use Rattle.race_log.specs.Validity.{Valid}
use Rattle.cut_replay.specs.ClosedCuts.{count_in, IsContained}
use Rattle.cut_moves.specs.Steps.{next_in}
use Rattle.cut_moves.specs.Rounds.{rounds_of}
use Rattle.cut_moves.proofs.Rounds.{rounds_ordered}
use Rattle.cut_moves.proofs.TakenWay.{total_small}
use Rattle.cut_moves.proofs.TakenRounds.{bumped}
use Rattle.debug_place.specs.Places.{IsKept, Placed, cut_at, plan_at}
use Rattle.gdb_moves.specs.declared.direction.Direction.TheVariants.{Forward}
use Rattle.gdb_moves.specs.Moves.{Follow, StepsFree, TakesTurn}
use Rattle.gdb_moves.specs.Stopping.{Stopping}
use Rattle.gdb_moves.specs.Turns.{AreDone, IsDone, IsTurn, timeline_at}

-- ---- the timeline

split_at : (timeline : List ℕ) (i : ℕ) → i < length timeline →
    timeline ≡ take i timeline ++ get_or timeline i 0 ∷ drop (i + 1) timeline
split_at timeline i inside =
    sym (take-append-drop i timeline)
    ∙ ap (λ rest. take i timeline ++ rest)
    (drop-cons timeline i 0 inside ∙ ap (λ k. get_or timeline i 0 ∷ drop k timeline) (sym (add-one i)))

-- at each place of the timeline its core is ready
pub ready_at : (place : Placed) (i : ℕ) → i < length (timeline_at place) →
    Ready (plan_at place) (counts nought (take i (timeline_at place))) (get_or (timeline_at place) i 0)
ready_at place i inside =
    let p : Plan = plan_at place in
    let line : List ℕ = timeline_at place in
    ((ordered_on p nought (take i line) (get_or line i 0 ∷ drop (i + 1) line)).0
    (subst (λ (l : List ℕ). Ordered p nought l) (split_at line i inside) (rounds_ordered p))).1.0

-- one place more
pub counted_more : (timeline : List ℕ) (i : ℕ) → i < length timeline →
    counts nought (take (i + 1) timeline) ≡ bump (counts nought (take i timeline)) (get_or timeline i 0)
counted_more timeline i inside =
    ap (λ (l : List ℕ). counts nought l) (take_more timeline i 0 inside)
    ∙ counts_on nought (take i timeline) _

-- ---- turns

-- the timeline has come to this place, and the cores that move to their counts there
pub record IsTurning (stopping : Stopping) (cores : CoreSet) (old : Placed) (at : List ℕ) (number : ℕ) (now : Placed)
    : Type 0 where
  pub wide : length at ≡ CORES_MAX
  pub counted : count_of at ≡ counts nought (take number (timeline_at old))
  pub kept : IsKept old now
  pub reached : (core : ℕ) → has cores core ≡ true → count_of at core ≤ count_in (cut_at now) core
  pub done : AreDone cores (cut_at now) (timeline_at old) number
  pub turns : ℕ
  pub free : Follow (TakesTurn Forward stopping cores) turns old now

pub turning_first : (stopping : Stopping) (cores : CoreSet) (place : Placed) →
    IsTurning stopping cores place (replicate CORES_MAX 0) 0 place
turning_first stopping cores place = record {
  wide = length-replicate {A = ℕ} CORES_MAX 0;
  counted = fun_ext (λ i. zero_at CORES_MAX i);
  kept = record { recording = refl; which = refl };
  reached = λ core one. let none = zero_at CORES_MAX core in omega arith;
  done = λ i below. absurd (omega arith);
  turns = 0;
  free = refl;
}

-- the timeline is the same all along
pub same_line : (old now : Placed) → IsKept old now → timeline_at now ≡ timeline_at old
same_line old now kept =
    ap (λ (w : Which). rounds_of w now.recording) kept.which
    ∙ ap (λ (r : Recording). rounds_of old.which r) kept.recording

pub line_inside : (old now : Placed) → IsKept old now → (line end : List ℕ) → line ≡ timeline_at now →
    end ≡ timeline_at old → (i : ℕ) → i < length end → i < length line
line_inside old now kept line end line_is end_is i inside =
    subst (λ (l : List ℕ). i < length l) (end_is ∙ sym (same_line old now kept) ∙ sym line_is) inside

module _ (stopping : Stopping) (cores : CoreSet) (old : Placed) (at : List ℕ) (i : ℕ) (now : Placed)
    (so_far : IsTurning stopping cores old at i now) (valid : Valid old.recording) (line : List ℕ)
    (line_is : line ≡ timeline_at now) (inside : i < length line) where
  abbrev core : ℕ
  core = get_or line i 0

  old_line : line ≡ timeline_at old
  old_line = line_is ∙ same_line old now so_far.kept

  ready : Ready (plan_at old) (count_of at) (get_or line i 0)
  ready = subst (λ (f : ℕ → ℕ). Ready (plan_at old) f (get_or line i 0)) (sym so_far.counted)
      (subst (λ (l : List ℕ). Ready (plan_at old) (counts nought (take i (timeline_at old))) (get_or l i 0))
      (sym old_line)
      (ready_at old i (subst (λ (l : List ℕ). i < length l) old_line inside)))

  pub turn_inside : get_or line i 0 < old.recording.params.cores
  turn_inside = let r = ready.inside in let all = valid.each_core in omega arith

  pub turn_few : get_or line i 0 < CORES_MAX
  turn_few = let a = turn_inside in let few = valid.params.cores in omega arith

  pub turn_room : slice_index at (get_or line i 0) + 1 < 4294967296
  turn_room = total_small old.recording valid (get_or line i 0) (count_of at (get_or line i 0)) ready.inside ready.below

  pub turn_wide : get_or line i 0 < length at
  turn_wide = let a = turn_few in let w = so_far.wide in omega arith

  counted_there : count_of at ≡ counts nought (take i line)
  counted_there = so_far.counted ∙ ap (λ (l : List ℕ). counts nought (take i l)) (sym old_line)

  -- the core has a next instruction, if the place lacks the one that stands here
  pub turn_next : count_in (cut_at now) (get_or line i 0) ≤ count_of at (get_or line i 0) →
      IsInstrOf now.recording (next_in (cut_at now) (get_or line i 0))
  turn_next lacks =
      let below = ready.below in
      let all = valid.each_core in
      let few = ready.inside in
      subst (λ (r : Recording). IsInstrOf r (next_in (cut_at now) core)) (sym so_far.kept.recording)
      (record { core = omega arith; some = omega arith; most = omega arith })

  -- and it's its turn
  pub turn_there : has cores (get_or line i 0) ≡ true →
      count_in (cut_at now) (get_or line i 0) ≤ count_of at (get_or line i 0) →
      IsTurn cores (cut_at now) (timeline_at now) (get_or line i 0)
  turn_there one lacks = subst (λ (l : List ℕ). IsTurn cores (cut_at now) l core) line_is (record {
    number = i;
    inside = inside;
    core_is = refl;
    one = one;
    lacks = λ done. let is = ap (λ (f : ℕ → ℕ). f core) counted_there in omega arith;
    before = subst (λ (l : List ℕ). AreDone cores (cut_at now) l i) (sym old_line) so_far.done;
  })

  -- the timeline goes on, and what stands here is done
  module _ (new : List ℕ) (new_is : new ≡ slice_set at (get_or line i 0) (count_of at (get_or line i 0) + 1))
      (later : Placed) (kept : IsKept now later) (within : IsContained (cut_at now) (cut_at later))
      (here : has cores (get_or line i 0) ≡ true →
      count_of at (get_or line i 0) < count_in (cut_at later) (get_or line i 0)) (turns : ℕ)
      (free : Follow (TakesTurn Forward stopping cores) turns old later) where
    on : count_of new ≡ bump (count_of at) (get_or line i 0)
    on = ap (λ (l : List ℕ). count_of l) new_is ∙ bumped at core turn_wide

    counted_on : count_of new ≡ counts nought (take (i + 1) line)
    counted_on = on ∙ ap (λ (f : ℕ → ℕ). bump f core) counted_there ∙ sym (counted_more line i inside)

    reached_on : (c : ℕ) → has cores c ≡ true → count_of new c ≤ count_in (cut_at later) c
    reached_on c one = elim (ℕ_discrete c core) [
      | yes e ↦
          let more = bump_same (count_of at) core c e in
          let is = ap (λ (f : ℕ → ℕ). f c) on in
          let there : count_of at core < count_in (cut_at later) core =
          here (subst (λ (k : ℕ). has cores k ≡ true) e one) in
          let same : count_of at c ≡ count_of at core = ap (count_of at) e in
          let also : count_in (cut_at later) c ≡ count_in (cut_at later) core = ap (count_in (cut_at later)) e in
          omega arith
      | no ne ↦
          let more = bump_else (count_of at) core c ne in
          let is = ap (λ (f : ℕ → ℕ). f c) on in
          let was = so_far.reached c one in
          let grows = within c in
          omega arith
    ]

    done_on : AreDone cores (cut_at later) line (i + 1)
    done_on j below one = elim (cases_lt j i) [
      | inl before ↦
          let was = subst (λ (l : List ℕ). AreDone cores (cut_at now) l i) (sym old_line) so_far.done j before one in
          let grows = within (slice_index line j) in
          omega arith
      | inr not_before ↦
          let same : j ≡ i = omega arith in
          subst (λ (k : ℕ). IsDone (cut_at later) line k) (sym same)
          (let there = here (subst (λ (k : ℕ). has cores (slice_index line k) ≡ true) same one) in
          let is = ap (λ (f : ℕ → ℕ). f core) counted_there in
          omega arith)
    ]

    pub turning_on : IsTurning stopping cores old new (i + 1) later
    turning_on = record {
      wide = ap (λ (l : List ℕ). length l) new_is ∙ length-set at core _ ∙ so_far.wide;
      counted = counted_on ∙ ap (λ (l : List ℕ). counts nought (take (i + 1) l)) old_line;
      kept = record {
        recording = kept.recording ∙ so_far.kept.recording;
        which = kept.which ∙ so_far.kept.which;
      };
      reached = reached_on;
      done = subst (λ (l : List ℕ). AreDone cores (cut_at later) l (i + 1)) old_line done_on;
      turns = turns;
      free = free;
    }

  module _ (new : List ℕ) (new_is : new ≡ slice_set at (get_or line i 0) (count_of at (get_or line i 0) + 1)) where
    -- the place is passed by
    pub turn_passed : (has cores (get_or line i 0) ≡ true →
        count_of at (get_or line i 0) < count_in (cut_at now) (get_or line i 0)) →
        IsTurning stopping cores old new (i + 1) now
    turn_passed here = turning_on new new_is now (record { recording = refl; which = refl }) (λ c. omega arith) here
        so_far.turns so_far.free

    -- its core took its turn
    pub turn_taken : (later : Placed) → has cores (get_or line i 0) ≡ true →
        count_in (cut_at now) (get_or line i 0) ≤ count_of at (get_or line i 0) →
        StepsFree Forward stopping (get_or line i 0) now later → IsTurning stopping cores old new (i + 1) later
    turn_taken later one lacks steps =
        turning_on new new_is later steps.kept steps.step.contains
        (λ has_one. let was = so_far.reached core one in let more = steps.step.holds in omega arith)
        (suc so_far.turns)
        (now, so_far.free, record { core = core; turn = turn_there one lacks; steps = steps })
