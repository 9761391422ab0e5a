-- Turn by turn backwards along the timeline: of the cores that move the place has nothing that stands at the places
-- from here on, and at most as many instructions as the timeline has before.
use Rattle.std.proofs.Common.{◌≡◌, inl, inr, ℕ, ◌+◌, ◌-◌, ◌<◌, ◌≤◌, ◌≢◌, true, List, length, take, get_or, suc, refl}
use Rattle.std.proofs.Common.{sym, ap, subst, ◌∙◌, arith, length-set, get_or-set_same, get_or-set_other}
use Rattle.std.specs.Prelude.{slice_index, slice_set}
use Rattle.std.proofs.lemmas.Bool.{cases_lt}
use Rattle.std.proofs.lemmas.List.{take_all}
use native.Mathlib.Decide.{ℕ_discrete}
use Rattle.rtr_types.specs.CoreSets.{has}
use Rattle.rtr_types.specs.declared.TheConstants.{CORES_MAX}
use Rattle.rtr_types.specs.declared.core_set.CoreSet.{CoreSet}
use Rattle.rtr_types.specs.declared.cut.Cut.{Cut}
use Rattle.race_log.specs.declared.recording.Recording.{Recording}
use Rattle.race_log.specs.Validity.{Valid}
use Rattle.replay_core.specs.Orders.{Ready, bump, counts, nought}
use Rattle.replay_core.specs.Tallies.{count_of}
use Rattle.replay_core.proofs.Counts.{bump_here, bump_else}
use Rattle.replay_audit.specs.Audits.{IsInstrOf}
use Rattle.replay_audit.specs.Determinate.{IsDeterminate}
use Rattle.cut_replay.specs.ClosedCuts.{count_in, IsContained}
use Rattle.cut_moves.specs.Steps.{IsWholeCut, last_in}
use Rattle.cut_moves.proofs.Hulls.{in_whole}
use Rattle.cut_moves.proofs.Rounds.{rounds_whole}
use Rattle.debug_place.specs.Places.{IsKept, Placed, Stands, cut_at, plan_at}
use Rattle.gdb_moves.specs.declared.direction.Direction.TheVariants.{Back}
use Rattle.gdb_moves.specs.Moves.{Follow, StepsFree, TakesTurn}
use Rattle.gdb_moves.specs.Stopping.{Stopping}
use Rattle.gdb_moves.specs.Turns.{AreGone, IsDone, IsTurnBack, timeline_at}
use Rattle.gdb_moves.proofs.TurnLemmas.{counted_more, ready_at, same_line}

-- ---- turns

-- the timeline has come back to this place, and the cores that move to their counts there
pub record IsTurningBack (stopping : Stopping) (cores : CoreSet) (old : Placed) (at : List ℕ) (number : ℕ)
    (now : Placed)
    : Type 0 where
  pub wide : length at ≡ CORES_MAX
  pub counted : (c : ℕ) → c < old.recording.params.cores → count_of at c ≡
      counts nought (take number (timeline_at old)) c
  pub kept : IsKept old now
  pub reached : (c : ℕ) → has cores c ≡ true → count_in (cut_at now) c ≤ count_of at c
  pub gone : AreGone cores (cut_at now) (timeline_at old) number
  pub turns : ℕ
  pub free : Follow (TakesTurn Back stopping cores) turns old now

pub turning_last : (stopping : Stopping) (cores : CoreSet) (place : Placed) (all : Cut) (line : List ℕ) →
    Valid place.recording → IsDeterminate place.which place.recording → Stands place →
    IsWholeCut place.recording all → line ≡ timeline_at place →
    IsTurningBack stopping cores place all.counts (length line) place
turning_last stopping cores place all line valid determinate stands whole line_is = record {
  wide = whole.is_cut.places;
  counted = λ c inside.
      let total = whole.all c inside in
      let each = (rounds_whole place.which place.recording valid determinate).each c
      (let same = valid.each_core in omega arith) in
      let taken : take (length line) (timeline_at place) ≡ timeline_at place =
      take_all (length line) (timeline_at place) (let same = ap length line_is in omega arith) in
      total ∙ sym each ∙ sym (ap (λ (l : List ℕ). counts nought l c) taken);
  kept = record { recording = refl; which = refl };
  reached = λ c one. in_whole place.recording all (cut_at place) whole stands.closed.is_cut c;
  gone = λ j past below. absurd (let same = ap length line_is in omega arith);
  turns = 0;
  free = refl;
}

module _ (stopping : Stopping) (cores : CoreSet) (old : Placed) (at : List ℕ) (number : ℕ) (now : Placed)
    (so_far : IsTurningBack stopping cores old at number now) (valid : Valid old.recording) (line : List ℕ)
    (line_is : line ≡ timeline_at now) (i : ℕ) (number_is : number ≡ i + 1) (inside : i < length line) where
  abbrev core : ℕ
  core = get_or line i 0

  old_line : line ≡ timeline_at old
  old_line = line_is ∙ same_line old now so_far.kept

  ready : Ready (plan_at old) (counts nought (take i line)) (get_or line i 0)
  ready = subst (λ (l : List ℕ). Ready (plan_at old) (counts nought (take i l)) (get_or l i 0)) (sym old_line)
      (ready_at old i (subst (λ (l : List ℕ). i < length l) old_line inside))

  pub back_inside : get_or line i 0 < old.recording.params.cores
  back_inside = let r = ready.inside in let all = valid.each_core in omega arith

  pub back_few : get_or line i 0 < CORES_MAX
  back_few = let a = back_inside in let few = valid.params.cores in omega arith

  counted_there : (c : ℕ) → c < old.recording.params.cores →
      count_of at c ≡ bump (counts nought (take i line)) (get_or line i 0) c
  counted_there c few =
      so_far.counted c few ∙ ap (λ (l : List ℕ). counts nought (take number l) c) (sym old_line)
      ∙ ap (λ (n : ℕ). counts nought (take n line) c) number_is
      ∙ ap (λ (f : ℕ → ℕ). f c) (counted_more line i inside)

  -- so many instructions of the core stand before
  pub back_count : count_of at (get_or line i 0) ≡ counts nought (take i line) (get_or line i 0) + 1
  back_count = counted_there core back_inside ∙ bump_here (counts nought (take i line)) core

  -- the core has a last instruction, if the place has more
  pub back_last : has cores (get_or line i 0) ≡ true →
      count_of at (get_or line i 0) - 1 < count_in (cut_at now) (get_or line i 0) →
      IsInstrOf now.recording (last_in (cut_at now) (get_or line i 0))
  back_last one more =
      let below = ready.below in
      let all = valid.each_core in
      let few = ready.inside in
      let is = back_count in
      let most = so_far.reached core one in
      subst (λ (r : Recording). IsInstrOf r (last_in (cut_at now) core)) (sym so_far.kept.recording)
      (record { core = omega arith; some = omega arith; most = omega arith })

  -- and it's its turn
  pub back_there : has cores (get_or line i 0) ≡ true →
      count_of at (get_or line i 0) - 1 < count_in (cut_at now) (get_or line i 0) →
      IsTurnBack cores (cut_at now) (timeline_at now) (get_or line i 0)
  back_there one more = subst (λ (l : List ℕ). IsTurnBack cores (cut_at now) l core) line_is (record {
    number = i;
    inside = inside;
    core_is = refl;
    one = one;
    here = let is = back_count in omega arith;
    behind = subst (λ (n : ℕ). AreGone cores (cut_at now) line n) number_is
        (subst (λ (l : List ℕ). AreGone cores (cut_at now) l number) (sym old_line) so_far.gone);
  })

  -- the timeline goes back, and what stands here is gone
  module _ (new : List ℕ) (new_is : new ≡ slice_set at (get_or line i 0) (count_of at (get_or line i 0) - 1))
      (later : Placed) (kept : IsKept now later) (within : IsContained (cut_at later) (cut_at now))
      (here : has cores (get_or line i 0) ≡ true →
      count_in (cut_at later) (get_or line i 0) ≤ count_of at (get_or line i 0) - 1) (turns : ℕ)
      (free : Follow (TakesTurn Back stopping cores) turns old later) where
    one_less : count_of new (get_or line i 0) ≡ count_of at (get_or line i 0) - 1
    one_less =
        ap (λ (l : List ℕ). count_of l core) new_is
        ∙ (let few = back_few in let w = so_far.wide in
        let lt : core < length at = omega arith in rw get_or-set_same)

    others_stay : (c : ℕ) → c ≢ get_or line i 0 → count_of new c ≡ count_of at c
    others_stay c ne = ap (λ (l : List ℕ). count_of l c) new_is ∙ rw get_or-set_other

    counted_on : (c : ℕ) → c < old.recording.params.cores → count_of new c ≡ counts nought (take i line) c
    counted_on c few = elim (ℕ_discrete c core) [
      | yes e ↦ subst (λ (k : ℕ). count_of new k ≡ counts nought (take i line) k) (sym e)
          (let less = one_less in let is = back_count in omega arith)
      | no ne ↦ others_stay c ne ∙ counted_there c few ∙ bump_else (counts nought (take i line)) core c ne
    ]

    reached_on : (c : ℕ) → has cores c ≡ true → count_in (cut_at later) c ≤ count_of new c
    reached_on c one = elim (ℕ_discrete c core) [
      | yes e ↦ subst (λ (k : ℕ). count_in (cut_at later) k ≤ count_of new k) (sym e)
          (let less = one_less in let most = here (subst (λ (k : ℕ). has cores k ≡ true) e one) in omega arith)
      | no ne ↦
          let stays = others_stay c ne in
          let was = so_far.reached c one in
          let falls = within c in
          omega arith
    ]

    gone_on : AreGone cores (cut_at later) line i
    gone_on j from below one done = elim (cases_lt i j) [
      | inl behind ↦
          subst (λ (l : List ℕ). AreGone cores (cut_at now) l number) (sym old_line) so_far.gone j (omega arith) below
          one (let falls = within (slice_index line j) in omega arith)
      | inr not_behind ↦
          let same : j ≡ i = omega arith in
          let most = here (subst (λ (k : ℕ). has cores (slice_index line k) ≡ true) same one) in
          let done_here : IsDone (cut_at later) line i =
          subst (λ (k : ℕ). IsDone (cut_at later) line k) same done in
          let is = back_count in
          absurd (omega arith)
    ]

    pub turning_back_on : IsTurningBack stopping cores old new i later
    turning_back_on = record {
      wide = ap (λ (l : List ℕ). length l) new_is ∙ length-set at core _ ∙ so_far.wide;
      counted = λ c few. counted_on c few ∙ ap (λ (l : List ℕ). counts nought (take i l) c) old_line;
      kept = record {
        recording = kept.recording ∙ so_far.kept.recording;
        which = kept.which ∙ so_far.kept.which;
      };
      reached = reached_on;
      gone = subst (λ (l : List ℕ). AreGone cores (cut_at later) l i) old_line gone_on;
      turns = turns;
      free = free;
    }

  module _ (new : List ℕ) (new_is : new ≡ slice_set at (get_or line i 0) (count_of at (get_or line i 0) - 1)) where
    -- the place is passed by
    pub back_passed : (has cores (get_or line i 0) ≡ true →
        count_in (cut_at now) (get_or line i 0) ≤ count_of at (get_or line i 0) - 1) →
        IsTurningBack stopping cores old new i now
    back_passed here = turning_back_on new new_is now (record { recording = refl; which = refl }) (λ c. omega arith)
        here so_far.turns so_far.free

    -- its core took its turn
    pub back_taken : (later : Placed) → has cores (get_or line i 0) ≡ true →
        count_of at (get_or line i 0) - 1 < count_in (cut_at now) (get_or line i 0) →
        StepsFree Back stopping (get_or line i 0) now later → IsTurningBack stopping cores old new i later
    back_taken later one more steps =
        turning_back_on new new_is later steps.kept steps.step.contained
        (λ has_one. let was = so_far.reached core one in not_held (cut_at later) (cut_at now) core _ was
        steps.step.without)
        (suc so_far.turns)
        (now, so_far.free, record { core = core; turn = back_there one more; steps = steps })
      where
        not_held : (to cut : Cut) (c most : ℕ) → count_in cut c ≤ most → (count_in cut c ≤ count_in to c → ⊥) →
            count_in to c ≤ most - 1
        not_held to cut c most was without = elim (cases_lt (count_in to c) (count_in cut c)) [
          | inl less ↦ omega arith
          | inr not_less ↦ absurd (without not_less)
        ]
