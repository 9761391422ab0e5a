-- Where nothing stopped the way to the cut to which all turns lead, they were taken, one after the other.
use Rattle.std.proofs.Common.{inl, inr, ◌≡◌, ◌∙◌, ℕ, zero, suc, ◌+◌, ◌-◌, ◌≤◌, List, length, take, refl, sym, ap, subst, arith}
use Rattle.std.specs.Prelude.{None}
use Rattle.std.proofs.Math.Path.{fun_ext}
use Rattle.std.proofs.lemmas.Bool.{cases_lt}
use Rattle.std.proofs.lemmas.List.{take_all}
use Rattle.rtr_types.specs.declared.core_set.CoreSet.{CoreSet}
use Rattle.rtr_types.specs.declared.cut.Cut.{Cut}
use Rattle.rtr_types.specs.declared.pairs.Which.{Which}
use Rattle.race_log.specs.declared.recording.Recording.{Recording}
use Rattle.race_log.specs.Validity.{Valid}
use Rattle.replay_core.specs.Orders.{counts, nought}
use Rattle.replay_core.specs.Tallies.{count_of}
use Rattle.replay_audit.specs.Determinate.{IsDeterminate}
use Rattle.cut_replay.specs.ClosedCuts.{IsClosed, IsContained}
use Rattle.cut_replay.proofs.Unique.{one_cut}
use Rattle.debug_place.specs.Backs.{GoesBack}
use Rattle.debug_place.specs.Places.{IsKept, Placed, Stands, cut_at}
use Rattle.debug_place.specs.Stops.{GoesOn}
use Rattle.debug_place.proofs.StopPlaces.{in_line, none_backing, none_going, placed_at}
use Rattle.gdb_moves.specs.declared.direction.Direction.{Direction}
use Rattle.gdb_moves.specs.declared.direction.Direction.TheVariants.{Forward, Back}
use Rattle.gdb_moves.specs.Directions.{GoesTo}
use Rattle.gdb_moves.specs.Leaps.{HasLeapt, HaveReached, IsCounted, IsGone, IsGoneIn, IsLeft}
use Rattle.gdb_moves.specs.Moves.{Follow, TakesTurn}
use Rattle.gdb_moves.specs.Stopping.{Stopping, hits_of, own_test, stops_at}
use Rattle.gdb_moves.specs.Turns.{timeline_at}
use Rattle.gdb_moves.proofs.LeapLemmas.{all_done, all_gone, between_to, placed_is}
use Rattle.gdb_moves.proofs.LeapBackLemmas.{between_from}
use Rattle.gdb_moves.proofs.TurnLemmas.{IsTurning, same_line}
use Rattle.gdb_moves.proofs.BackLemmas.{IsTurningBack}
use Rattle.gdb_moves.proofs.Gathered.{others_none}

-- so many moves, and so many more
follow_more : (move : Placed → Placed → Type 0) (first more : ℕ) (old mid new : Placed) →
    Follow move first old mid → Follow move more mid new → (turns : ℕ) × Follow move turns old new
follow_more move first zero old mid new done rest =
    (first, subst (λ (p : Placed). Follow move first old p) (sym rest) done)
follow_more move first (suc more) old mid new done rest =
    let before = follow_more move first more old mid rest.0 done rest.1 in
    (suc before.0, (rest.0, before.1, rest.2))

-- a place of the same recording is told by its cut
same_place : (place new : Placed) (to : Cut) → Valid place.recording → IsDeterminate place.which place.recording →
    IsKept place new → Stands new → cut_at new ≡ to → new ≡ placed_at place.which place.recording to
same_place place new to valid determinate kept stands is =
    placed_is new to
    (subst (λ (r : Recording). Valid r) (sym kept.recording) valid)
    (subst (λ (r : Recording). IsDeterminate new.which r) (sym kept.recording)
    (subst (λ (w : Which). IsDeterminate w place.recording) (sym kept.which) determinate))
    stands is
    ∙ ap (λ (w : Which). placed_at w new.recording to) kept.which
    ∙ ap (λ (r : Recording). placed_at place.which r to) kept.recording

module _ (stopping : Stopping) (cores : CoreSet) (place new : Placed) (number : ℕ) (to : Cut)
    (valid : Valid place.recording) (determinate : IsDeterminate place.which place.recording) (stands : Stands place)
    (kept : IsKept place new) (there : Stands new) (inside : number ≤ length (timeline_at place)) where
  here : place ≡ placed_at place.which place.recording (cut_at place)
  here = placed_is place (cut_at place) valid determinate stands refl

  pub leaps_on : IsGone cores place number to → GoesOn (stops_at stopping) place to new None →
      HasLeapt Forward stopping cores place number new
  leaps_on gone goes =
      let none = none_going (stops_at stopping) (hits_of stopping) (own_test stopping) place.which place.recording valid
      determinate (cut_at place) to stands.closed gone.closed gone.contains new
      (subst (λ (p : Placed). GoesOn (stops_at stopping) p to new None) here goes) in
      let b = between_to stopping cores place.which place.recording valid determinate (cut_at place) to stands.closed
      gone.closed none gone.contains number inside gone.reached number (omega arith) in
      let same : b.cut ≡ to = one_cut place.recording b.cut to b.closed.is_cut gone.closed.is_cut b.below
      (gone.least b.cut b.closed b.above b.got) in
      let is = same_place place new to valid determinate kept there goes.1 in
      record {
        kept = kept;
        reached = subst (λ (k : Cut). HaveReached Forward cores (timeline_at place) number k) (sym goes.1) gone.reached;
        turns = b.turns;
        free = subst (λ (p : Placed). Follow (TakesTurn Forward stopping cores) b.turns p new) (sym here)
            (subst (λ (p : Placed). Follow (TakesTurn Forward stopping cores) b.turns
            (placed_at place.which place.recording (cut_at place)) p) (sym is)
            (subst (λ (k : Cut). Follow (TakesTurn Forward stopping cores) b.turns
            (placed_at place.which place.recording (cut_at place)) (placed_at place.which place.recording k)) same
            b.free));
      }

  pub leaps_back : IsLeft cores place number to → GoesBack (stops_at stopping) place to new None →
      HasLeapt Back stopping cores place number new
  leaps_back left goes =
      let none = none_backing (stops_at stopping) (hits_of stopping) (own_test stopping) place.which place.recording valid
      determinate to (cut_at place) left.closed stands.closed left.contained new
      (subst (λ (p : Placed). GoesBack (stops_at stopping) p to new None) here goes) in
      let all : number + (length (timeline_at place) - number) ≡ length (timeline_at place) = omega arith in
      let b = between_from stopping cores place.which place.recording valid determinate to (cut_at place) left.closed
      stands.closed none left.contained number left.reached (length (timeline_at place) - number) number all
      (omega arith) in
      let same : b.cut ≡ to = one_cut place.recording b.cut to b.closed.is_cut left.closed.is_cut
      (left.greatest b.cut b.closed b.below b.got) b.above in
      let is = same_place place new to valid determinate kept there goes.ends.1 in
      record {
        kept = kept;
        reached = subst (λ (k : Cut). HaveReached Back cores (timeline_at place) number k) (sym goes.ends.1)
            left.reached;
        turns = b.turns;
        free = subst (λ (p : Placed). Follow (TakesTurn Back stopping cores) b.turns p new) (sym here)
            (subst (λ (p : Placed). Follow (TakesTurn Back stopping cores) b.turns
            (placed_at place.which place.recording (cut_at place)) p) (sym is)
            (subst (λ (k : Cut). Follow (TakesTurn Back stopping cores) b.turns
            (placed_at place.which place.recording (cut_at place)) (placed_at place.which place.recording k)) same
            b.free));
      }

-- in either direction
pub leaps_in : (direction : Direction) (stopping : Stopping) (cores : CoreSet) (place new : Placed) (number : ℕ)
    (to : Cut) → Valid place.recording → IsDeterminate place.which place.recording → Stands place → IsKept place new →
    Stands new → number ≤ length (timeline_at place) → IsGoneIn direction cores place number to →
    GoesTo direction (stops_at stopping) place to new None → HasLeapt direction stopping cores place number new
leaps_in Forward stopping cores place new number to valid determinate stands kept there inside gone goes =
    leaps_on stopping cores place new number to valid determinate stands kept there inside gone goes
leaps_in Back stopping cores place new number to valid determinate stands kept there inside left goes =
    leaps_back stopping cores place new number to valid determinate stands kept there inside left goes

-- a place that went back to where it was is the same
pub back_there : (place mid new : Placed) → Valid place.recording → IsDeterminate place.which place.recording →
    Stands place → IsKept place mid → IsKept mid new → Stands new → cut_at new ≡ cut_at place → new ≡ place
back_there place mid new valid determinate stands kept also there is =
    same_place place new (cut_at place) valid determinate
    (record { recording = also.recording ∙ kept.recording; which = also.which ∙ kept.which }) there is
    ∙ sym (placed_is place (cut_at place) valid determinate stands refl)

-- back before the first turn back
pub leapt_last : (stopping : Stopping) (cores : CoreSet) (place : Placed) (number : ℕ) → Valid place.recording →
    IsDeterminate place.which place.recording → Stands place → number ≡ length (timeline_at place) →
    HasLeapt Back stopping cores place number place
leapt_last stopping cores place number valid determinate stands is = record {
  kept = record { recording = refl; which = refl };
  reached = λ core one.
      let most = in_line place.which place.recording valid determinate (cut_at place) (cut_at place)
      (λ c. omega arith) stands.closed core in
      let all : counts nought (take number (timeline_at place)) core ≡ counts nought (timeline_at place) core =
      ap (λ (l : List ℕ). counts nought l core) (take_all number (timeline_at place) (omega arith)) in
      omega arith;
  turns = 0;
  free = refl;
}

-- one leap behind the other
pub leapt_more : (direction : Direction) (stopping : Stopping) (cores : CoreSet) (old mid new : Placed)
    (first number : ℕ) → HasLeapt direction stopping cores old first mid →
    HasLeapt direction stopping cores mid number new → HasLeapt direction stopping cores old number new
leapt_more direction stopping cores old mid new first number done rest =
    let line : timeline_at mid ≡ timeline_at old = same_line old mid done.kept in
    let all = follow_more (TakesTurn direction stopping cores) done.turns rest.turns old mid new done.free rest.free in
    record {
      kept = record {
        recording = rest.kept.recording ∙ done.kept.recording;
        which = rest.kept.which ∙ done.kept.which;
      };
      reached = subst (λ (l : List ℕ). HaveReached direction cores l number (cut_at new)) line rest.reached;
      turns = all.0;
      free = all.1;
    }

-- before the first turn
pub leapt_first : (stopping : Stopping) (cores : CoreSet) (place : Placed) →
    HasLeapt Forward stopping cores place 0 place
leapt_first stopping cores place = record {
  kept = record { recording = refl; which = refl };
  reached = λ core one. omega arith;
  turns = 0;
  free = refl;
}

-- behind a leap the turns go on from there
pub turning_leapt : (stopping : Stopping) (cores : CoreSet) (old new : Placed) (number : ℕ) (at : List ℕ) →
    Valid old.recording → number ≤ length (timeline_at old) → HasLeapt Forward stopping cores old number new →
    IsCounted new number at → IsTurning stopping cores old at number new
turning_leapt stopping cores old new number at valid inside h is = record {
  wide = is.wide;
  counted = fun_ext (λ i. at_is i);
  kept = h.kept;
  reached = λ core one. let there = at_is core in let got = h.reached core one in omega arith;
  done = all_done cores (cut_at new) (timeline_at old) number inside h.reached;
  turns = h.turns;
  free = h.free;
}
  where
    at_is : (i : ℕ) → count_of at i ≡ counts nought (take number (timeline_at old)) i
    at_is i = elim (cases_lt i new.recording.params.cores) [
      | inl lt ↦ is.each i lt ∙ ap (λ (l : List ℕ). counts nought (take number l) i) (same_line old new h.kept)
      | inr le ↦ is.rest i le ∙ sym (others_none old number i valid
          (subst (λ (r : Recording). r.params.cores ≤ i) h.kept.recording le))
    ]

pub turning_back_leapt : (stopping : Stopping) (cores : CoreSet) (old new : Placed) (number : ℕ) (at : List ℕ) →
    Valid old.recording → HasLeapt Back stopping cores old number new →
    IsCounted new number at → IsTurningBack stopping cores old at number new
turning_back_leapt stopping cores old new number at valid h is = record {
  wide = is.wide;
  counted = λ c few. at_is c;
  kept = h.kept;
  reached = λ core one. let there = at_is core in let got = h.reached core one in omega arith;
  gone = all_gone cores (cut_at new) (timeline_at old) number h.reached;
  turns = h.turns;
  free = h.free;
}
  where
    at_is : (i : ℕ) → count_of at i ≡ counts nought (take number (timeline_at old)) i
    at_is i = elim (cases_lt i new.recording.params.cores) [
      | inl lt ↦ is.each i lt ∙ ap (λ (l : List ℕ). counts nought (take number l) i) (same_line old new h.kept)
      | inr le ↦ is.rest i le ∙ sym (others_none old number i valid
          (subst (λ (r : Recording). r.params.cores ≤ i) h.kept.recording le))
    ]
