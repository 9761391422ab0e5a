-- Many turns back at once: where nothing stops the way to the cut at which they end, each of them can be taken, one
-- after the other, and nothing stops any.
use Rattle.std.proofs.Common.{inl, inr, ◌≡◌, ◌⊎◌, ℕ, zero, suc, ◌+◌, ◌-◌, ◌<◌, ◌≤◌, Bool, true, false, List, length, take}
use Rattle.std.proofs.Common.{refl, sym, ap, subst, ◌∙◌, arith}
use Rattle.std.specs.Prelude.{None, slice_index}
use Rattle.std.proofs.lemmas.Bool.{cases_lt}
use Rattle.std.proofs.lemmas.List.{take_all}
use native.Mathlib.Decide.{ℕ_discrete}
use Rattle.rtr_types.specs.CoreSets.{has}
use Rattle.rtr_types.specs.declared.core_set.CoreSet.{CoreSet}
use Rattle.rtr_types.specs.declared.cut.Cut.{Cut}
use Rattle.rtr_types.specs.declared.pairs.Which.{Which}
use Rattle.race_log.specs.declared.recording.Recording.{Recording}
use Rattle.race_log.specs.Validity.{Valid}
use Rattle.replay_core.specs.Orders.{counts, nought}
use Rattle.replay_core.specs.Plans.{plan_of}
use Rattle.replay_audit.specs.Audits.{IsInstrOf}
use Rattle.replay_audit.specs.Determinate.{IsDeterminate}
use Rattle.cut_replay.specs.ClosedCuts.{IsClosed, IsContained, count_in}
use Rattle.cut_moves.specs.Rounds.{rounds_of}
use Rattle.cut_moves.specs.Steps.{IsStepBack, last_in}
use Rattle.cut_moves.proofs.SeatCounts.{among_else, among_grows, among_here}
use Rattle.debug_place.specs.Backs.{GoesBack}
use Rattle.debug_place.specs.Hits.{NoneIn, stops_on}
use Rattle.debug_place.specs.Places.{cut_at}
use Rattle.debug_place.proofs.AllSteps.{some_step_back}
use Rattle.debug_place.proofs.AtCuts.{cut_is}
use Rattle.debug_place.proofs.StopPlaces.{backs_all, in_line, none_between, placed_at, ready_at}
use Rattle.gdb_moves.specs.declared.direction.Direction.TheVariants.{Back}
use Rattle.gdb_moves.specs.Leaps.{HaveReached}
use Rattle.gdb_moves.specs.Moves.{Follow, StepsFree, TakesTurn}
use Rattle.gdb_moves.specs.Stopping.{Stopping, hits_of, own_test, stops_at}
use Rattle.gdb_moves.specs.Turns.{IsTurnBack}
use Rattle.gdb_moves.proofs.LeapLemmas.{all_gone}

module _ (stopping : Stopping) (cores : CoreSet) (which : Which) (r : Recording) (valid : Valid r)
    (determinate : IsDeterminate which r) (low high : Cut) (begins : IsClosed which r low) (ends : IsClosed which r high)
    (none : NoneIn (stops_on (hits_of stopping) which r low high (rounds_of which r)) 0 (length (rounds_of which r)))
  where
    -- from one cut between back to another nothing stops it
    module _ (to cut : Cut) (there : IsClosed which r to) (closed : IsClosed which r cut) (above : IsContained low to)
        (below : IsContained cut high) (within : IsContained to cut) where
      none_here : NoneIn (stops_on (hits_of stopping) which r to cut (rounds_of which r)) 0 (length (rounds_of which r))
      none_here = none_between (hits_of stopping) which r low high to cut above below none

      free_back : (core : ℕ) → IsStepBack which r cut (last_in cut core) to →
          StepsFree Back stopping core (placed_at which r cut) (placed_at which r to)
      free_back core step = record {
        kept = record { recording = refl; which = refl };
        step = subst (λ (k : Cut). IsStepBack which r k (last_in k core) (cut_at (placed_at which r to)))
            (sym (cut_is which r valid determinate cut closed))
            (subst (λ (k : Cut). IsStepBack which r cut (last_in cut core) k)
            (sym (cut_is which r valid determinate to there)) step);
        free = subst (λ (k : Cut). GoesBack (stops_at stopping) (placed_at which r cut) k (placed_at which r to) None)
            (sym (cut_is which r valid determinate to there))
            (backs_all (stops_at stopping) (hits_of stopping) (own_test stopping) which r valid determinate to cut
            there closed within none_here);
      }

    -- the cuts that turns back come to
    pub record IsBetween (number : ℕ) : Type 0 where
      pub cut : Cut
      pub closed : IsClosed which r cut
      pub above : IsContained low cut
      pub below : IsContained cut high
      pub got : HaveReached Back cores (rounds_of which r) number cut
      pub turns : ℕ
      pub free : Follow (TakesTurn Back stopping cores) turns (placed_at which r high) (placed_at which r cut)

    between_last : IsContained low high → IsBetween (length (rounds_of which r))
    between_last within = record {
      cut = high;
      closed = ends;
      above = within;
      below = λ core. omega arith;
      got = λ core one.
          let most = in_line which r valid determinate high high (λ c. omega arith) ends core in
          let all : counts nought (take (length (rounds_of which r)) (rounds_of which r)) core
          ≡ counts nought (rounds_of which r) core =
          ap (λ (l : List ℕ). counts nought l core)
          (take_all (length (rounds_of which r)) (rounds_of which r) (omega arith)) in
          omega arith;
      turns = 0;
      free = refl;
    }

    module _ (first number : ℕ) (got_there : HaveReached Back cores (rounds_of which r) first low)
        (more : first ≤ number) (inside : number < length (rounds_of which r)) (h : IsBetween (number + 1)) where
      abbrev line : List ℕ
      line = rounds_of which r

      abbrev core : ℕ
      core = slice_index (rounds_of which r) number

      abbrev at : ℕ
      at = counts nought (take number (rounds_of which r)) (slice_index (rounds_of which r) number)

      reaches : (cut : Cut) → IsContained cut h.cut → (has cores (slice_index (rounds_of which r) number) ≡ true →
          count_in cut (slice_index (rounds_of which r) number)
          ≤ counts nought (take number (rounds_of which r)) (slice_index (rounds_of which r) number)) →
          HaveReached Back cores (rounds_of which r) number cut
      reaches cut less here c one = elim (ℕ_discrete c core) [
        | yes same ↦
            subst (λ (k : ℕ). count_in cut k ≤ counts nought (take number line) k) (sym same)
            (here (subst (λ (k : ℕ). has cores k ≡ true) same one))
        | no other ↦
            let next = among_else line number c inside other in
            let was = h.got c one in
            let falls = less c in
            omega arith
      ]

      stays : (has cores (slice_index (rounds_of which r) number) ≡ true →
          count_in h.cut (slice_index (rounds_of which r) number)
          ≤ counts nought (take number (rounds_of which r)) (slice_index (rounds_of which r) number)) → IsBetween number
      stays here = record {
        cut = h.cut;
        closed = h.closed;
        above = h.above;
        below = h.below;
        got = reaches h.cut (λ c. omega arith) here;
        turns = h.turns;
        free = h.free;
      }

      module _ (one : has cores (slice_index (rounds_of which r) number) ≡ true)
          (done : counts nought (take number (rounds_of which r)) (slice_index (rounds_of which r) number)
          < count_in h.cut (slice_index (rounds_of which r) number)) where
        count_is : count_in h.cut (slice_index (rounds_of which r) number)
            ≡ counts nought (take number (rounds_of which r)) (slice_index (rounds_of which r) number) + 1
        count_is =
            let here = among_here line number core inside refl in
            let most = h.got core one in
            omega arith

        node : IsInstrOf r (last_in h.cut (slice_index (rounds_of which r) number))
        node =
            let ready = ready_at which r number inside in
            let below = ready.below in
            let within = ready.inside in
            let is = count_is in
            record { core = omega arith; some = omega arith; most = omega arith }

        next : (to : Cut) × IsStepBack which r h.cut (last_in h.cut (slice_index (rounds_of which r) number)) to
        next = some_step_back which r valid determinate
            (last_in h.cut (slice_index (rounds_of which r) number)) node h.cut h.closed

        is_turn : IsTurnBack cores (cut_at (placed_at which r h.cut)) (rounds_of which r)
            (slice_index (rounds_of which r) number)
        is_turn = subst (λ (k : Cut). IsTurnBack cores k line core)
            (sym (cut_is which r valid determinate h.cut h.closed)) (record {
              number = number;
              inside = inside;
              core_is = refl;
              one = one;
              here = done;
              behind = all_gone cores h.cut line (number + 1) h.got;
            })

        goes : IsBetween number
        goes =
            let to = next.0 in
            let step = next.1 in
            let least = got_there core one in
            let grows = among_grows line first number core more in
            let is = count_is in
            let above : IsContained low to =
            step.greatest low begins h.above (λ holds. absurd (omega arith)) in
            record {
              cut = to;
              closed = step.closed;
              above = above;
              below = λ c. let a = h.below c in let b = step.contained c in omega arith;
              got = reaches to step.contained (λ has_one. elim (cases_lt at (count_in to core)) [
                | inl more_left ↦ absurd (step.without (omega arith))
                | inr enough ↦ enough
              ]);
              turns = suc h.turns;
              free = (
                placed_at which r h.cut,
                h.free,
                record {
                  core = core;
                  turn = is_turn;
                  steps = free_back to h.cut step.closed h.closed above h.below step.contained core step;
                },
              );
            }

      between_back : IsBetween number
      between_back = by (has cores core) refl
        where
          by : (b : Bool) → has cores (slice_index (rounds_of which r) number) ≡ b → IsBetween number
          by false not_one = stays (λ one. absurd cc)
          by true one = elim (cases_lt at (count_in h.cut core)) [
            | inl done ↦ goes one done
            | inr lacks ↦ stays (λ has_one. lacks)
          ]

    -- so many places back from the end
    pub between_from : IsContained low high → (first : ℕ) → HaveReached Back cores (rounds_of which r) first low →
        (back number : ℕ) → number + back ≡ length (rounds_of which r) → first ≤ number → IsBetween number
    between_from within first got_there zero number all more =
        subst (λ (n : ℕ). IsBetween n) (omega arith) (between_last within)
    between_from within first got_there (suc back) number all more =
        between_back first number got_there more (omega arith)
        (between_from within first got_there back (number + 1) (omega arith) (omega arith))
