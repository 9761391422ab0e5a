-- Many turns at once: where nothing stops the way to the cut at which they end, each of them can be taken, one after
-- the other, and nothing stops any.
use Rattle.std.proofs.Common.{inl, inr, ◌≡◌, ◌⊎◌, ℕ, zero, suc, ◌+◌, ◌-◌, ◌<◌, ◌≤◌, Bool, true, false, List, length, take}
use Rattle.std.proofs.Common.{refl, sym, ap, subst, ◌∙◌, arith}
use Rattle.std.specs.Prelude.{None, slice_index}
use Rattle.std.proofs.lemmas.Bool.{cases_lt}
use native.Mathlib.Decide.{ℕ_discrete}
use Rattle.rtr_types.specs.CoreSets.{has}
use Rattle.rtr_types.specs.declared.core_set.CoreSet.{CoreSet}
use Rattle.rtr_types.specs.declared.cut.Cut.{Cut}
use Rattle.rtr_types.specs.declared.instr.Instr.{Instr}
use Rattle.rtr_types.specs.declared.pairs.Which.{Which}
use Rattle.rv_core.specs.declared.outcome.Outcome.{Outcome}
use Rattle.race_log.specs.declared.recording.Recording.{Recording}
use Rattle.race_log.specs.Validity.{Valid}
use Rattle.replay_core.specs.Orders.{counts, nought}
use Rattle.replay_core.specs.Plans.{Plan, plan_of}
use Rattle.replay_core.specs.Play.{instr}
use Rattle.replay_audit.specs.Audits.{IsInstrOf}
use Rattle.replay_audit.specs.Determinate.{IsDeterminate}
use Rattle.cut_replay.specs.ClosedCuts.{IsClosed, IsContained, count_in}
use Rattle.cut_replay.specs.CutStates.{IsStateAt}
use Rattle.cut_replay.proofs.Unique.{one_cut, one_state_law}
use Rattle.cut_moves.specs.Rounds.{rounds_of}
use Rattle.cut_moves.specs.Steps.{IsStep, IsStepBack, last_in, next_in}
use Rattle.cut_moves.proofs.SeatCounts.{among_else, among_grows, among_here}
use Rattle.cut_index.specs.Standings.{reached}
use Rattle.cut_index.proofs.AtCuts.{reached_at}
use Rattle.debug_place.specs.Hits.{NoneIn, stops_on}
use Rattle.debug_place.specs.Backs.{GoesBack}
use Rattle.debug_place.specs.Stops.{GoesOn}
use Rattle.debug_place.specs.Places.{IsKept, Placed, Stands, cut_at}
use Rattle.debug_place.proofs.AllSteps.{some_step, some_step_back}
use Rattle.debug_place.proofs.AtCuts.{cut_is}
use Rattle.debug_place.proofs.StopPlaces.{backs_all, goes_all, none_between, placed_at, ready_at}
use Rattle.gdb_moves.specs.declared.direction.Direction.{Direction}
use Rattle.gdb_moves.specs.declared.direction.Direction.TheVariants.{Forward, Back}
use Rattle.gdb_moves.specs.Leaps.{HasLeapt, HaveReached, IsGone, IsLeft}
use Rattle.gdb_moves.specs.Moves.{Follow, StepsFree, TakesTurn}
use Rattle.gdb_moves.specs.Stopping.{Stopping, hits_of, own_test, stops_at}
use Rattle.gdb_moves.specs.Turns.{AreDone, AreGone, IsDone, IsTurn, IsTurnBack, timeline_at}

-- ---- along the timeline

-- what stands at the first places is done
pub all_done : (cores : CoreSet) (cut : Cut) (line : List ℕ) (number : ℕ) → number ≤ length line →
    HaveReached Forward cores line number cut → AreDone cores cut line number
all_done cores cut line number le reached i lt one =
    let core = slice_index line i in
    let here = among_here line i core (omega arith) refl in
    let grows = among_grows line (i + 1) number core (omega arith) in
    let most = reached core one in
    omega arith

-- what stands behind them is gone
pub all_gone : (cores : CoreSet) (cut : Cut) (line : List ℕ) (number : ℕ) →
    HaveReached Back cores line number cut → AreGone cores cut line number
all_gone cores cut line number reached i le lt one done =
    let core = slice_index line i in
    let grows = among_grows line number i core le in
    let most = reached core one in
    omega arith

-- ---- places

-- a place is told by its cut
pub placed_is : (place : Placed) (cut : Cut) → Valid place.recording → IsDeterminate place.which place.recording →
    Stands place → cut_at place ≡ cut → place ≡ placed_at place.which place.recording cut
placed_is place cut valid determinate stands is =
    ap (λ (s : Outcome). as_place s)
    (one_state_law place.which place.recording cut place.state (reached place.which place.recording cut)
    (subst (λ (k : Cut). IsStateOf k) is stands.state)
    (reached_at place.which place.recording valid determinate cut
    (subst (λ (k : Cut). IsClosed place.which place.recording k) is stands.closed)))
  where
    as_place : Outcome → Placed
    as_place s = record { recording = place.recording; which = place.which; state = s }

    IsStateOf : Cut → Type 0
    IsStateOf k = IsStateAt place.which place.recording k place.state

-- ---- forwards

module _ (stopping : Stopping) (cores : CoreSet) (which : Which) (r : Recording) (valid : Valid r)
    (determinate : IsDeterminate which r) (low high : Cut) (begins : IsClosed which r low) (ends : IsClosed which r high)
    (none : NoneIn (stops_on (hits_of stopping) which r low high (rounds_of which r)) 0 (length (rounds_of which r)))
  where
    -- from one cut between to another nothing stops it
    module _ (cut to : Cut) (closed : IsClosed which r cut) (there : IsClosed which r to) (above : IsContained low cut)
        (below : IsContained to high) (within : IsContained cut to) where
      none_here : NoneIn (stops_on (hits_of stopping) which r cut to (rounds_of which r)) 0 (length (rounds_of which r))
      none_here = none_between (hits_of stopping) which r low high cut to above below none

      free_on : (core : ℕ) → IsStep which r cut (next_in cut core) to →
          StepsFree Forward stopping core (placed_at which r cut) (placed_at which r to)
      free_on core step = record {
        kept = record { recording = refl; which = refl };
        step = subst (λ (k : Cut). IsStep which r k (next_in k core) (cut_at (placed_at which r to)))
            (sym (cut_is which r valid determinate cut closed))
            (subst (λ (k : Cut). IsStep which r cut (next_in cut core) k)
            (sym (cut_is which r valid determinate to there)) step);
        free = subst (λ (k : Cut). GoesOn (stops_at stopping) (placed_at which r cut) k (placed_at which r to) None)
            (sym (cut_is which r valid determinate to there))
            (goes_all (stops_at stopping) (hits_of stopping) (own_test stopping) which r valid determinate cut to
            closed there within none_here);
      }

    -- the cuts that turns come to
    pub record IsBetween (number : ℕ) : Type 0 where
      pub cut : Cut
      pub closed : IsClosed which r cut
      pub above : IsContained low cut
      pub below : IsContained cut high
      pub got : HaveReached Forward cores (rounds_of which r) number cut
      pub turns : ℕ
      pub free : Follow (TakesTurn Forward stopping cores) turns (placed_at which r low) (placed_at which r cut)

    between_start : IsContained low high → IsBetween 0
    between_start within = record {
      cut = low;
      closed = begins;
      above = λ core. omega arith;
      below = within;
      got = λ core one. omega arith;
      turns = 0;
      free = refl;
    }

    module _ (past number : ℕ) (got_there : HaveReached Forward cores (rounds_of which r) past high)
        (less : number < past) (inside : number < length (rounds_of which r)) (h : IsBetween number) where
      abbrev line : List ℕ
      line = rounds_of which r

      abbrev core : ℕ
      core = slice_index (rounds_of which r) number

      abbrev at : ℕ
      at = counts nought (take number (rounds_of which r)) (slice_index (rounds_of which r) number)

      reaches : (cut : Cut) → IsContained h.cut cut → (has cores (slice_index (rounds_of which r) number) ≡ true →
          counts nought (take number (rounds_of which r)) (slice_index (rounds_of which r) number)
          < count_in cut (slice_index (rounds_of which r) number)) →
          HaveReached Forward cores (rounds_of which r) (number + 1) cut
      reaches cut more here c one = elim (ℕ_discrete c core) [
        | yes same ↦
            subst (λ (k : ℕ). counts nought (take (number + 1) line) k ≤ count_in cut k) (sym same)
            (let now = here (subst (λ (k : ℕ). has cores k ≡ true) same one) in
            let next = among_here line number core inside refl in omega arith)
        | no other ↦
            let next = among_else line number c inside other in
            let was = h.got c one in
            let grows = more c in
            omega arith
      ]

      stays : (has cores (slice_index (rounds_of which r) number) ≡ true →
          counts nought (take number (rounds_of which r)) (slice_index (rounds_of which r) number)
          < count_in h.cut (slice_index (rounds_of which r) number)) → IsBetween (number + 1)
      stays here = record {
        cut = h.cut;
        closed = h.closed;
        above = h.above;
        below = h.below;
        got = reaches h.cut (λ c. omega arith) here;
        turns = h.turns;
        free = h.free;
      }

      module _ (one : has cores (slice_index (rounds_of which r) number) ≡ true)
          (lacks : count_in h.cut (slice_index (rounds_of which r) number)
          ≤ counts nought (take number (rounds_of which r)) (slice_index (rounds_of which r) number)) where
        node : IsInstrOf r (next_in h.cut (slice_index (rounds_of which r) number))
        node =
            let ready = ready_at which r number inside in
            let below = ready.below in
            let within = ready.inside in
            record { core = omega arith; some = omega arith; most = omega arith }

        next : (to : Cut) × IsStep which r h.cut (next_in h.cut (slice_index (rounds_of which r) number)) to
        next = some_step which r valid determinate h.cut
            (next_in h.cut (slice_index (rounds_of which r) number)) h.closed node

        is_turn : IsTurn cores (cut_at (placed_at which r h.cut)) (rounds_of which r)
            (slice_index (rounds_of which r) number)
        is_turn = subst (λ (k : Cut). IsTurn cores k line core)
            (sym (cut_is which r valid determinate h.cut h.closed)) (record {
              number = number;
              inside = inside;
              core_is = refl;
              one = one;
              lacks = λ done. omega arith;
              before = all_done cores h.cut line number (omega arith) h.got;
            })

        goes : IsBetween (number + 1)
        goes =
            let to = next.0 in
            let step = next.1 in
            let most = got_there core one in
            let grows = among_grows line (number + 1) past core (omega arith) in
            let here = among_here line number core inside refl in
            let same = h.got core one in
            let holds = step.holds in
            let below : IsContained to high = step.least high ends h.below (omega arith) in
            record {
              cut = to;
              closed = step.closed;
              above = λ c. let a = h.above c in let b = step.contains c in omega arith;
              below = below;
              got = reaches to step.contains (λ has_one. omega arith);
              turns = suc h.turns;
              free = (
                placed_at which r h.cut,
                h.free,
                record {
                  core = core;
                  turn = is_turn;
                  steps = free_on h.cut to h.closed step.closed h.above below step.contains core step;
                },
              );
            }

      between_on : IsBetween (number + 1)
      between_on = by (has cores core) refl
        where
          by : (b : Bool) → has cores (slice_index (rounds_of which r) number) ≡ b → IsBetween (number + 1)
          by false not_one = stays (λ one. absurd cc)
          by true one = elim (cases_lt at (count_in h.cut core)) [
            | inl done ↦ stays (λ has_one. done)
            | inr lacks ↦ goes one lacks
          ]

    pub between_to : IsContained low high → (past : ℕ) → past ≤ length (rounds_of which r) →
        HaveReached Forward cores (rounds_of which r) past high → (number : ℕ) → number ≤ past → IsBetween number
    between_to within past all got_there zero le = between_start within
    between_to within past all got_there (suc number) le =
        subst (λ (n : ℕ). IsBetween n) (omega arith)
        (between_on past number got_there (omega arith) (omega arith)
        (between_to within past all got_there number (omega arith)))
