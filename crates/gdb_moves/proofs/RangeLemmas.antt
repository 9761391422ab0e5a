-- Steps of a core in a range, so far: each took an instruction.
use Rattle.std.proofs.Common.{◌≡◌, ℕ, ◌+◌, ◌≤◌, true, false, suc, refl, ap, ◌∙◌, arith}
use Rattle.std.specs.Prelude.{nat_lt, slice_index}
use Rattle.std.proofs.lemmas.Bool.{and_left, and_parts, and_right, le-ltb, ltb-true}
use Rattle.gdb_packets.specs.declared.replies.Stop as stops
use Rattle.race_log.specs.declared.recording.Recording.{Recording}
use Rattle.replay_audit.specs.Audits.{IsInstrOf}
use Rattle.cut_replay.specs.ClosedCuts.{count_in}
use Rattle.cut_moves.specs.Steps.{next_in}
use Rattle.debug_place.specs.Places.{IsKept, Placed, cut_at}
use Rattle.gdb_moves.specs.declared.direction.Direction.TheVariants.{Forward}
use Rattle.gdb_moves.specs.declared.ranges.Range.{Range}
use Rattle.gdb_moves.specs.Moves.{Follow, Steps, StepsIn, StepsInside}
use Rattle.gdb_moves.specs.Ranges.{goes_on, is_step}
use Rattle.gdb_moves.specs.Stopping.{Stopping}

-- the steps so far, behind which the core has at least so many instructions
pub record IsStepping (range : Range) (stopping : Stopping) (core : ℕ) (old : Placed) (number : ℕ) (now : Placed)
    : Type 0 where
  pub kept : IsKept old now
  pub count : ℕ
  pub inside : Follow (StepsInside range stopping core) count old now
  pub reached : number ≤ count_in (cut_at now) core

pub first_step : (range : Range) (stopping : Stopping) (core : ℕ) (place : Placed) →
    IsStepping range stopping core place (count_in (cut_at place) core) place
first_step range stopping core place = record {
  kept = record { recording = refl; which = refl };
  count = 0;
  inside = refl;
  reached = omega arith;
}

module _ (range : Range) (stopping : Stopping) (core number : ℕ) (old now new : Placed) (stop : stops.Stop)
    (so_far : IsStepping range stopping core old number now) (kept : IsKept now new)
    (steps : Steps Forward stopping core now new stop) where
  -- a step behind which the core goes on
  pub step_more : goes_on range stopping.points core (count_in (cut_at now) core) new stop ≡ true →
      IsStepping range stopping core old (number + 1) new
  step_more on =
      let parts = and_parts (is_step core stop) _ on in
      let took = ltb-true (count_in (cut_at now) core) (count_in (cut_at new) core)
      (and_parts (nat_lt (count_in (cut_at now) core) (count_in (cut_at new) core)) _ parts.1).0 in
      let before = so_far.reached in
      record {
        kept = record {
          recording = kept.recording ∙ so_far.kept.recording;
          which = kept.which ∙ so_far.kept.which;
        };
        count = suc so_far.count;
        inside = (now, so_far.inside, record { kept = kept; stop = stop; steps = steps; on = on });
        reached = omega arith;
      }

  -- the first one behind which it doesn't
  pub step_out : goes_on range stopping.points core (count_in (cut_at now) core) new stop ≡ false →
      StepsIn range stopping core old new stop
  step_out off =
      record { count = so_far.count; mid = now; inside = so_far.inside; last = steps; ends = off }

  -- where all is done a step takes nothing
  pub step_none : slice_index old.recording.totals core ≤ number → StepsIn range stopping core old new stop
  step_none all =
      let cut = cut_at now in
      let totals = ap (λ (r : Recording). slice_index r.totals core) so_far.kept.recording in
      let before = so_far.reached in
      let none : IsInstrOf now.recording (next_in cut core) → ⊥ =
      λ is. let most = is.most in absurd (omega arith) in
      let same : count_in (cut_at new) core ≡ count_in cut core =
      ap (λ (p : Placed). count_in (cut_at p) core) (steps.ends none).place in
      step_out (and_right (is_step core stop) _
      (and_left (nat_lt (count_in cut core) (count_in (cut_at new) core)) _ (le-ltb _ _ (omega arith))))
