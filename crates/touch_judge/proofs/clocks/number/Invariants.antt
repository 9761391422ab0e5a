-- those below `low` are up to the instruction, and those from `high` on aren't
use Rattle.std.proofs.Common.{◌-◌, ◌<◌, ◌≤◌, ℕ, length, slice_index}
use Rattle.std.specs.Prelude.{slice_index_or}
use Rattle.clock_core.specs.Counts.{no_counts}
use Rattle.replay_audit.specs.Clocks.{AreWithin}
use Rattle.touch_judge.proofs.clocks.number.Given as goal

abbrev pub invariant-loop-low : goal.invariant-loop-low
invariant-loop-low l = record {
  low : AreWithin l.list l.at.core l.at.count l.low;
  order : l.low ≤ l.high;
  within : l.high ≤ length l.list;
  high : (i : ℕ) → l.high ≤ i → i < length l.list →
      l.at.count < slice_index (slice_index_or l.list i no_counts) l.at.core;
}

abbrev pub decreases-loop-low : goal.decreases-loop-low
decreases-loop-low l = l.high - l.low
