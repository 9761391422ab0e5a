-- merged with the clocks of the sources so far
use Rattle.std.proofs.Common.{◌≡◌, ℕ, length, slice_index}
use Rattle.rtr_types.specs.declared.TheConstants.{CORES_MAX}
use Rattle.clock_core.specs.Order.{previous}
use Rattle.clock_core.specs.Reach.{merged_over}
use Rattle.replay_core.specs.Sources.{listed}
use Rattle.replay_audit.specs.Clocks.{clock_at}
use Rattle.replay_audit.proofs.log_clocks.next.Given as goal

abbrev pub invariant-loop-of : goal.invariant-loop-of
invariant-loop-of l = record {
  merged : (i : ℕ) → slice_index l.clock i
      ≡ merged_over (clock_at (record { clocks = l.clocks }) (previous l.fn.at)) (clock_at (record { clocks = l.clocks }))
      (listed l.sources l.of) i;
  places : length l.guesses ≡ CORES_MAX;
}
