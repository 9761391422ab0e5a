-- merged with the clocks of the sources so far
use Rattle.std.proofs.Common.{◌≡◌, ℕ, slice_index}
use Rattle.clock_core.specs.Order.{previous}
use Rattle.clock_core.specs.Reach.{merged_over}
use Rattle.replay_core.specs.Sources.{listed}
use Rattle.replay_audit.specs.Clocks.{clock_at}
use Rattle.touch_judge.proofs.clocks.Clocks.next.Given as goal

abbrev pub invariant-loop-of : goal.invariant-loop-of
invariant-loop-of l = (i : ℕ) → slice_index l.clock i
    ≡ merged_over (clock_at l.fn.self (previous l.fn.at)) (clock_at l.fn.self) (listed l.sources l.of) i
