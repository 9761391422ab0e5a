use Rattle.std.proofs.Common.{◌≢◌, ◌<◌, ◌≤◌, ℕ, slice_index}
use Rattle.replay_core.specs.Orders.{counts_in}
use Rattle.cut_replay.proofs.cut_states.is_waited_for.Given as goal

abbrev pub invariant-loop-of : goal.invariant-loop-of
invariant-loop-of l = (i : ℕ) → i < l.of → i ≢ l.fn.core → slice_index l.clock i ≤ counts_in l.replay.state i
