-- each logged source on the cores so far was seen
use Rattle.std.proofs.Common.{◌<◌, ◌≤◌, slice_index, ℕ}
use Rattle.replay_table.proofs.seat.CoreSeat.unmet.Given as goal

abbrev pub invariant-loop-of : goal.invariant-loop-of
invariant-loop-of g l = (i : ℕ) → i < l.of → slice_index l.sources i ≤ slice_index l.self-inside.seen.items i
