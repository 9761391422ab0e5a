-- the count so far, with less than 2 ^ 32 for each vector
use Rattle.std.proofs.Common.{◌≡◌, ◌≤◌, ◌*◌, ◌^◌, take}
use Rattle.race_log.specs.Counts.{position_count}
use Rattle.state_text.proofs.logs.count_edges.Given as goal

abbrev pub invariant-loop-vector : goal.invariant-loop-vector
invariant-loop-vector l = record {
  so_far : l.count ≡ position_count (take l.vector-index l.vectors);
  small : l.count ≤ 2 ^ 32 * l.vector-index;
}
