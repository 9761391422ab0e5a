-- the count so far, with less than 2 ^ 96 for each pair
use Rattle.std.proofs.Common.{◌≡◌, ◌≤◌, ◌*◌, ◌^◌, take}
use Rattle.state_text.specs.Logs.{vector_edges}
use Rattle.state_text.proofs.logs.count_vector_edges.Given as goal

abbrev pub invariant-loop-vectors : goal.invariant-loop-vectors
invariant-loop-vectors l = record {
  so_far : l.count ≡ vector_edges (take l.vectors-index l.regulated);
  small : l.count ≤ 2 ^ 96 * l.vectors-index;
}
