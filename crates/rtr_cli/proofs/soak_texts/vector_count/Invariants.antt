-- the count so far, with less than 2 ^ 64 for each pair
use Rattle.std.proofs.Common.{◌≡◌, ◌≤◌, ◌*◌, ◌^◌, length, take}
use Rattle.std.specs.Prelude.{sum_by}
use Rattle.rtr_cli.proofs.soak_texts.vector_count.Given as goal

abbrev pub invariant-loop-vectors : goal.invariant-loop-vectors
invariant-loop-vectors l = record {
  so_far : l.count ≡ sum_by length (take l.vectors-index l.regulated);
  small : l.count ≤ 2 ^ 64 * l.vectors-index;
}
