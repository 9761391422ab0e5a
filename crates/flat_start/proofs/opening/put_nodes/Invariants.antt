use Rattle.std.proofs.Common.{◌≡◌, ℕ, map}
use Rattle.std.specs.List.{range_with_len}
use Rattle.flat_start.specs.Starts.{node_start}
use Rattle.flat_start.proofs.opening.put_nodes.Given as goal

abbrev pub invariant-loop-id : goal.invariant-loop-id
invariant-loop-id l =
    l.nodes.items ≡ map (λ (id : ℕ). node_start l.program id l.limit) (range_with_len 0 l.id)
