use Rattle.std.proofs.Common.{◌≡◌, ℕ}
use Rattle.std.specs.Prelude.{map}
use Rattle.std.specs.List.{range_with_len}
use Rattle.tso_state.specs.States.{buffered_start}
use Rattle.tso_core.proofs.parts.first_cores.Given as goal

abbrev pub invariant-loop-id : goal.invariant-loop-id
invariant-loop-id l = l.made.items ≡ map (λ (id : ℕ). buffered_start id l.limit) (range_with_len 0 l.id)
