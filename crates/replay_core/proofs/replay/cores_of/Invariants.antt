use Rattle.std.proofs.Common.{◌≡◌}
use Rattle.std.specs.List.{range_with_len}
use Rattle.std.specs.Prelude.{map}
use Rattle.rv_core.specs.States.{starting}
use Rattle.replay_core.proofs.replay.cores_of.Given as goal

abbrev pub invariant-loop-id : goal.invariant-loop-id
invariant-loop-id l = l.list.items ≡ map (λ c. starting c l.limit) (range_with_len 0 l.id)
