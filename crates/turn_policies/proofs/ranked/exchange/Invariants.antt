use Rattle.std.proofs.Common.{◌≡◌, ◌++◌, drop, take}
use Rattle.std.specs.Prelude.{map}
use Rattle.turn_policies.specs.Ranked.{exchanged_one}
use Rattle.turn_policies.proofs.ranked.exchange.Given as goal

abbrev pub invariant-loop-place : goal.invariant-loop-place
invariant-loop-place l =
    l.order ≡ map (exchanged_one l.one l.other) (take l.place l.fn.order) ++ drop l.place l.fn.order
