use Rattle.std.proofs.Common.{◌≡◌, ◌-◌, ◌++◌, drop, take}
use Rattle.turn_policies.specs.Ranked.{lowered}
use Rattle.turn_policies.proofs.ranked.lower.Given as goal

abbrev pub invariant-loop-place : goal.invariant-loop-place
invariant-loop-place l =
    take (l.place - 1) l.order ++ lowered l.actor (drop (l.place - 1) l.order) ≡ lowered l.actor l.fn.order
