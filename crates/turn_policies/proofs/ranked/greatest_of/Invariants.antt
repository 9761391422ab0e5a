use Rattle.std.proofs.Common.{◌≡◌, drop}
use Rattle.std.specs.Prelude.{find}
use Rattle.turn_policies.specs.Listed.{is_listed}
use Rattle.turn_policies.proofs.ranked.greatest_of.Given as goal

abbrev pub invariant-loop-actor : goal.invariant-loop-actor
invariant-loop-actor l =
    find (is_listed l.actors) (drop l.actor-index l.order) ≡ find (is_listed l.actors) l.order
