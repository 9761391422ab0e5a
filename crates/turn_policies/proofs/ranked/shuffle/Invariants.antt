use Rattle.std.proofs.Common.{◌≡◌, ◌-◌, length}
use Rattle.turn_policies.specs.Ranked.{shuffled}
use Rattle.turn_policies.proofs.ranked.shuffle.Given as goal

abbrev pub invariant-loop-done : goal.invariant-loop-done
invariant-loop-done l =
    shuffled l.actors (length l.actors - l.done) l.words l.order
    ≡ shuffled l.actors (length l.actors - 1) l.fn.words l.fn.order
