use Rattle.std.proofs.Common.{◌≡◌, drop}
use Rattle.what_if.specs.Others.{left_by}
use Rattle.what_if.proofs.going.walk.Given as goal

-- what the places that are left make of what those so far have come to is what all of them make
abbrev pub invariant-loop-core : goal.invariant-loop-core
invariant-loop-core l = record {
  plan : l.replay.plan ≡ l.fn.replay.plan;
  state : left_by l.fn.replay.plan l.replay.state (drop l.core-index l.places)
      ≡ left_by l.fn.replay.plan l.fn.replay.state l.places;
}
