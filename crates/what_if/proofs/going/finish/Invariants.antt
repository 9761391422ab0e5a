use Rattle.std.proofs.Common.{◌≡◌, ◌-◌}
use Rattle.what_if.specs.Others.{rounds}
use Rattle.what_if.proofs.going.finish.Given as goal

-- what the rounds that are left make of what those so far have come to is what all of them make
abbrev pub invariant-loop-turn : goal.invariant-loop-turn
invariant-loop-turn l = record {
  plan : l.replay.plan ≡ l.fn.replay.plan;
  state : rounds l.fn.replay.plan l.replay.state (l.fn.most - l.turn)
      ≡ rounds l.fn.replay.plan l.fn.replay.state l.fn.most;
}
