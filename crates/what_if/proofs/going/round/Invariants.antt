use Rattle.std.proofs.Common.{◌≡◌, false}
use Rattle.std.specs.List.{range_with_len}
use Rattle.what_if.specs.Others.{left_by}
use Rattle.what_if.proofs.going.round.Given as goal

-- the cores so far went on, if they could. If none did, nothing changed
abbrev pub invariant-loop-core : goal.invariant-loop-core
invariant-loop-core l = record {
  plan : l.replay.plan ≡ l.initial.replay.plan;
  state : l.replay.state ≡ left_by l.initial.replay.plan l.initial.replay.state (range_with_len 0 l.core);
  idle : l.went ≡ false → l.replay.state ≡ l.initial.replay.state;
}
