use Rattle.std.proofs.Common.{◌≡◌, ◌<◌, ◌≤◌, ℕ, length, get_or}
use Rattle.rtr_types.specs.declared.TheConstants.{CORES_MAX}
use Rattle.replay_core.specs.Orders.{counts_in}
use Rattle.replay_core.proofs.replay.Replay.cut.Given as goal

abbrev pub invariant-loop-core : goal.invariant-loop-core
invariant-loop-core l = record {
  wide : length l.counts ≡ CORES_MAX;
  done : (c : ℕ) → c < l.core → get_or l.counts c 0 ≡ counts_in l.self.state c;
  rest : (c : ℕ) → l.core ≤ c → get_or l.counts c 0 ≡ 0;
}
