use Rattle.std.proofs.Common.{◌<◌, ℕ}
use Rattle.cut_replay.specs.Dues.{IsDue}
use Rattle.cut_replay.proofs.cut_states.due_core.Given as goal

abbrev pub invariant-loop-core : goal.invariant-loop-core
invariant-loop-core l = (c : ℕ) → c < l.core → IsDue l.cut l.replay c → ⊥
