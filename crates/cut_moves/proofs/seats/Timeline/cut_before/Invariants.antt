use Rattle.std.proofs.Common.{◌≡◌, ◌<◌, ℕ, length, take}
use Rattle.std.specs.Prelude.{slice_index}
use Rattle.rtr_types.specs.declared.TheConstants.{CORES_MAX}
use Rattle.replay_core.specs.Orders.{counts, nought}
use Rattle.cut_replay.specs.ClosedCuts.{count_in}
use Rattle.cut_moves.specs.Ways.{between}
use Rattle.cut_moves.proofs.seats.Timeline.cut_before.Given as goal

-- of the cores so far the counts are those of the way
abbrev pub invariant-loop-core : goal.invariant-loop-core
invariant-loop-core l = record {
  wide : length l.counts ≡ CORES_MAX;
  each : (core : ℕ) → core < l.core → slice_index l.counts core
      ≡ between (count_in l.low core) (count_in l.high core) (counts nought (take l.number l.self) core);
}
