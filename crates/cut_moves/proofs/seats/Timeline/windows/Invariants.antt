use Rattle.std.proofs.Common.{◌≡◌, ◌<◌, ℕ, length, []}
use Rattle.std.specs.Prelude.{slice_index_or}
use Rattle.rtr_types.specs.declared.TheConstants.{CORES_MAX}
use Rattle.cut_replay.specs.ClosedCuts.{count_in}
use Rattle.cut_moves.specs.Seats.{IsWindow, window_at}
use Rattle.cut_moves.proofs.seats.Timeline.windows.Given as goal

abbrev pub invariant-loop-core : goal.invariant-loop-core
invariant-loop-core l = record {
  wide : length l.windows ≡ CORES_MAX;
  each : (core : ℕ) → core < l.core → IsWindow (slice_index_or l.self-inside.seats.items core [])
      (count_in l.low core) (count_in l.high core) (window_at l.windows core);
}
