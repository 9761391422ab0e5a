use Rattle.std.proofs.Common.{◌≡◌, take}
use Rattle.std.specs.Prelude.{sum_by}
use Rattle.race_log.specs.Counts.{position_count}
use Rattle.race_log.proofs.recording.positions_of_all.Given as goal

abbrev pub invariant-loop-vectors : goal.invariant-loop-vectors
invariant-loop-vectors l = l.count ≡ sum_by position_count (take l.vectors-index l.regulated)
