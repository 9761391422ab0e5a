use Rattle.std.proofs.Common.{ap}
use Rattle.race_log.specs.declared.recording.Recording.{Recording}
use Rattle.cut_moves.proofs.Hulls.{empty_closed, whole_closed}
use Rattle.gdb_moves.proofs.direction.Direction.limit.Goals as goal

pub returns-in-Forward-clause-closed : goal.returns-in-Forward-clause-closed
returns-in-Forward-clause-closed c = whole_closed _ _ _ c.recording.ensures.valid c.whole.ensures

pub returns-in-Back-clause-closed : goal.returns-in-Back-clause-closed
returns-in-Back-clause-closed c = empty_closed _ _ _ c.recording.ensures.valid
    (ap (λ (r : Recording). r.params.cores) c.recording-in-Back.ensures.recording)
