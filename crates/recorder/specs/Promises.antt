-- Rule: what is promised of the recording that a run leaves: IsRecordingOf
-- What is promised of the recording that a run leaves.
use Rattle.std.specs.Prelude.{◌≡◌}
use Rattle.conflict_edge.specs.Least.{IsLeast}
use Rattle.edge_regulate.specs.Regulated.{Knowledge, regulated as regulated_by}
use Rattle.image_mem.specs.Contents.{Contents}
use Rattle.race_log.specs.Sources.{log_edges}
use Rattle.race_log.specs.Validity.{Valid}
use Rattle.race_log.specs.declared.recording.Recording.{Recording}
use Rattle.rtr_types.specs.declared.pairs.Which.TheVariants.{Reduced}
use Rattle.rtr_types.specs.declared.params.Params.{Params}
use Rattle.run_records.specs.Recordings.{recording_of, run_accesses}
use Rattle.run_records.specs.WhatIsKnown.{CountsKnown}
use Rattle.schedule_pick.specs.Choices.{Choices}

-- it is that of the run, and valid; its regulated log has each pair's greedy vectors of its reduced edges, by whatever
-- counts what is known in the run; and its reduced log is the least set of the run's accesses
pub record IsRecordingOf (image : Contents) (params : Params) (schedule : Choices) (r : Recording) : Type 0 where
  pub recording : r ≡ recording_of image params schedule
  pub valid : Valid r
  pub regulated : (known : Knowledge) → CountsKnown image params schedule known
      → r.regulated ≡ regulated_by params.cores known r.reduced
  pub least : IsLeast (run_accesses image params schedule) (log_edges Reduced r)
