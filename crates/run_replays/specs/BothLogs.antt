-- Rule: the regulated log of a run: RegulatesRun
-- Both logs of what a run records.
use Rattle.std.specs.Prelude.{◌≡◌, ℕ, ◌*◌, ◌≤◌, [], length, slice_index_or}
use Rattle.image_mem.specs.Contents.{Contents}
use Rattle.machine_known.specs.Known.{RetiresEarlier}
use Rattle.rtr_types.specs.Parameters.{Fits}
use Rattle.rtr_types.specs.declared.pairs.Which.{Which}
use Rattle.rtr_types.specs.declared.pairs.Which.TheVariants.{Regulated}
use Rattle.rtr_types.specs.declared.params.Params.{Params}
use Rattle.schedule_pick.specs.Choices.{Choices, choice_at}
use Rattle.clock_core.specs.Order.{Among, Within}
use Rattle.race_log.specs.Sources.{log_edges}
use Rattle.race_log.specs.declared.recording.Recording.{Recording}
use Rattle.edge_regulate.specs.Regulated.{Knowledge, regulated}
use Rattle.run_records.specs.Recordings.{recording_of}
use Rattle.run_records.specs.WhatIsKnown.{CountsKnown}
use Rattle.run_replays.specs.Deciding.{CoversRun}
use Rattle.run_replays.specs.Replays.{ReplaysRun}

-- no pair has more vectors than reduced edges
abbrev pub HasFewVectors : Recording → Type 0
HasFewVectors r =
    (place : ℕ) → length (slice_index_or r.regulated place []) ≤ length (slice_index_or r.reduced place [])

-- the regulated log of a run has each pair's greedy vectors of the reduced edges, by whatever counts what is known in
-- the run. Each of its edges goes from an instruction that retires in the run to one that retires later, each reduced
-- edge is before by it, and no pair has more vectors than reduced edges
pub record RegulatesRun (image : Contents) (params : Params) (schedule : Choices) (r : Recording) : Type 0 where
  pub vectors : (known : Knowledge) → CountsKnown image params schedule known
      → r.regulated ≡ regulated params.cores known r.reduced
  pub covers : CoversRun image params schedule Regulated r
  pub earlier : Within (Among (log_edges Regulated r)) (RetiresEarlier image params (choice_at schedule))
  pub few : HasFewVectors r

abbrev pub RunRegulatedLaw : Type 0
RunRegulatedLaw =
    (image : Contents) (params : Params) (schedule : Choices) → Fits params → image.words ≡ params.words
    → length image.bytes ≤ 4 * params.words
    → RegulatesRun image params schedule (recording_of image params schedule)

-- By either log what is recorded replays the run.
abbrev pub BothReplayLaw : Type 0
BothReplayLaw =
    (image : Contents) (params : Params) (schedule : Choices) (which : Which) → Fits params
    → image.words ≡ params.words → length image.bytes ≤ 4 * params.words
    → ReplaysRun image params schedule which (recording_of image params schedule)
