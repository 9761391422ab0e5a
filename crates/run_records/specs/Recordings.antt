-- Rule: what a run records, and what is promised of a recording: recording_of, IsRecorded
-- What a run is recorded as.
use Rattle.std.specs.Prelude.{◌≡◌, ℕ, List, map, Ok}
use Rattle.image_mem.specs.Contents.{Contents}
use Rattle.rtr_types.specs.declared.access.Access.{Access}
use Rattle.rtr_types.specs.declared.pairs.Which.TheVariants.{Reduced}
use Rattle.rtr_types.specs.declared.params.Params.{Params}
use Rattle.rv_core.specs.declared.core_state.Core.{Core}
use Rattle.schedule_pick.specs.Choices.{Choices, choice_at}
use Rattle.stride_vector.specs.declared.StrideVector.{StrideVector}
use Rattle.conflict_edge.specs.Least.{IsLeast}
use Rattle.know_history.specs.Notes.{Notes, known_at}
use Rattle.edge_regulate.specs.Regulated.{Knowledge, regulated}
use Rattle.log_codec.specs.Reading.{whole_at}
use Rattle.race_log.specs.Sources.{log_edges}
use Rattle.log_codec.specs.Spelling.{spelling}
use Rattle.race_log.specs.Validity.{Valid}
use Rattle.race_log.specs.declared.recording.Recording.{Recording}
use Rattle.machine_bound.specs.Ends.{end_of}
use Rattle.machine_known.specs.RunHistory.{notes_at}
use Rattle.msi_state.specs.Runs.{accesses}
use Rattle.run_outcome.specs.Outcomes.{outcome_of}
use Rattle.least_lists.specs.LeastLists.{least_lists}

-- the data accesses of the whole run, in the order in which their instructions retired
unfoldable pub run_accesses : Contents → Params → Choices → List Access
run_accesses image params schedule =
    accesses image params (choice_at schedule) (end_of image params (choice_at schedule))

-- what is noted of the whole run: at each retirement how many instructions of each other core are known there
unfoldable pub run_notes : Contents → Params → Choices → Notes
run_notes image params schedule =
    notes_at image params (choice_at schedule) (end_of image params (choice_at schedule))

-- how many instructions of each core are known at each instruction of the run
abbrev pub run_knowledge : Contents → Params → Choices → Knowledge
run_knowledge image params schedule = known_at (run_notes image params schedule)

-- the reduced log of the run: the least set of its accesses, by pair of cores
abbrev pub reduced_of : Contents → Params → Choices → List (List (ℕ × ℕ))
reduced_of image params schedule = least_lists params.cores (run_accesses image params schedule)

-- the regulated log of the run: each pair's greedy vectors of its reduced edges, by what is known in the run
abbrev pub regulated_of : Contents → Params → Choices → List (List StrideVector)
regulated_of image params schedule =
    regulated params.cores (run_knowledge image params schedule) (reduced_of image params schedule)

-- how many instructions each core retired
abbrev pub totals_of : List Core → List ℕ
totals_of cores = map (λ k. k.count) cores

-- the recording of a run that left these cores, with these edges and these vectors by pair of cores
abbrev pub recording_from : Params → Contents → List Core → List (List (ℕ × ℕ)) → List (List StrideVector) → Recording
recording_from params image cores reduced vectors =
    record {
      params = params;
      image = image.bytes;
      totals = totals_of cores;
      reduced = reduced;
      regulated = vectors;
    }

-- the recording of the run, with both logs
unfoldable pub recording_of : Contents → Params → Choices → Recording
recording_of image params schedule =
    recording_from params image (outcome_of image params schedule).cores (reduced_of image params schedule)
    (regulated_of image params schedule)

-- what is promised of it: it is valid, its spelling is read back as it, and its reduced log is the least set of the
-- run's accesses
pub record IsRecorded (image : Contents) (params : Params) (schedule : Choices) : Type 0 where
  pub valid : Valid (recording_of image params schedule)
  pub read_back : whole_at (spelling (recording_of image params schedule)) ≡ Ok (recording_of image params schedule)
  pub least : IsLeast (run_accesses image params schedule) (log_edges Reduced (recording_of image params schedule))
