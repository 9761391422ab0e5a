-- The recording of every run is valid, and its reduced log is least.
use Rattle.std.proofs.Common.{◌≡◌, ◌∙◌, refl, sym, ap, subst, ◌*◌, ◌≤◌, List, length, arith}
use Rattle.image_mem.specs.Contents.{Contents}
use Rattle.rtr_types.specs.Parameters.{Fits}
use Rattle.rtr_types.specs.declared.params.Params.{Params}
use Rattle.rtr_types.specs.declared.pairs.Which.TheVariants.{Reduced}
use Rattle.schedule_pick.specs.Choices.{Choices, choice_at}
use Rattle.conflict_edge.proofs.TwoForms.{least_independent}
use Rattle.conflict_edge.specs.Conflicts.{CountsRise}
use Rattle.conflict_edge.specs.Least.{IsLeast}
use Rattle.log_codec.proofs.RecordingLaws.{spelled_is_read}
use Rattle.log_codec.specs.declared.version.Version.TheVariants.{Two}
use Rattle.edge_regulate.specs.Regulated.{Knowledge, regulated}
use Rattle.race_log.specs.Sources.{log_edges}
use Rattle.race_log.specs.declared.recording.Recording.{Recording}
use Rattle.race_log.specs.Validity.{Valid}
use Rattle.machine_bound.specs.Ends.{end_of}
use Rattle.machine_bound.proofs.RunEnds.{run_ends}
use Rattle.machine_plain.proofs.Shows.{plain_done}
use Rattle.msi_state.specs.States.{PlainState, all_done}
use Rattle.run_outcome.proofs.OutcomeFits.{run_image}
use Rattle.least_lists.proofs.Logs.{least_log}
use Rattle.run_records.proofs.RecordedEnd.{Ended, ended, recording_is, recording_left, recording_valid, vectors_by}
use Rattle.stride_vector.specs.declared.StrideVector.{StrideVector}
use Rattle.run_records.specs.Standing.{NotesAt}
use Rattle.run_records.specs.WhatIsKnown.{CountsKnown}
use Rattle.least_lists.specs.LeastLists.{AreOf}
use Rattle.run_records.specs.Recordings.{run_accesses, recording_of}
use Rattle.run_outcome.proofs.RunAccesses.{accesses_law}
use Rattle.run_records.proofs.RecordedRun.{stands_at}
use Rattle.run_records.specs.Recorded.{LeastLogLaw, RecordedLaw, RegulatedLogLaw}
use Rattle.run_records.specs.StandingAt.{Standing, regulation_of, standing_at}

-- ---- the reduced log

module _ (image : Contents) (params : Params) (schedule : Choices) (fits : Fits params) where
  pub rise : CountsRise (run_accesses image params schedule)
  unfolding run_accesses
  rise = (accesses_law image params (choice_at schedule) (end_of image params (choice_at schedule)) fits).rise

  pub are_of : AreOf params.cores (run_accesses image params schedule)
  unfolding run_accesses
  are_of = (accesses_law image params (choice_at schedule) (end_of image params (choice_at schedule)) fits).cores_are

  pub least : IsLeast (run_accesses image params schedule) (log_edges Reduced (recording_of image params schedule))
  unfolding recording_of
  least = least_log (recording_of image params schedule) (run_accesses image params schedule) rise are_of refl

pub least_log_law : LeastLogLaw
least_log_law image params schedule fits =
    let least_here = least image params schedule fits in
    record {
      least = least_here;
      needed = least_independent (run_accesses image params schedule)
          (log_edges Reduced (recording_of image params schedule)) least_here;
    }

-- ---- the end of the run

module _ (image : Contents) (params : Params) (schedule : Choices) (fits : Fits params) where
  -- where the recorder stands then
  last : Standing
  last = standing_at image params schedule (end_of image params (choice_at schedule))

  here : NotesAt image params schedule (end_of image params (choice_at schedule)) last.state last.reduction last.notes
      last.rest
  unfolding last
  here = (stands_at image params schedule fits (end_of image params (choice_at schedule)) (omega arith)).notes

  same : last.state.image ≡ image
  same = ap (λ (u : PlainState). u.image) here.run.state
      ∙ run_image image params (choice_at schedule) (end_of image params (choice_at schedule))

  at_end : Ended image params schedule last.state last.reduction last.notes
  at_end =
      let ends = run_ends image params (choice_at schedule) (record {
        cores = fits.cores;
        limit =
            omega (arith, fits.limit);
      }) in
      ended image params schedule (end_of image params (choice_at schedule)) last.state last.reduction last.notes
      last.rest fits
      (plain_done last.state ∙ ap all_done here.run.state ∙ ends.done) here

  -- the vectors of its edges, by what is noted
  abbrev last_vectors : List (List StrideVector)
  last_vectors = (regulation_of last.reduction last.notes).vectors

  is_recorded : recording_left params last.state last.reduction last_vectors ≡ recording_of image params schedule
  is_recorded = recording_is image params schedule last.state last.reduction last.notes last_vectors fits same at_end
      refl

  regulated_here : (known : Knowledge) → CountsKnown image params schedule known
      → (recording_of image params schedule).regulated ≡ regulated params.cores known
      (recording_of image params schedule).reduced
  regulated_here known counts =
      ap (λ (r : Recording). r.regulated) (sym is_recorded)
      ∙ vectors_by image params schedule last.state last.reduction last.notes last_vectors fits same at_end refl known
      counts
      ∙ ap (λ (r : Recording). regulated params.cores known r.reduced) is_recorded

pub regulated_log_law : RegulatedLogLaw
regulated_log_law image params schedule known fits counts = regulated_here image params schedule fits known counts

-- ---- the spelling

pub recording_valid_law : (image : Contents) (params : Params) (schedule : Choices) → Fits params
    → image.words ≡ params.words → length image.bytes ≤ 4 * params.words → Valid (recording_of image params schedule)
recording_valid_law image params schedule fits words room =
    subst Valid (is_recorded image params schedule fits)
    (recording_valid image params schedule (last image params schedule fits).state
    (last image params schedule fits).reduction
    (last image params schedule fits).notes (last_vectors image params schedule fits) fits
    (same image params schedule fits) (at_end image params schedule fits) refl words room)

pub recorded_law : RecordedLaw
recorded_law image params schedule fits words room =
    let valid = recording_valid_law image params schedule fits words room in
    record {
      valid = valid;
      read_back = spelled_is_read Two (recording_of image params schedule) valid valid.params;
      least = least image params schedule fits;
    }
