-- The laws at the end of each run.
use Rattle.std.proofs.Common.{◌≡◌, ◌∙◌, ℕ, true, List, ap, arith, subst, sym}
use Rattle.image_mem.specs.Contents.{Contents}
use Rattle.rtr_types.specs.declared.access.Access.{Access}
use Rattle.rtr_types.specs.declared.params.Params.{Params}
use Rattle.rv_core.specs.declared.outcome.Outcome.{Outcome}
use Rattle.clock_core.specs.Order.{Within}
use Rattle.conflict_edge.specs.Conflicts.{ConflictPair, StandsIn}
use Rattle.replay_core.specs.Play.{loads_at, valued_accesses}
use Rattle.replay_audit.specs.Laws.{AgreesValued}
use Rattle.schedule_pick.specs.Choices.{Choices, choice_at}
use Rattle.tso_bound.specs.Ends.{end_of}
use Rattle.tso_codec.specs.declared.recording.TsoRecording.{TsoRecording}
use Rattle.tso_replay.specs.Replays.{tso_given, tso_plan}
pub use Rattle.tso_bound.proofs.RunEnds.{end_done}
use Rattle.tso_recordings.specs.Recordings.{CanRun}
use Rattle.tso_recordings.proofs.ReplayedRuns.{PlaysAs, plays_here, replays_here, run_told_so}
use Rattle.tso_recordings.proofs.Valid.{is_valid, recorded}
use Rattle.tso_state.specs.Runs.{all_told, run}
use Rattle.tso_state.specs.States.{all_done}
use Rattle.tso_outcome.specs.Outcomes.{tso_outcome_of}
pub use Rattle.tso_outcome.proofs.RunPlaces.{run_ends_so}
use Rattle.tso_records.specs.Standings.{standing_at}
use Rattle.tso_recordings.specs.Follows.{FollowsTsoRun, ReplayedLaw}
use Rattle.tso_recordings.specs.Replays.{IsToldRun}
use Rattle.tso_recordings.specs.RunLaws.{told_order}
use Rattle.tso_recordings.specs.Schedules.{HeldLaw, tso_accesses_of, tso_recording_of}

ended : (image : Contents) (params : Params) (choices : ℕ → ℕ) → CanRun image params →
    all_done (run image params choices (end_of image params choices)) ≡ true
ended image params choices can =
    end_done image params choices (record { cores = can.fits.cores; limit = omega (arith, can.fits.limit) })

pub held : HeldLaw
unfolding tso_recording_of tso_accesses_of
held image params schedule can =
    let choices = choice_at schedule in
    let t = end_of image params choices in
    let done = ended image params choices can in
    record {
      valid = is_valid image params choices t can done;
      least = (recorded image params choices t can done).least;
    }

-- a reduction that is told of the run comes to its log
pub lists_held : (image : Contents) (params : Params) (schedule : Choices) → CanRun image params →
    (standing_at image params (choice_at schedule) (end_of image params (choice_at schedule))).reduction.lists
    ≡ (tso_recording_of image params schedule).reduced
unfolding tso_recording_of
lists_held image params schedule can =
    let choices = choice_at schedule in
    (recorded image params choices (end_of image params choices) can (ended image params choices can)).lists

-- what is recorded is told of the run, which comes to its outcome
pub told_held : (image : Contents) (params : Params) (schedule : Choices) → CanRun image params →
    IsToldRun (tso_recording_of image params schedule)
    (all_told image params (choice_at schedule) (end_of image params (choice_at schedule)))
    (tso_outcome_of image params schedule)
unfolding tso_recording_of tso_outcome_of
told_held image params schedule can =
    let choices = choice_at schedule in
    run_told_so image params choices (end_of image params choices) can (ended image params choices can)

-- what agrees with an order that plays as the run did follows the run
module _ (image : Contents) (params : Params) (schedule : Choices) (r : TsoRecording) (told order : List ℕ)
    (it : PlaysAs r told (tso_accesses_of image params schedule) (tso_outcome_of image params schedule))
    (agrees : AgreesValued (tso_given r) (tso_plan r) told order) where
  follows : FollowsTsoRun image params schedule r order
  follows = record {
    plays = agrees.plays;
    accesses = λ a stands. subst (λ (l : List Access). StandsIn l a) it.accesses (agrees.accesses a stands);
    pairs = subst (λ (l : List Access).
        Within (ConflictPair (valued_accesses (tso_given r) (tso_plan r) order)) (ConflictPair l))
        it.accesses agrees.pairs;
    suffices = agrees.suffices;
    loads = λ c. (
      (agrees.loads c).0,
      ap (λ (s : Outcome). loads_at s c) (sym it.outcome_is) ∙ (agrees.loads c).1,
    );
    further = agrees.further;
    ends = λ whole. agrees.outcome whole ∙ it.outcome_is;
  }

pub replayed : ReplayedLaw
unfolding tso_recording_of tso_accesses_of tso_outcome_of
replayed image params schedule can =
    let choices = choice_at schedule in
    let t = end_of image params choices in
    let done = ended image params choices can in
    let it = replays_here image params choices t can done in
    record {
      every_order = λ order ordered.
          follows image params schedule (tso_recording_of image params schedule) (told_order image params choices t) order
          (plays_here image params choices t can done) (it.every_order order ordered);
      low_whole = it.low_whole;
      low = it.low;
      replayed = it.replayed;
      not_refused = it.not_refused;
    }
