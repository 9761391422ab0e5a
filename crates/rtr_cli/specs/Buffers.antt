-- Rule: what is said of a replay with store buffers: IsTsoReplayed
-- Runs of cores with store buffers, their recordings, and what is said of replays of these.
use Rattle.std.specs.Prelude.{ℕ, Bool, List}
use Rattle.rv_core.specs.declared.outcome.Outcome.{Outcome}
use Rattle.schedule_pick.specs.Choices.{choices_of}
use Rattle.rtr_types.specs.declared.params.Params.{Params}
use Rattle.replay_core.specs.declared.answers.ReplayFault.{ReplayFault}
use Rattle.replay_core.specs.declared.answers.ReplayFault.TheVariants as replays
use Rattle.replay_core.specs.Orders.{IsWhole, low_order}
use Rattle.replay_core.specs.Plans.{recorded_image}
use Rattle.replay_core.specs.Play.{ValuedPlays, start, valued_played}
use Rattle.replay_audit.specs.declared.audit_fault.AuditFault.{AuditFault}
use Rattle.replay_audit.specs.declared.audit_fault.AuditFault.TheVariants as faults
use Rattle.tso_recordings.specs.Schedules.{tso_recording_of}
use Rattle.tso_codec.specs.declared.recording.TsoRecording.{TsoRecording}
use Rattle.tso_recordings.specs.Follows.{tso_outcome_of}
use Rattle.tso_codec.specs.Spelling.{tso_spelling}
use Rattle.tso_codec.specs.Validity.{plain_of}
use Rattle.tso_replay.specs.Laws.{AllAgree, OrdersConflicts, ReplaysTold}
use Rattle.tso_replay.specs.Replays.{TsoRefuses, tso_given, tso_plan}
use Rattle.tso_state.specs.Events.{Told}
use Rattle.tso_recordings.specs.Replays.{IsToldRun}
use Rattle.tso_recordings.specs.Tells.{cores_told}
use Rattle.state_text.specs.declared.exit.Exit.{Exit}
use Rattle.state_text.specs.declared.exit.Exit.TheVariants as exits
use Rattle.state_text.specs.States.{state_lines}
use Rattle.tool_words.specs.declared.command.RunWords.{RunWords}
use Rattle.rtr_cli.specs.Inputs.{image_of}
use Rattle.rtr_cli.specs.Replays.{Ends}

-- the outcome of the run of the image of these bytes by cores with store buffers, under the schedule of these choice
-- bytes and this seed, and its recording, whose log is the least set of the accesses that the run ordered and whose
-- logged loads are those of the run
abbrev pub tso_outcome_of_bytes : Params → (choices : List ℕ) (seed : ℕ) → (bytes : List ℕ) → Outcome
tso_outcome_of_bytes params choices seed bytes =
    tso_outcome_of (image_of params bytes) params (choices_of choices seed)

abbrev pub tso_recording_of_bytes : Params → (choices : List ℕ) (seed : ℕ) → (bytes : List ℕ) → TsoRecording
tso_recording_of_bytes params choices seed bytes =
    tso_recording_of (image_of params bytes) params (choices_of choices seed)

-- what the low order of a recording of cores with store buffers comes to, where each logged load takes its word, and
-- the text of it
abbrev pub tso_outcome : TsoRecording → Outcome
tso_outcome r = valued_played (tso_given r) (tso_plan r) (low_order (tso_plan r))

abbrev pub tso_replay_lines : (loads : Bool) → TsoRecording → List ℕ
tso_replay_lines loads r = state_lines (tso_outcome r) (recorded_image (plain_of r)) loads

-- what `tsorecord` gives of a run of the image of these bytes, and what `tsorun` prints of it
abbrev pub tso_recorded_bytes : RunWords → (bytes : List ℕ) → List ℕ
tso_recorded_bytes run bytes = tso_spelling (tso_recording_of_bytes run.params run.choices run.seed bytes)

abbrev pub tso_run_lines : RunWords → (loads : Bool) → (bytes : List ℕ) → List ℕ
tso_run_lines run loads bytes =
    state_lines (tso_outcome_of_bytes run.params run.choices run.seed bytes) (image_of run.params bytes) loads

-- how a command ends whose replay was refused so
abbrev pub exit_of_replay : ReplayFault → Exit
exit_of_replay (replays.Stuck cut) = exits.Stuck cut
exit_of_replay (replays.Short core count) = exits.Short core count
exit_of_replay replays.OutOfMemory = exits.OutOfMemory

-- a replay of a recording of cores with store buffers is refused so, and never for conflicts that the log leaves open.
-- Want of memory says nothing
abbrev pub TsoStops : TsoRecording → AuditFault → Type 0
TsoStops r (faults.Stuck cut) = TsoRefuses r (replays.Stuck cut)
TsoStops r (faults.Short core count) = TsoRefuses r (replays.Short core count)
TsoStops r (faults.Undetermined first second) = ⊥
TsoStops r faults.OutOfMemory = Unit {0}

-- a command that replays this recording of cores with store buffers ends so
abbrev pub TsoEnds : TsoRecording → Exit → Type 0
TsoEnds r exit = Ends (TsoStops r) (λ failure. ⊥) exit

-- a recording of cores with store buffers is replayed: its low order is whole and plays. Where the log orders each two
-- accesses of the low order that conflict, every order that obeys it plays, gives each load the same word, and can go
-- on until it is whole, where it ends as the low order does. And where the recording is one of a run (the instructions
-- that were told play with the recorded words, and the log is the least set of their accesses), every such order
-- replays that run: it gives each load the run's word, and is whole or can go on; a whole one ends in the run's memory
-- and cores
pub record IsTsoReplayed (r : TsoRecording) : Type 0 where
  pub whole : IsWhole (tso_plan r) (low_order (tso_plan r))
  pub plays : ValuedPlays (tso_given r) (tso_plan r) (start (tso_plan r)) (low_order (tso_plan r))
  pub every_order : OrdersConflicts r → AllAgree r
  pub told : (list : List Told) (outcome : Outcome) → IsToldRun r list outcome
      → ReplaysTold r (cores_told list) outcome
