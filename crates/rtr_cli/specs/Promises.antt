-- Rule: what is promised of what a command makes: Promised, KeepsRun, KeepsTsoRun
-- What is promised beside what a command makes.
use Rattle.std.specs.Prelude.{◌≡◌, ℕ, ◌↔◌, Bool, List, [], Option, Ok}
use Rattle.run_records.specs.Recordings.{IsRecorded}
use Rattle.schedule_pick.specs.Choices.{choice_at, choices_of}
use Rattle.rtr_types.specs.declared.params.Params.{Params}
use Rattle.rtr_types.specs.declared.pairs.Which.{Which}
use Rattle.rtr_types.specs.declared.pairs.Which.TheVariants.{Reduced, Regulated}
use Rattle.log_codec.specs.Reading.{whole_at}
use Rattle.log_codec.specs.Spelling.{spelling}
use Rattle.run_replays.specs.BothLogs.{RegulatesRun}
use Rattle.run_replays.specs.Replays.{ReplaysRun}
use Rattle.replay_audit.specs.Determinate.{IsDeterminate}
use Rattle.tso_recordings.specs.Logged.{AreLogged}
use Rattle.tso_recordings.specs.Follows.{ReplaysTsoRun}
use Rattle.tso_recordings.specs.Schedules.{IsHeld}
use Rattle.tso_recordings.specs.Follows.{RunEnds as TsoRunEnds}
use Rattle.tso_codec.specs.Reading.{tso_at}
use Rattle.tso_codec.specs.Spelling.{tso_spelling}
use Rattle.vector_reduce.specs.Answers.{IsAccepted}
use Rattle.vector_reduce.specs.Reading.{thinned_at}
use Rattle.certificate_codec.specs.Reading.{certificate_at}
use Rattle.min_certificate.specs.Answers.{Checks}
use Rattle.min_certificate.specs.Laws.{IsLeastIn}
use Rattle.state_text.specs.declared.exit.Exit.{Exit}
use Rattle.state_text.specs.declared.exit.Exit.TheVariants as exits
use Rattle.tool_words.specs.declared.command.Command.{Command}
use Rattle.tool_words.specs.declared.command.Command.TheVariants.{Record, Run, Print, Replay, Migrate, Certify, Check}
use Rattle.tool_words.specs.declared.command.Command.TheVariants.{Gen, Soak, At, Thin, CheckThin, TsoRecord, TsoRun}
use Rattle.tool_words.specs.declared.command.Command.TheVariants.{TsoReplay}
use Rattle.trace_gen.specs.Programs.{generated}
use Rattle.rtr_cli.specs.Inputs.{SpellsSome, image_of, loaded}
use Rattle.rtr_cli.specs.Replays.{IsReplayed}
use Rattle.rtr_cli.specs.Runs.{RunEnds, flat_run, recording_of_bytes}
use Rattle.rtr_cli.specs.Buffers.{IsTsoReplayed, tso_recording_of_bytes}
use Rattle.rtr_cli.specs.Commands.{Makes, Refuses}

-- of the recording of a run of the image of these bytes. Its spelling is read back as it, and its reduced log is the
-- least set of the run's accesses.
-- The run ended, each core's program being done. Its regulated log has the greedy vectors by what is known in the run:
-- each of its edges goes from an instruction to one that retired later, and each edge of the reduced log is before
-- by it, with no more vectors for a pair of cores
-- than edges. Every order that obeys either log replays the run: it gives each load the run's value, and is whole or
-- can go on; a whole one ends in the run's memory and cores. So `replay` of its spelling with either log prints what
-- `run` prints of the same image and options, and it and `certify` give nothing for no other reason than want of memory
pub record KeepsRun (params : Params) (choices : List ℕ) (seed : ℕ) (bytes : List ℕ) : Type 0 where
  pub ended : RunEnds (image_of params bytes) params (choice_at (choices_of choices seed))
  pub recorded : IsRecorded (image_of params bytes) params (choices_of choices seed)
  pub regulates : RegulatesRun (image_of params bytes) params (choices_of choices seed)
      (recording_of_bytes params choices seed bytes)
  pub replays : (which : Which) → ReplaysRun (image_of params bytes) params (choices_of choices seed) which
      (recording_of_bytes params choices seed bytes)
  pub prints : (which : Which) (threads : Option ℕ) (loads : Bool) (out : List ℕ)
      → Makes (Replay which threads loads) (spelling (recording_of_bytes params choices seed bytes)) out
      ↔ Makes (Run (flat_run params choices seed) loads) bytes out
  pub refuses : (which : Which) (threads : Option ℕ) (loads : Bool) (exit : Exit)
      → Refuses (Replay which threads loads) (spelling (recording_of_bytes params choices seed bytes)) exit
      → exit ≡ exits.OutOfMemory
  pub certified : (exit : Exit) → Refuses Certify (spelling (recording_of_bytes params choices seed bytes)) exit
      → exit ≡ exits.OutOfMemory

-- of the recording of a run of the image of these bytes by cores with store buffers. The run ended, each core's program
-- being done and no access pending. The recording is valid and its reduced log is the least set of the accesses that
-- the run ordered; its logged loads are those that left their core's queue where the core's port couldn't read the
-- word, or where the word differed from what the load got, and no others; its spelling is read back as it. Every order
-- that obeys the log follows the run with the logged words: it plays by the run's accesses, gives each core the first of
-- the run's loads and atomic memory operations, each with the word that it got, and is whole or can go on; a whole one
-- ends in the run's memory and cores. So `tsoreplay` of the spelling prints what `tsorun` prints of the same image and
-- options, and gives nothing for no other reason than want of memory
pub record KeepsTsoRun (params : Params) (choices : List ℕ) (seed : ℕ) (bytes : List ℕ) : Type 0 where
  pub ended : TsoRunEnds (image_of params bytes) params (choices_of choices seed)
  pub held : IsHeld (image_of params bytes) params (choices_of choices seed)
  pub logged : AreLogged (image_of params bytes) params (choices_of choices seed)
      (tso_recording_of_bytes params choices seed bytes).values
  pub read_back : tso_at (tso_spelling (tso_recording_of_bytes params choices seed bytes))
      ≡ Ok (tso_recording_of_bytes params choices seed bytes)
  pub replays : ReplaysTsoRun (image_of params bytes) params (choices_of choices seed)
      (tso_recording_of_bytes params choices seed bytes)
  pub prints : (loads : Bool) (out : List ℕ)
      → Makes (TsoReplay loads) (tso_spelling (tso_recording_of_bytes params choices seed bytes)) out
      ↔ Makes (TsoRun (flat_run params choices seed) loads) bytes out
  pub refuses : (loads : Bool) (exit : Exit)
      → Refuses (TsoReplay loads) (tso_spelling (tso_recording_of_bytes params choices seed bytes)) exit
      → exit ≡ exits.OutOfMemory

-- a recording keeps its run, of either kind of cores, and so does the one that a soak makes; what a run without a
-- recording comes to is taken where the run ends; what was replayed, to its end or to a cut, is determinate; what was
-- certified or checked is determinate, and its reduced log is least; what was thinned or is checked to be so is
-- determinate, and of a checked one each vector is needed; and what was replayed of cores with store buffers is so by
-- its low order
abbrev pub Promised : Command → (input : List ℕ) → Type 0
Promised (Record run) input = SpellsSome (loaded run input) (λ bytes. KeepsRun run.params run.choices run.seed bytes)
Promised (Run run loads) input =
    SpellsSome (loaded run input)
    (λ bytes. RunEnds (image_of run.params bytes) run.params (choice_at (choices_of run.choices run.seed)))
Promised Print input = Unit {0}
Promised (Replay which threads loads) input = SpellsSome (whole_at input) (λ r. IsReplayed which r)
Promised Migrate input = Unit {0}
Promised Certify input = SpellsSome (whole_at input) (λ r. IsDeterminate Reduced r × IsLeastIn r)
Promised Check input = SpellsSome (certificate_at input) (λ c. Checks c)
Promised (Gen shape number) input = Unit {0}
Promised (Soak shape number params seed) input = KeepsRun params [] seed (generated shape number)
Promised (At which at latest loads) input = SpellsSome (whole_at input) (λ r. IsReplayed which r)
Promised (Thin certify) input = SpellsSome (whole_at input) (λ r. IsReplayed Regulated r)
Promised CheckThin input = SpellsSome (thinned_at input) (λ t. IsAccepted t)
Promised (TsoRecord run) input = KeepsTsoRun run.params run.choices run.seed input
Promised (TsoRun run loads) input =
    TsoRunEnds (image_of run.params input) run.params (choices_of run.choices run.seed)
Promised (TsoReplay loads) input = SpellsSome (tso_at input) (λ r. IsTsoReplayed r)
