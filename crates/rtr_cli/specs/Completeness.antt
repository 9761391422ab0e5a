-- Rule: what each command accepts: Accepts
-- The inputs of which each command makes an output, unless memory runs out: among them whatever another command wrote.
use Rattle.std.specs.Prelude.{◌≡◌, ℕ, ◌*◌, ◌<◌, ◌≤◌, ◌⊎◌, Bool, true, List, [], length, slice_index, Option}
use Rattle.std.specs.Prelude.{Some, None}
use Rattle.certificate_codec.specs.declared.certificate.Certificate.{Certificate}
use Rattle.certificate_codec.specs.Reading.{certificate_at}
use Rattle.log_codec.specs.Laws.{IsBytes}
use Rattle.log_codec.specs.Reading.{whole_at}
use Rattle.race_log.specs.declared.recording.Recording.{Recording}
use Rattle.min_certificate.specs.Answers.{Certifies}
use Rattle.replay_audit.specs.Audits.{IsInstrOf}
use Rattle.replay_audit.specs.Determinate.{IsDeterminate}
use Rattle.rtr_io.specs.Faults.{HasRisen}
use Rattle.rtr_types.specs.Parameters.{Fits}
use Rattle.rtr_types.specs.declared.instr.Instr.{Instr}
use Rattle.rtr_types.specs.declared.pairs.Which.{Which}
use Rattle.rtr_types.specs.declared.pairs.Which.TheVariants.{Reduced}
use Rattle.rtr_types.specs.declared.params.Params.{Params}
use Rattle.state_text.specs.declared.exit.Exit.{Exit}
use Rattle.state_text.specs.declared.exit.Exit.TheVariants as exits
use Rattle.tool_words.specs.declared.command.Command.{Command}
use Rattle.tool_words.specs.declared.command.Command.TheVariants.{Record, Run, Print, Replay, Migrate, Certify, Check}
use Rattle.tool_words.specs.declared.command.Command.TheVariants.{Gen, Soak, At, Thin, CheckThin}
use Rattle.tool_words.specs.declared.command.Command.TheVariants.{TsoRecord, TsoRun, TsoReplay}
use Rattle.tool_words.specs.declared.command.RunWords.{RunWords}
use Rattle.trace_gen.specs.Programs.{image_length}
use Rattle.rv_core.specs.declared.outcome.Outcome.{Outcome}
use Rattle.tso_codec.specs.declared.recording.TsoRecording.{TsoRecording}
use Rattle.tso_codec.specs.Reading.{tso_at}
use Rattle.tso_codec.specs.Validity.{IsTso}
use Rattle.tso_state.specs.Events.{Told}
use Rattle.tso_recordings.specs.Replays.{IsToldRun}
use Rattle.vector_reduce.specs.declared.thinned.Thinned.{Thinned}
use Rattle.vector_reduce.specs.Answers.{AreFew, IsThinningOf}
use Rattle.vector_reduce.specs.Reading.{thinned_at}
use Rattle.rtr_cli.specs.Inputs.{SpellsSome, loaded, most_of, run_bytes_max}
use Rattle.rtr_cli.specs.Runs.{recording_of_bytes}
use Rattle.rtr_cli.specs.Commands.{Makes, Refuses}
use Rattle.rtr_cli.specs.Promises.{Promised}

-- the recording is one that `record` makes: that of a run of an image that the memory holds, within the limits
pub record IsOfRecord (r : Recording) : Type 0 where
  pub params : Params
  pub choices : List ℕ
  pub seed : ℕ
  pub bytes : List ℕ
  pub fits : Fits params
  pub room : length bytes ≤ 4 * params.words
  pub recorded : r ≡ recording_of_bytes params choices seed bytes

-- it is, and has the instruction
abbrev pub IsOfRecordWith : Instr → Recording → Type 0
IsOfRecordWith at r = IsOfRecord r × IsInstrOf r at

-- it is, and has no more vectors, nor more edges of them, than are tried
abbrev pub IsOfRecordWithFew : Recording → Type 0
IsOfRecordWithFew r = IsOfRecord r × AreFew r

-- the thin file is one that `thin` makes
abbrev pub IsOfThin : Thinned → Type 0
IsOfThin t = (recording : Recording) × IsThinningOf recording t

-- the certificate is one that `certify` makes: of a determinate recording, with exact entries
pub record IsOfCertify (c : Certificate) : Type 0 where
  pub recording : Recording
  pub determinate : IsDeterminate Reduced recording
  pub certifies : Certifies recording c

-- the recording is one of a run of cores with store buffers: the instructions that were told play with the recorded
-- words, and the log is the least set of their accesses
pub record IsOfBuffers (r : TsoRecording) : Type 0 where
  pub valid : IsTso r
  pub list : List Told
  pub outcome : Outcome
  pub told : IsToldRun r list outcome

-- the command makes an output of this input, unless memory runs out: of an image or a faultless ELF file; of any
-- recording, of either version, or of one that `record` makes, for `at` with the instruction and for `thin` with few
-- vectors; of a thin file that `thin` makes, or a certificate that `certify` makes, whose recording is spelled in
-- either version; of a recording of a run of cores with store buffers; or of a generated image that the memory holds
abbrev pub Accepts : Command → (input : List ℕ) → Type 0
Accepts (Record run) input = SpellsSome (loaded run input) (λ bytes. Unit {0})
Accepts (Run run loads) input = SpellsSome (loaded run input) (λ bytes. Unit {0})
Accepts Print input = SpellsSome (whole_at input) (λ r. Unit {0})
Accepts (Replay which threads loads) input = SpellsSome (whole_at input) IsOfRecord
Accepts Migrate input = SpellsSome (whole_at input) (λ r. Unit {0})
Accepts Certify input = SpellsSome (whole_at input) IsOfRecord
Accepts Check input = SpellsSome (certificate_at input) IsOfCertify
Accepts (Gen shape number) input = Unit {0}
Accepts (Soak shape number params seed) input = image_length shape ≤ 4 * params.words
Accepts (At which at latest loads) input = SpellsSome (whole_at input) (IsOfRecordWith at)
Accepts (Thin certify) input = SpellsSome (whole_at input) IsOfRecordWithFew
Accepts CheckThin input = SpellsSome (thinned_at input) IsOfThin
Accepts (TsoRecord run) input = Unit {0}
Accepts (TsoRun run loads) input = Unit {0}
Accepts (TsoReplay loads) input = SpellsSome (tso_at input) IsOfBuffers

-- the input has just these bytes left, no more than the command takes; for a command that takes none they are none,
-- whatever the input has
abbrev pub HasLeft : (most : Option ℕ) → (left : Option (List ℕ)) → (bytes : List ℕ) → Type 0
HasLeft None left bytes = bytes ≡ []
HasLeft (Some most) left bytes = (left ≡ Some bytes) × (length bytes ≤ most)

-- no fault came in a call
abbrev pub IsFaultless : (faults faults' : ℕ) → Type 0
IsFaultless faults faults' = HasRisen faults faults' → ⊥

-- the output is whole, or memory ran out
abbrev pub EndsWell : Exit → Type 0
EndsWell exit = (exit ≡ exits.Done) ⊎ (exit ≡ exits.OutOfMemory)

-- of these bytes, if it accepts them, a command makes its whole output, unless memory runs out or a stream fails
abbrev pub MakesWhole : Command → (bytes : List ℕ) → Exit → (left : Option (List ℕ)) →
    (read read' written written' : ℕ) → Type 0
MakesWhole command bytes exit left read read' written written' =
    HasLeft (most_of command) left bytes → Accepts command bytes → IsFaultless read read' →
    IsFaultless written written' → EndsWell exit

-- ---- laws

-- what a command accepts is refused for want of memory alone
abbrev pub AcceptedIsNotRefused : Type 0
AcceptedIsNotRefused = (command : Command) (input : List ℕ) (exit : Exit) → Accepts command input →
    Refuses command input exit → exit ≡ exits.OutOfMemory

-- what a run was recorded as is replayed by either log, to its end and to each of its instructions, certified, migrated
-- and printed
pub record RecordingIsAccepted (out : List ℕ) : Type 0 where
  pub printed : Accepts Print out
  pub replayed : (which : Which) (threads : Option ℕ) (loads : Bool) → Accepts (Replay which threads loads) out
  pub told : (which : Which) (at : Instr) (latest loads : Bool) → SpellsSome (whole_at out) (λ r. IsInstrOf r at)
      → Accepts (At which at latest loads) out
  pub thinned : (certify : Bool) → SpellsSome (whole_at out) AreFew → Accepts (Thin certify) out
  pub migrated : Accepts Migrate out
  pub certified : Accepts Certify out

-- so what `record` writes is accepted by each command that reads recordings, and so is what `migrate` makes of one that
-- `certify` accepts; what `certify` writes of a recording that is determinate is accepted by `check`, and what
-- `thin --certify` writes by `checkthin`; and what `tsorecord` writes of an image of bytes is accepted by `tsoreplay`
pub record WrittenIsAccepted : Type 0 where
  pub recorded : (run : RunWords) (input out : List ℕ) → Fits run.params → length input ≤ run_bytes_max run
      → Makes (Record run) input out → RecordingIsAccepted out
  pub migrated : (input out : List ℕ) → IsBytes input → Makes Migrate input out → Accepts Certify input
      → RecordingIsAccepted out
  pub certified : (input out : List ℕ) → Makes Certify input out → Promised Certify input → Accepts Check out
  pub thinned : (input out : List ℕ) → Makes (Thin true) input out → Accepts CheckThin out
  pub buffered : (run : RunWords) (input out : List ℕ) → Fits run.params → length input ≤ 4 * run.params.words
      → ((i : ℕ) → slice_index input i < 256) → Makes (TsoRecord run) input out
      → (loads : Bool) → Accepts (TsoReplay loads) out
