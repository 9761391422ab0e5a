-- The commands.
use Rattle.std.specs.Prelude.{◌≡◌, ℕ, ◌<◌, ◌≤◌, IsTrue, false, List, [], ◌∷◌, Option, Some, None, codes, unwrap_or}
use Rattle.std.specs.Prelude.{if◌then◌else◌}
use Rattle.std.specs.Option.{option_and_then, option_map}
use Rattle.rtr_types.specs.Parameters.{Fits}
use Rattle.rtr_types.specs.declared.TheConstants.{CORES_MAX}
use Rattle.rtr_types.specs.declared.instr.Instr.{Instr}
use Rattle.rtr_types.specs.declared.params.TheConstants.{LIMIT_MAX}
use Rattle.trace_gen.specs.declared.shape.Shape.{Shape}
use Rattle.trace_gen.specs.Programs.{takes}
use Rattle.tool_words.specs.declared.command.RunWords.{RunWords}
use Rattle.tool_words.specs.declared.command.Command.{Command}
use Rattle.tool_words.specs.declared.command.Command.TheVariants.{Record as RecordRun, Run as RunImage}
use Rattle.tool_words.specs.declared.command.Command.TheVariants.{Print as PrintLogs}
use Rattle.tool_words.specs.declared.command.Command.TheVariants.{Replay as ReplayRun, Migrate as MigrateRecording}
use Rattle.tool_words.specs.declared.command.Command.TheVariants.{Certify as CertifyRecording}
use Rattle.tool_words.specs.declared.command.Command.TheVariants.{Check as CheckCertificate}
use Rattle.tool_words.specs.declared.command.Command.TheVariants.{Gen as GenImage, Soak as SoakImage}
use Rattle.tool_words.specs.declared.command.Command.TheVariants.{At as StateAt, Thin as ThinVectors}
use Rattle.tool_words.specs.declared.command.Command.TheVariants.{CheckThin as CheckThinned}
use Rattle.tool_words.specs.declared.command.Command.TheVariants.{TsoReplay as ReplayBuffered}
use Rattle.tool_words.specs.declared.command.Command.TheVariants.{TsoRecord as RecordBuffered, TsoRun as RunBuffered}
use Rattle.tool_words.specs.declared.command.Verb.{Verb}
use Rattle.tool_words.specs.declared.command.Verb.TheVariants.{Record, Run, Print, Replay, Migrate}
use Rattle.tool_words.specs.declared.command.Verb.TheVariants.{Certify, Check, Gen, Soak, At}
use Rattle.tool_words.specs.declared.command.Verb.TheVariants.{Thin, CheckThin, TsoRecord, TsoRun, TsoReplay}
use Rattle.tool_words.specs.Names.{named_by}
use Rattle.tool_words.specs.Settings.{Settings}
use Rattle.tool_words.specs.Choices.{bytes_of}
use Rattle.tool_words.specs.Options.{params_of, threads_max, which_of}

-- the commands by their words
abbrev pub verbs : List (List ℕ × Verb)
verbs =
    (codes "record", Record) ∷ (codes "run", Run) ∷ (codes "gen", Gen) ∷ (codes "soak", Soak)
    ∷ (codes "print", Print) ∷ (codes "replay", Replay) ∷ (codes "migrate", Migrate) ∷ (codes "at", At)
    ∷ (codes "certify", Certify) ∷ (codes "check", Check) ∷ (codes "thin", Thin) ∷ (codes "checkthin", CheckThin)
    ∷ (codes "tsorecord", TsoRecord) ∷ (codes "tsorun", TsoRun) ∷ (codes "tsoreplay", TsoReplay) ∷ []

-- the command that a word names
abbrev pub verb_named : List ℕ → Option Verb
verb_named word = named_by verbs word

-- the run with these settings
abbrev pub run_of : Settings → RunWords
run_of s = record {
  params = params_of s;
  choices = bytes_of s.choices;
  seed = unwrap_or s.seed 0;
  elf = s.elf;
}

-- the run with these settings, of an image as it stands
abbrev pub flat_run_of : Settings → RunWords
flat_run_of s = record (run_of s) { elf = false }

-- the shape and the number of an image, where both are set and the shape has an image of this number
abbrev pub shaped : Settings → Option (Shape × ℕ)
shaped s =
    option_and_then
    (λ shape. option_and_then (λ number. if takes shape number then Some (shape, number) else None) s.number)
    s.shape

-- the instruction whose core and count are set, both of them
abbrev pub named_instr : Settings → Option Instr
named_instr s = option_and_then (λ core. option_map (λ count. record { core = core; count = count }) s.count) s.core

-- the command with these settings, and its defaults for the others; none where it lacks one that it must have
abbrev pub command_of : Verb → Settings → Option Command
command_of Record s = Some (RecordRun (run_of s))
command_of Run s = Some (RunImage (run_of s) s.loads)
command_of Print s = Some PrintLogs
command_of Replay s = Some (ReplayRun (which_of s) s.threads s.loads)
command_of Migrate s = Some MigrateRecording
command_of Certify s = Some CertifyRecording
command_of Check s = Some CheckCertificate
command_of Gen s = option_map (λ p. GenImage p.0 p.1) (shaped s)
command_of Soak s = option_map (λ p. SoakImage p.0 p.1 (params_of s) (unwrap_or s.seed 0)) (shaped s)
command_of At s = option_map (λ at. StateAt (which_of s) at s.latest s.loads) (named_instr s)
command_of Thin s = Some (ThinVectors s.certify)
command_of CheckThin s = Some CheckThinned
command_of TsoRecord s = Some (RecordBuffered (flat_run_of s))
command_of TsoRun s = Some (RunBuffered (flat_run_of s) s.loads)
command_of TsoReplay s = Some (ReplayBuffered s.loads)

-- a machine may have this instruction: the core is one of the most, and the count lies within the greatest limit
abbrev pub MayBe : Instr → Type 0
MayBe at = (at.core < CORES_MAX) × (1 ≤ at.count) × (at.count ≤ LIMIT_MAX)

-- the threads of a replay, where their number is set: one at the least, and no more than a replay may have
abbrev pub AreFewThreads : Option ℕ → Type 0
AreFewThreads None = Unit {0}
AreFewThreads (Some n) = (1 ≤ n) × (n ≤ threads_max)

-- the parameters of a command, where it has some, lie in their ranges, a run of cores with store buffers is of an
-- image as
-- it stands, a shape that it names has an image of its
-- number, an instruction that it names may be, and so may its threads
abbrev pub HasFittingParams : Command → Type 0
HasFittingParams (RecordRun run) = Fits run.params
HasFittingParams (RunImage run loads) = Fits run.params
HasFittingParams PrintLogs = Unit {0}
HasFittingParams (ReplayRun which threads loads) = AreFewThreads threads
HasFittingParams MigrateRecording = Unit {0}
HasFittingParams CertifyRecording = Unit {0}
HasFittingParams CheckCertificate = Unit {0}
HasFittingParams (GenImage shape number) = IsTrue (takes shape number)
HasFittingParams (SoakImage shape number params seed) = Fits params × IsTrue (takes shape number)
HasFittingParams (StateAt which at latest loads) = MayBe at
HasFittingParams (ThinVectors certify) = Unit {0}
HasFittingParams CheckThinned = Unit {0}
HasFittingParams (RecordBuffered run) = Fits run.params × (run.elf ≡ false)
HasFittingParams (RunBuffered run loads) = Fits run.params × (run.elf ≡ false)
HasFittingParams (ReplayBuffered loads) = Unit {0}
