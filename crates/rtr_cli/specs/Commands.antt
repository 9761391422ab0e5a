-- Rule: what each command makes, and why it gives nothing: Makes, Refuses
-- What each command makes of an input, and why one gives nothing.
use Rattle.std.specs.Prelude.{◌≡◌, ℕ, ◌*◌, ◌<◌, List, Err}
use Rattle.image_elf.specs.declared.elf_fault.ElfFault.{ElfFault}
use Rattle.rtr_types.specs.declared.instr.Instr.{Instr}
use Rattle.rtr_types.specs.declared.pairs.Which.TheVariants.{Reduced, Regulated}
use Rattle.log_codec.specs.Reading.{whole_at}
use Rattle.log_codec.specs.Spelling.{spelling}
use Rattle.replay_audit.specs.declared.audit_fault.AuditFault.{AuditFault}
use Rattle.replay_audit.specs.declared.audit_fault.AuditFault.TheVariants as faults
use Rattle.replay_audit.specs.Audits.{AuditRefuses, IsInstrOf}
use Rattle.replay_audit.specs.Determinate.{IsDeterminate}
use Rattle.tso_codec.specs.Reading.{tso_at}
use Rattle.vector_reduce.specs.Answers.{IsTooMany, IsNotShown as IsNotNeededShown}
use Rattle.vector_reduce.specs.Reading.{thinned_at}
use Rattle.certificate_codec.specs.Reading.{certificate_at}
use Rattle.min_certificate.specs.declared.answers.CheckFailure.{CheckFailure}
use Rattle.min_certificate.specs.Answers.{CheckFails}
use Rattle.state_text.specs.declared.exit.Exit.{Exit}
use Rattle.state_text.specs.declared.exit.Exit.TheVariants as exits
use Rattle.state_text.specs.Logs.{logs_lines}
use Rattle.tool_words.specs.declared.command.Command.{Command}
use Rattle.tool_words.specs.declared.command.Command.TheVariants.{Record, Run, Print, Replay, Migrate, Certify, Check}
use Rattle.tool_words.specs.declared.command.Command.TheVariants.{Gen, Soak, At, Thin, CheckThin, TsoRecord, TsoRun}
use Rattle.tool_words.specs.declared.command.Command.TheVariants.{TsoReplay}
use Rattle.trace_gen.specs.Programs.{generated, image_length}
use Rattle.rtr_cli.specs.Inputs.{SpellsSome, loaded}
use Rattle.rtr_cli.specs.Replays.{replay_lines}
use Rattle.rtr_cli.specs.Runs.{recorded_bytes, run_lines}
use Rattle.rtr_cli.specs.Cuts.{IsToldAt}
use Rattle.rtr_cli.specs.Certificates.{IsCertified, IsNotLeast, checked_lines}
use Rattle.rtr_cli.specs.Thinnings.{IsThinnedTo, thin_checked_lines}
use Rattle.rtr_cli.specs.Buffers.{TsoStops, tso_recorded_bytes, tso_replay_lines, tso_run_lines}
use Rattle.rtr_cli.specs.Soaks.{IsSoaked}

-- the command makes this output of the input
abbrev pub Makes : Command → (input out : List ℕ) → Type 0
Makes (Record run) input out = SpellsSome (loaded run input) (λ bytes. out ≡ recorded_bytes run bytes)
Makes (Run run loads) input out = SpellsSome (loaded run input) (λ bytes. out ≡ run_lines run loads bytes)
Makes Print input out = SpellsSome (whole_at input) (λ r. out ≡ logs_lines r)
Makes (Replay which threads loads) input out = SpellsSome (whole_at input) (λ r. out ≡ replay_lines which loads r)
Makes Migrate input out = SpellsSome (whole_at input) (λ r. out ≡ spelling r)
Makes Certify input out = SpellsSome (whole_at input) (λ r. IsCertified r out)
Makes Check input out = SpellsSome (certificate_at input) (λ c. out ≡ checked_lines c)
Makes (Gen shape number) input out = out ≡ generated shape number
Makes (Soak shape number params seed) input out = IsSoaked shape number params seed out
Makes (At which at latest loads) input out =
    SpellsSome (whole_at input) (λ r. IsToldAt which at latest loads r out)
Makes (Thin certify) input out = SpellsSome (whole_at input) (λ r. IsThinnedTo certify r out)
Makes CheckThin input out = SpellsSome (thinned_at input) (λ t. out ≡ thin_checked_lines t)
Makes (TsoRecord run) input out = out ≡ tso_recorded_bytes run input
Makes (TsoRun run loads) input out = out ≡ tso_run_lines run loads input
Makes (TsoReplay loads) input out = SpellsSome (tso_at input) (λ r. out ≡ tso_replay_lines loads r)

-- the first part of the input that has no reading, for a command that reads one
abbrev pub IsUnread : Command → (input : List ℕ) → ℕ → Type 0
IsUnread (Record run) input part = ⊥
IsUnread (Run run loads) input part = ⊥
IsUnread Print input part = whole_at input ≡ Err part
IsUnread (Replay which threads loads) input part = whole_at input ≡ Err part
IsUnread Migrate input part = whole_at input ≡ Err part
IsUnread Certify input part = whole_at input ≡ Err part
IsUnread Check input part = certificate_at input ≡ Err part
IsUnread (Gen shape number) input part = ⊥
IsUnread (Soak shape number params seed) input part = ⊥
IsUnread (At which at latest loads) input part = whole_at input ≡ Err part
IsUnread (Thin certify) input part = whole_at input ≡ Err part
IsUnread CheckThin input part = thinned_at input ≡ Err part
IsUnread (TsoRecord run) input part = ⊥
IsUnread (TsoRun run loads) input part = ⊥
IsUnread (TsoReplay loads) input part = tso_at input ≡ Err part

-- the command names this instruction, and the recording that the input spells doesn't have it
abbrev pub IsAbsent : Command → (input : List ℕ) → Instr → Type 0
IsAbsent (At which at latest loads) input absent =
    SpellsSome (whole_at input) (λ r. IsInstrOf r at → ⊥) × (absent ≡ at)
IsAbsent command input absent = ⊥

-- the command audits, or replays, the recording that the input spells by a log, and this is the answer. Where the
-- command names an instruction, the recording has it
abbrev pub AuditFails : Command → (input : List ℕ) → AuditFault → Type 0
AuditFails (Record run) input fault = ⊥
AuditFails (Run run loads) input fault = ⊥
AuditFails Print input fault = ⊥
AuditFails (Replay which threads loads) input fault = SpellsSome (whole_at input) (λ r. AuditRefuses which r fault)
AuditFails Migrate input fault = ⊥
AuditFails Certify input fault = SpellsSome (whole_at input) (λ r. AuditRefuses Reduced r fault)
AuditFails Check input fault = SpellsSome (certificate_at input) (λ c. AuditRefuses Reduced c.recording fault)
AuditFails (Gen shape number) input fault = ⊥
AuditFails (Soak shape number params seed) input fault = ⊥
AuditFails (At which at latest loads) input fault =
    SpellsSome (whole_at input) (λ r. IsInstrOf r at × AuditRefuses which r fault)
AuditFails (Thin certify) input fault = SpellsSome (whole_at input) (λ r. AuditRefuses Regulated r fault)
AuditFails CheckThin input fault = SpellsSome (thinned_at input) (λ t. AuditRefuses Regulated t.recording fault)
AuditFails (TsoRecord run) input fault = ⊥
AuditFails (TsoRun run loads) input fault = ⊥
AuditFails (TsoReplay loads) input fault = SpellsSome (tso_at input) (λ r. TsoStops r fault)

-- the command thins a recording that is determinate by its regulated log, and this is how many vectors that log has,
-- and how many edges they have: more than are tried
abbrev pub IsTooLong : Command → (input : List ℕ) → (vectors edges : ℕ) → Type 0
IsTooLong (Thin certify) input vectors edges =
    SpellsSome (whole_at input) (λ r. IsDeterminate Regulated r × IsTooMany r vectors edges)
IsTooLong command input vectors edges = ⊥

-- the command checks a thin file, whose recording is determinate by its regulated log, and this is its first vector,
-- counted from 1, that isn't shown to be needed
abbrev pub IsNotNeeded : Command → (input : List ℕ) → (vector : ℕ) → Type 0
IsNotNeeded CheckThin input vector = SpellsSome (thinned_at input) (λ t. IsNotNeededShown t vector)
IsNotNeeded command input vector = ⊥

-- the reduced log isn't shown to be least, for this reason
abbrev pub IsNotShown : Command → (input : List ℕ) → CheckFailure → Type 0
IsNotShown Certify input failure = SpellsSome (whole_at input) (λ r. IsNotLeast r failure)
IsNotShown Check input failure = SpellsSome (certificate_at input) (λ c. CheckFails c failure)
IsNotShown command input failure = ⊥

-- the input is to be an ELF file, and this is the file's first fault
abbrev pub IsFaulty : Command → (input : List ℕ) → ElfFault → Type 0
IsFaulty (Record run) input fault = loaded run input ≡ Err fault
IsFaulty (Run run loads) input fault = loaded run input ≡ Err fault
IsFaulty command input fault = ⊥

-- the command makes an image that is longer than the memory
abbrev pub Overflows : Command → Type 0
Overflows (Soak shape number params seed) = 4 * params.words < image_length shape
Overflows command = ⊥

-- why the command gives nothing for an input that was read, or for none: the first fault of an ELF file, its first
-- part that has no reading, an instruction that is absent, what an audit answers, what isn't shown, vectors that are
-- too many, or an image of its own that is too long. Want of memory says nothing
abbrev pub Refuses : Command → (input : List ℕ) → Exit → Type 0
Refuses command input (exits.Bad part) = IsUnread command input part
Refuses command input (exits.Stuck cut) = AuditFails command input (faults.Stuck cut)
Refuses command input (exits.Short core count) = AuditFails command input (faults.Short core count)
Refuses command input (exits.Undetermined first second) = AuditFails command input (faults.Undetermined first second)
Refuses command input (exits.CheckFailed failure) = IsNotShown command input failure
Refuses command input exits.OutOfMemory = Unit {0}
Refuses command input exits.Done = ⊥
Refuses command input exits.Usage = ⊥
Refuses command input exits.TooLarge = Overflows command
Refuses command input exits.ReadFault = ⊥
Refuses command input exits.WriteFault = ⊥
Refuses command input (exits.Elf fault) = IsFaulty command input fault
Refuses command input (exits.NoInstr at) = IsAbsent command input at
Refuses command input (exits.TooMany vectors edges) = IsTooLong command input vectors edges
Refuses command input (exits.NotShown vector) = IsNotNeeded command input vector
