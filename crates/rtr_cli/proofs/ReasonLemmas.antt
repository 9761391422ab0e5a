-- Why a command gives nothing, beside want of memory.
use Rattle.std.proofs.Common.{◌≡◌, refl, ℕ, List, Result, Ok, Err}
use Rattle.image_elf.specs.declared.elf_fault.ElfFault.{ElfFault}
use Rattle.rtr_types.specs.declared.instr.Instr.{Instr}
use Rattle.replay_audit.specs.declared.audit_fault.AuditFault.{AuditFault}
use Rattle.replay_audit.specs.declared.audit_fault.AuditFault.TheVariants as faults
use Rattle.min_certificate.specs.declared.answers.CheckFailure.{CheckFailure}
use Rattle.state_text.specs.declared.exit.Exit.{Exit}
use Rattle.state_text.specs.declared.exit.Exit.TheVariants as exits
use Rattle.tool_words.specs.declared.command.Command.{Command}
use Rattle.rtr_cli.specs.Inputs.{SpellsSome}
use Rattle.rtr_cli.specs.Commands.{AuditFails, IsAbsent, IsFaulty, IsNotNeeded, IsTooLong, IsNotShown, IsUnread}
use Rattle.rtr_cli.specs.Commands.{Overflows, Refuses}

-- there is none for this command and this input
pub record HasNoReason (command : Command) (input : List ℕ) : Type 0 where
  pub read : (part : ℕ) → IsUnread command input part → ⊥
  pub present : (at : Instr) → IsAbsent command input at → ⊥
  pub audited : (fault : AuditFault) → AuditFails command input fault → fault ≡ faults.OutOfMemory
  pub shown : (failure : CheckFailure) → IsNotShown command input failure → ⊥
  pub few : (vectors edges : ℕ) → IsTooLong command input vectors edges → ⊥
  pub needed : (vector : ℕ) → IsNotNeeded command input vector → ⊥
  pub faultless : (fault : ElfFault) → IsFaulty command input fault → ⊥
  pub holds : Overflows command → ⊥

pub memory_alone : (command : Command) (input : List ℕ) (exit : Exit) → HasNoReason command input
    → Refuses command input exit → exit ≡ exits.OutOfMemory
memory_alone command input (exits.Bad part) h it = absurd (h.read part it)
memory_alone command input (exits.Stuck cut) h it = let none = h.audited (faults.Stuck cut) it in absurd cc
memory_alone command input (exits.Short core count) h it = let none = h.audited (faults.Short core count) it in
    absurd cc
memory_alone command input (exits.Undetermined first second) h it = let none = h.audited
    (faults.Undetermined first second) it in absurd cc
memory_alone command input (exits.CheckFailed failure) h it = absurd (h.shown failure it)
memory_alone command input exits.OutOfMemory h it = refl
memory_alone command input exits.TooLarge h it = absurd (h.holds it)
memory_alone command input (exits.Elf fault) h it = absurd (h.faultless fault it)
memory_alone command input (exits.NoInstr at) h it = absurd (h.present at it)
memory_alone command input (exits.TooMany vectors edges) h it = absurd (h.few vectors edges it)
memory_alone command input (exits.NotShown vector) h it = absurd (h.needed vector it)
memory_alone command input exits.Done h it = absurd it
memory_alone command input exits.Usage h it = absurd it
memory_alone command input exits.ReadFault h it = absurd it
memory_alone command input exits.WriteFault h it = absurd it

-- what spells something has a reading
pub is_read : {X E : Type 0} (read : Result X E) (P : X → Type 0) (e : E) → SpellsSome read P → read ≡ Err e → ⊥
is_read (Ok x) P e h is = absurd cc
is_read (Err f) P e h is = h

-- what is said of something that was read
pub both_said : {X E : Type 0} (read : Result X E) (P Q : X → Type 0) (R : Type 0) → ((x : X) → P x → Q x → R)
    → SpellsSome read P → SpellsSome read Q → R
both_said (Ok x) P Q R join h k = join x h k
both_said (Err e) P Q R join h k = absurd h
