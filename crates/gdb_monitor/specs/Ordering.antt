-- Which of two instructions comes first, by the log.
use Rattle.std.specs.Prelude.{◌≡◌, ℕ, List, codes}
use Rattle.rtr_types.specs.declared.instr.Instr.{Instr}
use Rattle.rtr_types.specs.declared.pairs.Which.{Which}
use Rattle.clock_core.specs.Order.{Among, Before}
use Rattle.race_log.specs.declared.recording.Recording.{Recording}
use Rattle.race_log.specs.Sources.{log_edges}
use Rattle.replay_audit.specs.Audits.{IsInstrOf}
use Rattle.debug_place.specs.Places.{Placed}
use Rattle.gdb_commands.specs.Lines.{line}
use Rattle.race_answers.specs.Missing.{no_instr_text}

-- by the log the one instruction comes before the other
abbrev pub Leads : Which → Recording → Instr → Instr → Type 0
Leads which r x y = Before (Among (log_edges which r)) x y

-- the word for how the one stands to the other
pub record IsOrder (which : Which) (r : Recording) (at other : Instr) (word : List ℕ) : Type 0 where
  pub same : at ≡ other → word ≡ codes "same"
  pub before : (at ≡ other → ⊥) → Leads which r at other → word ≡ codes "before"
  pub after : (at ≡ other → ⊥) → (Leads which r at other → ⊥) → Leads which r other at → word ≡ codes "after"
  pub neither : (at ≡ other → ⊥) → (Leads which r at other → ⊥) → (Leads which r other at → ⊥) →
      word ≡ codes "unordered"

-- both are instructions of the recording
pub record AreBoth (r : Recording) (at other : Instr) : Type 0 where
  pub one : IsInstrOf r at
  pub two : IsInstrOf r other

-- the word is told
pub record IsWordTold (which : Which) (r : Recording) (at other : Instr) (told : List ℕ) : Type 0 where
  pub word : List ℕ
  pub is : IsOrder which r at other word
  pub told_is : told ≡ line word

-- `order C:N C:N`
pub record IsOrderTold (at other : Instr) (place : Placed) (told : List ℕ) : Type 0 where
  pub there : AreBoth place.recording at other → IsWordTold place.which place.recording at other told
  pub missing : (IsInstrOf place.recording at → ⊥) → told ≡ no_instr_text at
  pub other_missing : IsInstrOf place.recording at → (IsInstrOf place.recording other → ⊥) →
      told ≡ no_instr_text other
