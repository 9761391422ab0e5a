-- Rule: what is told of the other order of two instructions: IsOtherTold
-- What the run comes to if, where the order of two instructions was open, the second goes first. By
-- `what_if::other_ways_play` its outcome is that of the play of an order that begins with the cut, and then with the
-- second instruction's core.
use Rattle.std.specs.Prelude.{◌≡◌, ℕ, List}
use Rattle.rtr_types.specs.declared.cut.Cut.{Cut}
use Rattle.rtr_types.specs.declared.instr.Instr.{Instr}
use Rattle.replay_audit.specs.Audits.{Findings, IsInstrOf}
use Rattle.what_if.specs.Told.{other_text}
use Rattle.gdb_monitor.specs.Moves.{IsDecision, decided_text}
use Rattle.gdb_monitor.specs.Ordering.{AreBoth}
use Rattle.race_answers.specs.Missing.{no_instr_text}

-- `other C:N C:N`: how each core ends if at the decision the second instruction goes first, and the words that differ
pub record IsOtherTold (a : Findings) (at next : Instr) (told : List ℕ) : Type 0 where
  pub there : (cut : Cut) → AreBoth a.recording at next → IsDecision a.which a.recording at next cut →
      told ≡ other_text a cut next.core
  pub decided : AreBoth a.recording at next → ((cut : Cut) → IsDecision a.which a.recording at next cut → ⊥) →
      told ≡ decided_text
  pub missing : (IsInstrOf a.recording at → ⊥) → told ≡ no_instr_text at
  pub next_missing : IsInstrOf a.recording at → (IsInstrOf a.recording next → ⊥) → told ≡ no_instr_text next
