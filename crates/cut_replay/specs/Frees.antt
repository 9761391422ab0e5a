-- Which of a core's instructions need an instruction.
use Rattle.std.specs.Prelude.{ℕ, ◌<◌, ◌≤◌, slice_index}
use Rattle.rtr_types.specs.declared.instr.Instr.{Instr}
use Rattle.rtr_types.specs.declared.pairs.Which.{Which}
use Rattle.clock_core.specs.Order.{Among, IsOrLeads}
use Rattle.race_log.specs.declared.recording.Recording.{Recording}
use Rattle.race_log.specs.Sources.{log_edges}
use Rattle.replay_core.specs.Play.{instr}

-- the instruction is the core's one with this count, or leads to it by the log
abbrev pub IsNeededBy : Which → Recording → (at : Instr) → (core count : ℕ) → Type 0
IsNeededBy which r at core count = IsOrLeads (Among (log_edges which r)) at (instr core count)

-- none of the core's first n instructions needs it, and each one after its first k does
pub record AreBetween (which : Which) (r : Recording) (at : Instr) (core n k : ℕ) : Type 0 where
  pub most : n ≤ slice_index r.totals core
  pub free : (count : ℕ) → 1 ≤ count → count ≤ n → IsNeededBy which r at core count → ⊥
  pub need : (count : ℕ) → k < count → count ≤ slice_index r.totals core → IsNeededBy which r at core count

-- exactly the core's first n instructions don't need it
abbrev pub AreFree : Which → Recording → (at : Instr) → (core n : ℕ) → Type 0
AreFree which r at core n = AreBetween which r at core n n
