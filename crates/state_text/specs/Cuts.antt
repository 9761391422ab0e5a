-- Rule: the text of a state at a cut: cut_state_lines
-- The text of the state at a cut of a recording.
use Rattle.std.specs.Prelude.{ℕ, Bool, List, ◌++◌, codes}
use Rattle.image_mem.specs.Contents.{Contents}
use Rattle.rtr_types.specs.declared.cut.Cut.{Cut}
use Rattle.rv_core.specs.declared.outcome.Outcome.{Outcome}
use Rattle.state_text.specs.Exits.{counts_text}
use Rattle.state_text.specs.Pieces.{line}
use Rattle.state_text.specs.States.{state_lines}

-- how many instructions of each core the cut holds, core 0 first
abbrev pub cut_line : Cut → List ℕ
cut_line cut = line (codes "cut" ++ counts_text cut)

-- the cut, and then the state that it comes to
abbrev pub cut_state_lines : Cut → Outcome → Contents → (loads : Bool) → List ℕ
cut_state_lines cut outcome image loads = cut_line cut ++ state_lines outcome image loads
