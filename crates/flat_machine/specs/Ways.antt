-- What a core's own move does with the line where its block goes.
use Rattle.std.specs.Prelude.{ℕ, ◌==◌, Bool, true, false}
use Rattle.msi_cache.specs.declared.line.State.{State as LineState}
use Rattle.msi_cache.specs.declared.line.State.TheVariants.{I, S, M}
use Rattle.flat_state.specs.declared.node.KeptLine.{KeptLine}
use Rattle.flat_machine.specs.declared.ways.Way.{Way}
use Rattle.flat_machine.specs.declared.ways.Way.TheVariants.{Hit, Ask, Upgrade, GiveBack}

-- by the line's state, whether it has that very block, and whether the instruction writes
abbrev pub way_by : LineState → (same writes : Bool) → Way
way_by I same writes = Ask
way_by S true false = Hit
way_by S true true = Upgrade
way_by M true writes = Hit
way_by _ same writes = GiveBack

abbrev pub way_of : KeptLine → (block : ℕ) → (writes : Bool) → Way
way_of line block writes = way_by line.state (line.block == block) writes
