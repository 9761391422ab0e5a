-- What a core waits for: the sources of its next instruction that the cut lacks.
use Rattle.std.specs.Prelude.{ℕ, zero, suc, ◌&&◌, nat_eq, nat_le, List, [], ◌∷◌, ◌++◌, Option, Some, None}
use Rattle.std.specs.Prelude.{if◌then◌else◌}
use Rattle.std.specs.Option.{option_and_then}
use Rattle.rtr_types.specs.Accesses.{is_same}
use Rattle.rtr_types.specs.declared.cut.Cut.{Cut}
use Rattle.rtr_types.specs.declared.instr.Instr.{Instr}
use Rattle.rtr_types.specs.declared.instr.Edge.{Edge}
use Rattle.rtr_types.specs.declared.pairs.Which.{Which}
use Rattle.race_log.specs.declared.recording.Recording.{Recording}
use Rattle.race_log.specs.Sources.{log_edges}
use Rattle.cut_replay.specs.ClosedCuts.{count_in}
use Rattle.replay_core.specs.Play.{instr}

-- the count of the core's instruction from which an edge leads to this one, by the first such edge
unfoldable pub source_in : List Edge → (core : ℕ) → Instr → Option ℕ
source_in [] core at = None
source_in (e ∷ edges) core at =
    if is_same e.to at && nat_eq e.from.core core then Some e.from.count else source_in edges core at

-- that count, unless the cut holds the instruction
abbrev pub unless_held : Cut → (core : ℕ) → (count : ℕ) → Option ℕ
unless_held cut core count = if nat_le count (count_in cut core) then None else Some count

abbrev pub wait_of : Which → Recording → Cut → (core : ℕ) → Instr → Option ℕ
wait_of which r cut core at = option_and_then (unless_held cut core) (source_in (log_edges which r) core at)

-- the core's instruction with this count, behind others
abbrev pub with_wait : List Instr → (core : ℕ) → Option ℕ → List Instr
with_wait list core None = list
with_wait list core (Some count) = list ++ instr core count ∷ []

-- those of the first cores
unfoldable pub waits_below : Which → Recording → Cut → Instr → (cores : ℕ) → List Instr
waits_below which r cut at zero = []
waits_below which r cut at (suc cores) =
    with_wait (waits_below which r cut at cores) cores (wait_of which r cut cores at)
