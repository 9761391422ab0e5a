-- Which candidates become edges, and what the new clock is.
use Rattle.std.specs.Prelude.{List, Bool, ◌||◌, nat_lt, map, slice_index, slice_set}
use Rattle.std.specs.List.{filter, list_all, fold}
use Rattle.rtr_types.specs.Accesses.{is_same}
use Rattle.rtr_types.specs.declared.instr.Instr.{Instr}
use Rattle.rtr_types.specs.declared.instr.Edge.{Edge}
use Rattle.clock_core.specs.Counts.{merged}
use Rattle.clock_core.specs.declared.clock.Clock.{Clock}
use Rattle.online_reduce.specs.declared.source.Source.{Source}

-- the clock does not know of the instruction
abbrev pub is_above : Clock → Instr → Bool
is_above clock at = nat_lt (slice_index clock at.core) at.count

-- the candidate is this instruction, or its clock does not know of it
abbrev pub lets_pass : Instr → Source → Bool
lets_pass at s = is_same s.at at || is_above s.clock at

-- no other candidate's clock knows of it
abbrev pub is_kept : List Source → Instr → Bool
is_kept found at = list_all (lets_pass at) found

abbrev pub edge_to : Instr → Source → Edge
edge_to at s = record { from = s.at; to = at }

-- the edges into an instruction, from the candidates that are kept
unfoldable pub edges_into : Instr → List Source → List Edge
edges_into at found = map (edge_to at) (filter (λ s. is_kept found s.at) found)

abbrev pub merged_with : Clock → Source → Clock
merged_with clock s = merged clock s.clock

-- the clock of an instruction: the previous one merged with those of the candidates, with its own count at its own
-- place
unfoldable pub clock_into : Instr → Clock → List Source → Clock
clock_into at before found = slice_set (fold merged_with before found) at.core at.count
