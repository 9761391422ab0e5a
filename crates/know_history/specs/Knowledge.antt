-- What the carry that counts what is known computes.
use Rattle.std.specs.Prelude.{ℕ, nat_lt, slice_index, slice_set, if◌then◌else◌}
use Rattle.rtr_types.specs.declared.TheConstants.{CORES_MAX}
use Rattle.rtr_types.specs.declared.instr.Instr.{Instr}
use Rattle.access_times.specs.Riding.{Carrying}
use Rattle.clock_core.specs.Counts.{merged, no_counts}
use Rattle.know_history.specs.declared.known.Known.{Known}

-- what either of the two knows: the greater count at each place
abbrev pub known_joined : Known → Known → Known
known_joined a b = record { counts = merged a.counts b.counts }

-- what a core knows once it has retired the instruction: its own count is that one
abbrev pub known_retired : Known → Instr → Known
known_retired a at = if nat_lt at.core CORES_MAX then record { counts = slice_set a.counts at.core at.count } else a

abbrev pub known_carrying : Carrying Known
known_carrying = record { none = record { counts = no_counts }; joined = known_joined; retired = known_retired }

-- how many of the core's instructions are known
abbrev pub count_in : Known → (core : ℕ) → ℕ
count_in known core = slice_index known.counts core
