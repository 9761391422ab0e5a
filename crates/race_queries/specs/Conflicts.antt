-- Rule: the accesses with which an instruction's conflicts: conflicts_at
-- The accesses around an instruction's with which it conflicts, among the accesses of a run in their order.
use Rattle.std.specs.Prelude.{Bool, ◌&&◌, ◌||◌, not, nat_eq, List, [], ◌∷◌, filter, Option, Some, None}
use Rattle.std.specs.Prelude.{if◌then◌else◌}
use Rattle.std.specs.List.{list_any}
use Rattle.std.specs.Option.{option_map}
use Rattle.rtr_types.specs.Accesses.{is_same, is_write}
use Rattle.rtr_types.specs.declared.access.Access.{Access}
use Rattle.rtr_types.specs.declared.instr.Instr.{Instr}
use Rattle.race_queries.specs.declared.conflicts.Conflicts.{Conflicts}
use Rattle.race_queries.specs.Queries.{accesses_to}

-- an instruction's access
unfoldable pub access_at : Instr → List Access → Option Access
access_at at [] = None
access_at at (access ∷ rest) = if is_same access.at at then Some access else access_at at rest

-- the accesses before an instruction's, and behind it
unfoldable pub before : Instr → List Access → List Access
before at [] = []
before at (access ∷ rest) = if is_same access.at at then [] else access ∷ before at rest

unfoldable pub behind : Instr → List Access → List Access
behind at [] = []
behind at (access ∷ rest) = if is_same access.at at then rest else behind at rest

abbrev pub writes : Access → Bool
writes access = is_write access.kind

-- from the last write on; all, where there is none
unfoldable pub since_last_write : List Access → List Access
since_last_write [] = []
since_last_write (access ∷ rest) = if list_any writes rest then since_last_write rest else access ∷ rest

-- up to and with the first write; all, where there is none
unfoldable pub to_next_write : List Access → List Access
to_next_write [] = []
to_next_write (access ∷ rest) = if writes access then access ∷ [] else access ∷ to_next_write rest

-- two accesses to one word are of different cores, and one of them writes
abbrev pub fights : Access → Access → Bool
fights access other = not (nat_eq other.at.core access.at.core) && (writes access || writes other)

-- the accesses with which this one conflicts: those before it back to and with the last write of the word, and those
-- behind it up to and with the next
abbrev pub conflicts_among : List Access → Access → Conflicts
conflicts_among list access = let to = accesses_to access.word list in
    record {
      access = access;
      earlier = filter (fights access) (since_last_write (before access.at to));
      later = filter (fights access) (to_next_write (behind access.at to));
    }

-- of an instruction, if it has an access
abbrev pub conflicts_at : List Access → Instr → Option Conflicts
conflicts_at list at = option_map (conflicts_among list) (access_at at list)
