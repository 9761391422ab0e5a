-- What the cores' instructions read, and the room for more.
use Rattle.std.specs.Prelude.{Bool, List}
use Rattle.roomy_lists.specs.Lists.{Listed, are_ready, items_in}
use Rattle.rv_core.specs.declared.outcome.LoadNote.{LoadNote}

-- each core's notes, core 0 first, and whether there is room for one more of each
pub record LoadRooms : Type 0 where
  pub lists : List (List LoadNote)
  pub roomy : Bool

abbrev pub seen_as : List (Listed LoadNote) → LoadRooms
seen_as all = record { lists = items_in all; roomy = are_ready all }
