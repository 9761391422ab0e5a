-- The loads of each core after more of its instructions were told.
use Rattle.std.specs.Prelude.{List, [], ◌∷◌, if◌then◌else◌}
use Rattle.rtr_types.specs.Accesses.{is_read}
use Rattle.rv_core.specs.declared.outcome.LoadNote.{LoadNote}
use Rattle.roomy_lists.specs.Lists.{with_item}
use Rattle.tso_state.specs.Events.{Told, Alone, Ordered, Logged}

-- an ordered access that reads is noted with its core, and so is a logged load, each with the word that it got
abbrev pub loads_after : List (List LoadNote) → Told → List (List LoadNote)
loads_after lists (Alone at) = lists
loads_after lists (Ordered a) =
    if is_read a.kind then with_item lists a.at.core (record { count = a.at.count; word = a.word; value = a.before })
    else lists
loads_after lists (Logged at word value) =
    with_item lists at.core (record { count = at.count; word = word; value = value })

-- and after all of a list
abbrev pub loads_told : List (List LoadNote) → List Told → List (List LoadNote)
loads_told lists [] = lists
loads_told lists (e ∷ later) = loads_told (loads_after lists e) later
