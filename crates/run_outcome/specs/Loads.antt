-- The loads of each core after one more access.
use Rattle.std.specs.Prelude.{List, if◌then◌else◌}
use Rattle.rtr_types.specs.Accesses.{is_read}
use Rattle.rtr_types.specs.declared.access.Access.{Access}
use Rattle.rv_core.specs.declared.outcome.LoadNote.{LoadNote}
use Rattle.roomy_lists.specs.Lists.{with_item}
use Rattle.msi_state.specs.Events.{Event, Accesses}

-- what an access got
abbrev pub note_of : Access → LoadNote
note_of a = record { count = a.at.count; word = a.word; value = a.before }

-- the lists after one more access: one that reads is noted with its core
abbrev pub lists_after : List (List LoadNote) → Access → List (List LoadNote)
lists_after lists a = if is_read a.kind then with_item lists a.at.core (note_of a) else lists

-- the lists after what a step tells of
abbrev pub lists_told : List (List LoadNote) → Event → List (List LoadNote)
lists_told lists (Accesses a) = lists_after lists a
lists_told lists _ = lists
