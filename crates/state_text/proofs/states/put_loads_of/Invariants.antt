-- the text of the loads so far
use Rattle.std.proofs.Common.{◌≡◌, ◌++◌, take, string_bytes}
use Rattle.std.specs.List.{flat_map}
use Rattle.state_text.specs.States.{load_line}
use Rattle.state_text.proofs.states.put_loads_of.Given as goal

abbrev pub invariant-loop-note : goal.invariant-loop-note
invariant-loop-note l =
    string_bytes l.text ≡ string_bytes l.initial.text ++ flat_map (load_line l.number) (take l.note-index l.notes)
