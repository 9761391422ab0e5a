use Rattle.std.proofs.Common.{◌≡◌, ◌++◌, take, string_bytes}
use Rattle.std.specs.List.{flat_map}
use Rattle.roomy_lists.specs.Lists.{items_in}
use Rattle.race_answers.specs.Asking.{called_row}
use Rattle.race_answers.proofs.conflicts.put_called.Given as goal

-- the text so far
abbrev pub invariant-loop-access : goal.invariant-loop-access
invariant-loop-access l =
    string_bytes l.text
    ≡ string_bytes l.initial.text ++ flat_map (called_row l.called (items_in l.known.pcs)) (take l.access-index l.list)
