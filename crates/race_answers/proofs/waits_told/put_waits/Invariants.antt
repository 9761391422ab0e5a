use Rattle.std.proofs.Common.{◌≡◌, ◌++◌, take}
use Rattle.std.specs.List.{flat_map}
use Rattle.std.specs.Prelude.{string_bytes}
use Rattle.roomy_lists.specs.Lists.{items_in}
use Rattle.race_answers.specs.Asking.{wait_row}
use Rattle.race_answers.proofs.waits_told.put_waits.Given as goal

-- the rows so far
abbrev pub invariant-loop-ends : goal.invariant-loop-ends
invariant-loop-ends l =
    string_bytes l.text
    ≡ string_bytes l.initial.text ++ flat_map (wait_row (items_in l.known.pcs)) (take l.ends-index l.list)
