use Rattle.std.proofs.Common.{◌≡◌, ◌++◌, take, string_bytes}
use Rattle.std.specs.List.{flat_map}
use Rattle.roomy_lists.specs.Lists.{items_in}
use Rattle.race_answers.specs.Asking.{decision_row}
use Rattle.race_answers.proofs.decision_rows.put_rows.Given as goal

-- the text so far
abbrev pub invariant-loop-decision : goal.invariant-loop-decision
invariant-loop-decision l =
    string_bytes l.text
    ≡ string_bytes l.initial.text ++ flat_map (decision_row (items_in l.known.pcs)) (take l.decision-index l.list)
