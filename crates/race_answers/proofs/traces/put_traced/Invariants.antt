use Rattle.std.proofs.Common.{◌≡◌, ◌++◌, take, string_bytes}
use Rattle.std.specs.List.{flat_map}
use Rattle.roomy_lists.specs.Lists.{items_in}
use Rattle.race_answers.specs.Traces.{trace_row}
use Rattle.race_answers.proofs.traces.put_traced.Given as goal

-- the text so far
abbrev pub invariant-loop-at : goal.invariant-loop-at
invariant-loop-at l =
    string_bytes l.text
    ≡ string_bytes l.initial.text
    ++ flat_map (trace_row l.cut (items_in l.known.pcs) l.known.accesses.now) (take l.at-index l.list)
