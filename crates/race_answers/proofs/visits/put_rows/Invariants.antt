use Rattle.std.proofs.Common.{◌≡◌, ◌++◌, string_bytes}
use Rattle.roomy_lists.specs.Lists.{items_in}
use Rattle.race_answers.specs.Traces.{calls_rows}
use Rattle.race_answers.proofs.visits.put_rows.Given as goal

-- the rows so far
abbrev pub invariant-loop-core : goal.invariant-loop-core
invariant-loop-core l =
    string_bytes l.text
    ≡ string_bytes l.initial.text ++ calls_rows (items_in l.known.pcs) l.pc l.totals l.core
