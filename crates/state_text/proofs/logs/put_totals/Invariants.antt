-- the text of the totals so far
use Rattle.std.proofs.Common.{◌≡◌, ◌++◌, take, string_bytes}
use Rattle.std.specs.List.{flat_map, enumerate_from}
use Rattle.state_text.specs.Logs.{total_line}
use Rattle.state_text.proofs.logs.put_totals.Given as goal

abbrev pub invariant-loop-core : goal.invariant-loop-core
invariant-loop-core l =
    string_bytes l.text ≡ string_bytes l.initial.text ++ flat_map total_line (enumerate_from 0 (take l.core l.totals))
