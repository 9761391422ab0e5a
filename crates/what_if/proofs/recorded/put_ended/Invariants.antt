use Rattle.std.proofs.Common.{◌≡◌, ◌++◌, string_bytes}
use Rattle.what_if.specs.Recorded.{ended_rows}
use Rattle.what_if.proofs.recorded.put_ended.Given as goal

-- the rows so far
abbrev pub invariant-loop-core : goal.invariant-loop-core
invariant-loop-core l =
    string_bytes l.text ≡ string_bytes l.initial.text ++ ended_rows l.image l.outcome l.core
