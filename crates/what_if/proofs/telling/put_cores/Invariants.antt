use Rattle.std.proofs.Common.{◌≡◌, ◌++◌, string_bytes}
use Rattle.what_if.specs.Told.{cores_text}
use Rattle.what_if.proofs.telling.put_cores.Given as goal

-- the rows so far
abbrev pub invariant-loop-core : goal.invariant-loop-core
invariant-loop-core l =
    string_bytes l.text ≡ string_bytes l.initial.text ++ cores_text l.image l.other l.recorded l.core
