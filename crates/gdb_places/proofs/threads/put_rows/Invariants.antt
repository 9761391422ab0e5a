use Rattle.std.proofs.Common.{◌≡◌, ◌++◌, string_bytes}
use Rattle.gdb_places.specs.Threads.{rows_text}
use Rattle.gdb_places.proofs.threads.put_rows.Given as goal

-- the rows so far
abbrev pub invariant-loop-core : goal.invariant-loop-core
invariant-loop-core l = string_bytes l.text ≡ string_bytes l.fn.text ++ rows_text l.place l.core
