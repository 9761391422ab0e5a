use Rattle.std.proofs.Common.{◌≡◌, ◌++◌, string_bytes}
use Rattle.std.specs.List.{flat_map, range_with_len}
use Rattle.gdb_monitor.specs.Whens.{when_row}
use Rattle.gdb_monitor.proofs.whens.put_cores.Given as goal

-- the rows so far
abbrev pub invariant-loop-core : goal.invariant-loop-core
invariant-loop-core l =
    string_bytes l.text ≡ string_bytes l.initial.text ++ flat_map (when_row l.place) (range_with_len 0 l.core)
