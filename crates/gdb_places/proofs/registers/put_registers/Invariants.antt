use Rattle.std.proofs.Common.{◌≡◌, ◌++◌}
use Rattle.std.specs.Prelude.{map}
use Rattle.std.specs.List.{range_with_len}
use Rattle.rv_core.specs.States.{register}
use Rattle.gdb_places.proofs.registers.put_registers.Given as goal

-- the registers so far
abbrev pub invariant-loop-k : goal.invariant-loop-k
invariant-loop-k l = l.words.items ≡ l.fn.words.items ++ map (register l.core) (range_with_len 0 l.k)
