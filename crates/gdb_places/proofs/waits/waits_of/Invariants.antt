use Rattle.std.proofs.Common.{◌≡◌}
use Rattle.gdb_places.specs.Waits.{waits_below}
use Rattle.gdb_places.proofs.waits.waits_of.Given as goal

-- those of the cores so far
abbrev pub invariant-loop-core : goal.invariant-loop-core
invariant-loop-core l = l.list ≡ waits_below l.which l.recording l.cut l.at l.core
