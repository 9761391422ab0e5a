use Rattle.std.proofs.Common.{◌≡◌}
use Rattle.gdb_session.specs.Orders.{every_core}
use Rattle.gdb_session.proofs.orders.every_core.Given as goal

-- those so far
abbrev pub invariant-loop-core : goal.invariant-loop-core
invariant-loop-core l = l.set ≡ every_core l.core
