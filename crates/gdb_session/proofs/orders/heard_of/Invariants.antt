use Rattle.std.proofs.Common.{◌≡◌}
use Rattle.gdb_session.specs.Orders.{acts, cores_where}
use Rattle.gdb_session.proofs.orders.heard_of.Given as goal

-- those so far
abbrev pub invariant-loop-core : goal.invariant-loop-core
invariant-loop-core l = l.set ≡ cores_where (acts l.actions) l.core
