use Rattle.std.proofs.Common.{◌≡◌, ◌<◌}
use Rattle.std.specs.Prelude.{IfSome}
use Rattle.gdb_session.specs.Orders.{is_asked, lowest_where}
use Rattle.gdb_session.proofs.orders.lowest_asked.Given as goal

-- the lowest so far
abbrev pub invariant-loop-core : goal.invariant-loop-core
invariant-loop-core l = record {
  so_far : l.lowest ≡ lowest_where (is_asked l.step l.actions) l.core;
  below : IfSome l.lowest (λ c. c < l.cores);
}
