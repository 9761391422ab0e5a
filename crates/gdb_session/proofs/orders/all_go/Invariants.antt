use Rattle.std.proofs.Common.{◌≡◌}
use Rattle.gdb_session.specs.Orders.{all_go}
use Rattle.gdb_session.proofs.orders.all_go.Given as goal

-- all so far
abbrev pub invariant-loop-core : goal.invariant-loop-core
invariant-loop-core l = l.all ≡ all_go l.actions l.core
