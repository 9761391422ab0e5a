use Rattle.std.proofs.Common.{◌≡◌, drop}
use Rattle.gdb_session.specs.Orders.{asked_of}
use Rattle.gdb_session.proofs.orders.asked_of.Given as goal

-- none so far names the core
abbrev pub invariant-loop-action : goal.invariant-loop-action
invariant-loop-action l = asked_of l.actions l.core ≡ asked_of (drop l.action-index l.actions) l.core
