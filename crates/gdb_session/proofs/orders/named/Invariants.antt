use Rattle.std.proofs.Common.{◌≡◌, drop}
use Rattle.gdb_session.specs.Orders.{named}
use Rattle.gdb_session.proofs.orders.named.Given as goal

-- none so far names a core
abbrev pub invariant-loop-action : goal.invariant-loop-action
invariant-loop-action l = named l.actions l.cores ≡ named (drop l.action-index l.actions) l.cores
