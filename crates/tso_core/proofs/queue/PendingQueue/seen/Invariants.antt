use Rattle.std.proofs.Common.{◌≡◌}
use Rattle.std.specs.Prelude.{take}
use Rattle.tso_state.specs.Pending.{forwarded}
use Rattle.tso_core.proofs.queue.PendingQueue.seen.Given as goal

abbrev pub invariant-loop-pending : goal.invariant-loop-pending
invariant-loop-pending l = l.value ≡ forwarded (take l.pending-index l.self) l.word l.old
