use Rattle.std.proofs.Common.{◌≡◌}
use Rattle.replay_threads.specs.Turns.{Looks, to_see}
use Rattle.replay_threads.proofs.waits.wait.Given as goal

abbrev pub invariant-loop-of : goal.invariant-loop-of
invariant-loop-of g l = record {
  table : l.seat.table_id ≡ l.table;
  looks : Looks l.fn.seat l.seat;
}

abbrev pub decreases-loop-of : goal.decreases-loop-of
decreases-loop-of g l = to_see l.seat.view
