use Rattle.std.proofs.Common.{◌≡◌, ◌-◌}
use Rattle.replay_threads.specs.Turns.{Continues}
use Rattle.replay_threads.proofs.turns.run.Given as goal

abbrev pub invariant-loop-which : goal.invariant-loop-which
invariant-loop-which g l = record {
  table : l.seat.table_id ≡ l.table;
  goes_on : Continues l.fn.seat l.seat;
}

abbrev pub decreases-loop-which : goal.decreases-loop-which
decreases-loop-which g l = l.total - l.seat.core.count
