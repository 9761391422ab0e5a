use Rattle.std.proofs.Common.{◌≡◌, ◌+◌, ◌-◌, ◌*◌, ◌<◌, ◌≤◌}
use Rattle.std.specs.Prelude.{slice_index}
use Rattle.replay_table.specs.Rule.{seen_of}
use Rattle.replay_threads.specs.Turns.{Looks, to_see}
use Rattle.replay_threads.proofs.waits.await_source.Given as goal

abbrev pub invariant-loop-idle : goal.invariant-loop-idle
invariant-loop-idle g l = record {
  table : l.seat.table_id ≡ l.table;
  looks : Looks l.fn.seat l.seat;
  seen : l.seen ≡ seen_of l.seat.view l.of.core;
  unseen : seen_of l.seat.view l.of.core < l.of.count;
  polls : slice_index l.fn.seat.view.polls l.of.core + l.idle ≤ slice_index l.seat.view.polls l.of.core;
  less : to_see l.seat.view ≤ to_see l.fn.seat.view;
  most : l.idle ≤ 64;
}

abbrev pub decreases-loop-idle : goal.decreases-loop-idle
decreases-loop-idle g l = to_see l.seat.view * 65 + (64 - l.idle)
