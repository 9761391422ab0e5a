use Rattle.std.proofs.Common.{◌≡◌, ◌-◌, ◌<◌, ◌≤◌, length}
use Rattle.std.specs.Prelude.{All}
use Rattle.std.specs.List.{range_with_len}
use Rattle.atomic_table.specs.Seated.{TableId}
use Rattle.replay_threads.specs.Groups.{AllAt, AllDone, AreAt, AreGrouped, IsDone, ids_of}
use Rattle.replay_threads.proofs.joint.seats_of.Given as goal

abbrev pub invariant-loop-core : goal.invariant-loop-core
invariant-loop-core g l = record {
  count : l.count ≡ length l.groups.items;
  some : 0 < l.count;
  most : l.core ≤ l.fn.cores;
  grouped : AreGrouped l.count l.core l.groups.items;
  done : AllDone g.J.Job.recording l.groups.items;
  ids : ids_of l.seats.items ≡ range_with_len l.core (l.fn.cores - l.core);
  at : (table : TableId) → AreAt table l.fn.groups.items → AreAt table l.groups.items × AllAt table l.seats.items;
  ended : All (IsDone g.J.Job.recording) l.seats.items;
}

abbrev pub decreases-loop-core : goal.decreases-loop-core
decreases-loop-core g l = l.core
