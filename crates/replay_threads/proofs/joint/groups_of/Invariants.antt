use Rattle.std.proofs.Common.{◌≡◌, drop}
use Rattle.atomic_table.specs.Seated.{TableId}
use Rattle.replay_threads.specs.Groups.{AllAt, AreAt, AreGrouped}
use Rattle.replay_threads.proofs.joint.groups_of.Given as goal

abbrev pub invariant-loop-core : goal.invariant-loop-core
invariant-loop-core g l = record {
  left : l.seats.items ≡ drop l.core l.fn.seats.items;
  grouped : AreGrouped l.count l.core l.groups.items;
  at : (table : TableId) → AllAt table l.fn.seats.items → AreAt table l.groups.items;
}
