use Rattle.std.proofs.Common.{◌≡◌, ◌++◌, ◌≤◌, ◌+◌, length, vec_len, vec_capacity}
use Rattle.std.specs.Prelude.{map}
use Rattle.roomy_lists.specs.Lists.{items_in}
use Rattle.roomy_lists.proofs.Rooms.{items_of}
use Rattle.roomy_lists.proofs.all_lists.RoomyLists.into_items.Given as goal

-- the lists that were taken, and then those that are left, are all of them, and there is room for these
abbrev pub invariant-loop-list : goal.invariant-loop-list
invariant-loop-list g l = record {
  all : l.finished.items ++ map items_of l.list-iterator.rest.items ≡ items_in l.fn.self;
  room : vec_len l.finished + length l.list-iterator.rest.items ≤ vec_capacity l.finished;
}
