use Rattle.std.proofs.Common.{◌≡◌, [], vec_len}
use Rattle.std.specs.Prelude.{map, replicate}
use Rattle.roomy_lists.proofs.Rooms.{items_of}
use Rattle.roomy_lists.proofs.all_lists.RoomyLists.new.Given as goal

-- there are as many empty lists as turns were taken
abbrev pub invariant-loop-place : goal.invariant-loop-place
invariant-loop-place g l = record {
  lists : map items_of l.lists.items ≡ replicate l.place [];
  len : vec_len l.lists ≡ l.place;
}
