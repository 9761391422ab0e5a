use Rattle.std.proofs.Common.{◌≡◌, vec_len, false}
use Rattle.roomy_lists.proofs.Rooms.{Made}
use Rattle.roomy_lists.proofs.all_lists.RoomyLists.make_missing.Given as goal

-- the lists are as they were, and those before this one have room
abbrev pub invariant-loop-place : goal.invariant-loop-place
invariant-loop-place g l = record {
  made : Made l.initial.self-inside.lists.items l.self-inside.lists.items l.place;
  len : vec_len l.self-inside.lists ≡ vec_len l.initial.self-inside.lists;
  known : l.self-inside.known_ready ≡ false;
  full : l.self-inside.full ≡ l.initial.self-inside.full;
  finished : l.self-inside.finished ≡ l.initial.self-inside.finished;
}
