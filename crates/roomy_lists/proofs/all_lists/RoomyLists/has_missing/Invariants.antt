use Rattle.std.proofs.Common.{◌≡◌, true, take}
use Rattle.roomy_lists.specs.Lists.{are_ready}
use Rattle.roomy_lists.proofs.all_lists.RoomyLists.has_missing.Given as goal

-- each list so far has room
abbrev pub invariant-loop-list : goal.invariant-loop-list
invariant-loop-list g l = (are_ready l.list-items ≡ are_ready l.fn.self) × (are_ready
    (take l.list-index l.list-items) ≡ true)
