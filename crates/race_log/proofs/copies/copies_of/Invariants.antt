use Rattle.std.proofs.Common.{◌≡◌, take}
use Rattle.race_log.proofs.copies.copies_of.Given as goal

abbrev pub invariant-loop-list : goal.invariant-loop-list
invariant-loop-list g l = l.copies ≡ take l.list-index l.lists
