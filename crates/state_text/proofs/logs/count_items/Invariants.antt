-- the count so far, with less than 2 ^ 64 for each pair
use Rattle.std.proofs.Common.{◌≡◌, ◌≤◌, ◌*◌, ◌^◌, take}
use Rattle.state_text.specs.Logs.{item_count}
use Rattle.state_text.proofs.logs.count_items.Given as goal

abbrev pub invariant-loop-list : goal.invariant-loop-list
invariant-loop-list g l = record {
  so_far : l.count ≡ item_count (take l.list-index l.lists);
  small : l.count ≤ 2 ^ 64 * l.list-index;
}
