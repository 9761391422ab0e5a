use Rattle.std.proofs.Common.{◌≡◌}
use Rattle.std.specs.List.{flat_map, range_with_len}
use Rattle.part_lists.specs.Leading.{led_at}
use Rattle.part_lists.proofs.leading.led_of.Given as goal

abbrev pub invariant-loop-place : goal.invariant-loop-place
invariant-loop-place g l =
    l.list.items ≡ flat_map (led_at g.L.Led.between l.cores l.lists) (range_with_len 0 l.place)
