use Rattle.std.proofs.Common.{arith, ◌<◌}
use Rattle.rtr_types.specs.Pairs.{pair_count}
use Rattle.part_lists.specs.Leading.{led_at}
use Rattle.part_lists.proofs.ByPairs.{led_more, pair_led_is}
use Rattle.part_lists.proofs.leading.led_of.Goals as goal

pub loop-place-preserved : goal.loop-place-preserved
loop-place-preserved g c =
    let lt : c.loop-place.place < pair_count c.args.cores =
    omega (arith, c.loop-place-test.true, c.pair_count-place-end.ensures) in
    led_more (led_at g.L.Led.between c.args.cores c.args.lists.now) c.loop-place.place c.loop-place.list.items
    c.push_led.new.list.items c.loop-place.invariant
    (pair_led_is g.L.Led.between c.args.cores c.loop-place.place c.pair_of-from.result c.args.lists.now
    c.index-lists-place.result c.as_slice.result.now c.loop-place.list.items c.push_led.new.list.items c.requires lt
    c.pair_of-from.ensures.pair c.index-lists-place.is c.as_slice.ensures c.in_ok-push_led.ensures)
