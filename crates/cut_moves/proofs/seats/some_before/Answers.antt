use Rattle.std.proofs.Common.{◌-◌, arith}
use Rattle.cut_moves.proofs.SeatHalves.{halved_end, halved_start}
use Rattle.cut_moves.proofs.seats.some_before.Goals as goal

pub loop-some-init : goal.loop-some-init
loop-some-init c = halved_start c.args.seats.now c.args.low c.args.high c.args.number c.requires.within

pub returns : goal.returns
returns c =
    let end = c.loop-some-test.false in
    halved_end c.args.seats.now c.args.low c.args.high c.args.number c.loop-some.some c.loop-some.past
    c.loop-some.invariant (omega arith)
