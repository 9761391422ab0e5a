use Rattle.std.proofs.Common.{ℕ, ◌+◌, ◌-◌, ◌/◌, arith}
use Rattle.replay_audit.proofs.ClockNumbers.{at_item, number_is, past_by}
use Rattle.touch_judge.proofs.clocks.number.Goals as goal

pub loop-low-preserved : goal.loop-low-preserved
loop-low-preserved c =
    let k : ℕ = c.loop-low.low + (c.loop-low.high - c.loop-low.low) / 2 in
    let i = c.loop-low.invariant in
    let within = i.within in
    let order = i.order in
    let lt = c.loop-low-test.true in
    let is = at_item c.args.list.now c.index-list-middle.result k c.args.at.core c.get.result (omega arith)
    c.index-list-middle.is c.get.ensures in
    let past = c.if-get-at.false in
    record {
      low = i.low;
      order = omega arith;
      within = omega arith;
      high = λ j le below. past_by c.args.list.now c.args.at.core c.args.at.count k j c.requires.rising le below
          (omega arith);
    }

pub returns : goal.returns
returns c =
    let i = c.loop-low.invariant in
    let f = c.loop-low-test.false in
    number_is c.args.list.now c.args.at.core c.args.at.count c.loop-low.low i.low
    (λ lt. i.high c.loop-low.low (omega arith) lt)
