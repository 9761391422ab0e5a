use Rattle.std.proofs.Common.{arith}
use Rattle.replay_audit.proofs.ClockNumbers.{at_item, number_is}
use Rattle.replay_audit.proofs.log_clocks.number_from.Goals as goal

pub returns-else-get-at : goal.returns-else-get-at
returns-else-get-at c =
    let is = at_item c.args.list.now c.index-list-number.result c.loop-number.number c.args.at.core c.get.result
    c.loop-number-test.true c.index-list-number.is c.get.ensures in
    let past = c.if-get-at.false in
    number_is c.args.list.now c.args.at.core c.args.at.count c.loop-number.number c.loop-number.invariant
    (λ lt. omega arith)

pub returns-after-loop-number : goal.returns-after-loop-number
returns-after-loop-number c =
    let f = c.loop-number-test.false in
    number_is c.args.list.now c.args.at.core c.args.at.count c.loop-number.number c.loop-number.invariant
    (λ lt. absurd (omega arith))
