use Rattle.std.proofs.Common.{arith}
use Rattle.move_marks.proofs.Bits.{members_few}
use Rattle.tso_core.proofs.MarkNumbers.{order_numbered}
use Rattle.tso_core.proofs.marks.Marks.number_of_order.Goals as goal

pub overflow_add-result : goal.overflow_add-result
overflow_add-result c =
    omega (arith, c.count.ensures.few, c.number_in.ensures.within, members_few c.args.self.orders)

pub returns-clause-within : goal.returns-clause-within
returns-clause-within c =
    (order_numbered c.args.self _ c.args.core _ _ c.set_of.ensures c.count.ensures.value c.number_in.ensures.within
    c.number_in.ensures.value).0

pub returns-clause-value : goal.returns-clause-value
returns-clause-value c =
    (order_numbered c.args.self _ c.args.core _ _ c.set_of.ensures c.count.ensures.value c.number_in.ensures.within
    c.number_in.ensures.value).1
