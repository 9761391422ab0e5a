use Rattle.std.proofs.Common.{◌-◌, arith}
use Rattle.turn_lists.proofs.ListByNumber.{builds_last}
use Rattle.turn_lists.proofs.few.FewLists.list_of.Goals as goal

pub returns : goal.returns
returns c =
    let over = c.loop-made-test.false in
    builds_last c.args.self.now c.args.turns c.args.number c.loop-made.list c.loop-made.last c.loop-made.left
    (c.args.turns - c.loop-made.made) c.loop-made.invariant (omega arith)
