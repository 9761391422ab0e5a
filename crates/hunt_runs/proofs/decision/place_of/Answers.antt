use Rattle.std.proofs.Common.{arith}
use Rattle.move_marks.proofs.Bits.{members_few}
use Rattle.hunt_runs.proofs.decision.place_of.Goals as goal

pub overflow_add-result : goal.overflow_add-result
overflow_add-result c =
    omega (arith, c.count.ensures.few, c.place_in-in-Buffer.ensures.within, members_few c.args.set.buffers)
