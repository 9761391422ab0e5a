use Rattle.std.proofs.Common.{arith}
use Rattle.move_marks.proofs.Bits.{count_is, members_few}
use Rattle.move_marks.proofs.sets.count.Goals as goal

pub returns-clause-value : goal.returns-clause-value
returns-clause-value c = count_is c.before.args.set (omega arith)

pub returns-clause-few : goal.returns-clause-few
returns-clause-few c = omega (arith, count_is c.before.args.set (omega arith), members_few c.before.args.set)
