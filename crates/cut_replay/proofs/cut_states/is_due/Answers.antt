use Rattle.std.proofs.Common.{arith}
use Rattle.cut_replay.proofs.Ways.{due_is, few_cores}
use Rattle.cut_replay.proofs.cut_states.is_due.Goals as goal

pub bounds-cut-core : goal.bounds-cut-core
bounds-cut-core c = few_cores c.requires.way c.args.core c.requires.core

pub returns : goal.returns
returns c =
    due_is c.requires.way c.args.core c.requires.core c.count-count.result c.count-count.ensures
    (omega (arith, c.if-count-cut.false))
    c.clock.result c.clock.ensures
    c.is_waited_for.result c.is_waited_for.ensures
