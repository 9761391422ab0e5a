use Rattle.std.proofs.Common.{arith}
use Rattle.flat_machine.proofs.StartMarks.{first_own, none_first, one_more}
use Rattle.flat_machine.proofs.starting.first_marks.Goals as goal

pub loop-core-init : goal.loop-core-init
loop-core-init c = none_first c.args.nodes.now.items c.none-marks.result c.none-marks.ensures

pub loop-core-preserved : goal.loop-core-preserved
loop-core-preserved c =
    one_more c.args.nodes.now.items c.loop-core.marks c.mark_first.new.marks c.loop-core.core
    c.mark_first.ensures.this c.mark_first.ensures.others c.loop-core.invariant

pub returns-clause-own : goal.returns-clause-own
returns-clause-own c =
    let ok = c.args.nodes.now.ok.0 in
    first_own c.args.nodes.now.items _ _ (omega (arith, ok)) c.loop-core.invariant

pub returns-clause-others : goal.returns-clause-others
returns-clause-others c = c.loop-core.invariant.others
