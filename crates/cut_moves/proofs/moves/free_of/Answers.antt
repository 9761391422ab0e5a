use Rattle.std.proofs.Common.{◌-◌, arith}
use Rattle.cut_moves.proofs.StepsBack.{asked_all, asked_free, asked_need, asking_start}
use Rattle.cut_moves.proofs.moves.free_of.Goals as goal

pub loop-free-init : goal.loop-free-init
loop-free-init c = asking_start c.args.audited.now.which c.args.audited.now.recording c.args.at c.args.core c.args.most

pub loop-free-preserved-then-needs : goal.loop-free-preserved-then-needs
loop-free-preserved-then-needs c =
    let a = c.args.audited.now in
    let above = c.next_asked-count.ensures.above in
    asked_need a.which a.recording c.args.at c.args.core c.args.most c.loop-free.free c.loop-free.least
    c.next_asked-count.result c.loop-free.invariant above c.next_asked-count.ensures.below
    (c.next_asked-count.result - 1) (omega arith) (c.needs.ensures.0 c.if-needs.true)

pub loop-free-preserved : goal.loop-free-preserved
loop-free-preserved c =
    let a = c.args.audited.now in
    asked_free a.which a.recording c.args.at c.args.core c.args.most c.loop-free.free c.loop-free.least
    c.next_asked-count.result c.loop-free.invariant c.next_asked-count.ensures.above c.next_asked-count.ensures.below
    (λ need. let covered = c.needs.ensures.1 need in let not = c.if-needs.false in cc)

pub returns : goal.returns
returns c =
    let a = c.args.audited.now in
    let end = c.loop-free-test.false in
    asked_all a.which a.recording c.args.at c.args.core c.args.most c.loop-free.free c.loop-free.least
    c.loop-free.invariant (omega arith)
