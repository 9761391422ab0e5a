use Rattle.cut_index.proofs.Shown.{shown_inside, shown_most, shown_used, shown_pc}
use Rattle.cut_index.proofs.standing.Standing.next.Goals as goal

pub next-requires-clause-core : goal.next-requires-clause-core
next-requires-clause-core c = shown_inside c.self.inside.index.now c.audited.ensures.passed c.self.inside.cut
    c.self.invariant c.args.self.now c.self.view_is c.args.core c.requires

pub next-requires-clause-count : goal.next-requires-clause-count
next-requires-clause-count c = shown_most c.self.inside.index.now c.audited.ensures.passed c.self.inside.cut
    c.self.invariant c.args.self.now c.self.view_is c.args.core c.count-count.result c.requires c.count-count.ensures

pub returns-clause-pc : goal.returns-clause-pc
returns-clause-pc c = shown_pc c.self.inside.index.now c.audited.ensures.passed c.self.inside.cut c.self.invariant
    c.args.self.now c.self.view_is c.args.core c.count-count.result c.count-count.ensures c.next.result c.next.ensures

pub returns-clause-used : goal.returns-clause-used
returns-clause-used c = shown_used c.self.inside.index.now c.audited.ensures.passed c.self.inside.cut c.self.invariant
    c.args.self.now c.self.view_is c.args.core c.count-count.result c.count-count.ensures c.next.result c.next.ensures
