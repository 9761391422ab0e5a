use Rattle.cut_index.proofs.Shown.{shown_core, shown_inside, shown_most}
use Rattle.cut_index.proofs.standing.Standing.core.Goals as goal

pub core-requires-clause-core : goal.core-requires-clause-core
core-requires-clause-core c = shown_inside c.self.inside.index.now c.audited.ensures.passed c.self.inside.cut
    c.self.invariant c.args.self.now c.self.view_is c.args.core c.requires

pub core-requires-clause-count : goal.core-requires-clause-count
core-requires-clause-count c = shown_most c.self.inside.index.now c.audited.ensures.passed c.self.inside.cut
    c.self.invariant c.args.self.now c.self.view_is c.args.core c.count-count.result c.requires c.count-count.ensures

pub returns : goal.returns
returns c = shown_core c.self.inside.index.now c.audited.ensures.passed c.self.inside.cut c.self.invariant
    c.args.self.now c.self.view_is c.args.core c.count-count.result c.count-count.ensures c.core.result c.core.ensures
