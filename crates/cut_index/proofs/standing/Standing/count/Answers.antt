use Rattle.cut_index.proofs.Shown.{shown_count}
use Rattle.cut_index.proofs.standing.Standing.count.Goals as goal

pub returns : goal.returns
returns c = shown_count c.self.inside.index.now c.audited.ensures.passed c.self.inside.cut c.self.invariant
    c.args.self.now c.self.view_is c.args.core
