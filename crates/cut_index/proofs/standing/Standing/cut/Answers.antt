use Rattle.cut_index.proofs.Shown.{shown_cut}
use Rattle.cut_index.proofs.standing.Standing.cut.Goals as goal

pub returns : goal.returns
returns c = shown_cut c.self.inside.index.now c.audited.ensures.passed c.self.inside.cut c.self.invariant
    c.args.self.now
    c.self.view_is
