use Rattle.cut_index.proofs.Shown.{shown_word}
use Rattle.cut_index.proofs.standing.Standing.word.Goals as goal

pub returns : goal.returns
returns c = shown_word c.self.inside.index.now c.audited.ensures.passed c.self.inside.cut c.self.invariant
    c.args.self.now c.self.view_is c.args.word c.word.result c.word.ensures
