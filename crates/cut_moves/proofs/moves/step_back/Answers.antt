use Rattle.std.proofs.Common.{arith}
use Rattle.cut_moves.proofs.Fronts.{back_count}
use Rattle.cut_moves.proofs.StepsBack.{is_step_back}
use Rattle.cut_moves.proofs.moves.step_back.Goals as goal

pub returns-clause-back : goal.returns-clause-back
returns-clause-back c =
    is_step_back _ _ c.recording.ensures.valid _ _ c.requires.closed c.requires.last _ c.without.ensures

pub returns-clause-one : goal.returns-clause-one
returns-clause-one c =
    back_count _ _ _ _ _ c.recording.ensures.valid c.outcome.ensures.passed.determinate c.requires.last
    c.requires.closed (omega arith) (returns-clause-back c)
