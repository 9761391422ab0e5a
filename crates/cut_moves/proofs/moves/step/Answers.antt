use Rattle.std.proofs.Common.{sym, subst, arith}
use Rattle.cut_moves.specs.Steps.{IsStep}
use Rattle.cut_moves.proofs.Fronts.{step_count}
use Rattle.cut_moves.proofs.OneStep.{step_by_union}
use Rattle.cut_moves.proofs.moves.step.Goals as goal

pub returns-clause-step : goal.returns-clause-step
returns-clause-step c =
    subst (IsStep _ _ _ _) (sym c.union.ensures) (step_by_union _ _ _ _ _ c.requires.closed c.in_ok-least.ensures)

pub returns-clause-one : goal.returns-clause-one
returns-clause-one c =
    step_count _ _ _ _ _ c.recording.ensures.valid c.outcome.ensures.passed.determinate c.requires.next
    c.requires.closed (λ holds. omega arith) (returns-clause-step c)
