use Rattle.machine_examples.proofs.AcceptedTells.{all_accepted}
use Rattle.machine_examples.proofs.tso_run_tests.every_core_that_there_may_be_adds_to_one_word.Goals as goal

pub step-taken-requires-clause-accepts : goal.step-taken-requires-clause-accepts
step-taken-requires-clause-accepts g c = λ m is.
    all_accepted (λ clerk at. Unit {0}) (λ clerk at. Unit {0}) _ _ _ (λ clerk at. tt) (λ clerk at. tt) _ _ _ _ _
