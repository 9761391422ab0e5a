use Rattle.std.proofs.Common.{◌∙◌, ap, List, ℕ}
use Rattle.rv_core.specs.declared.core_state.Core.{Core}
use Rattle.rv_core.specs.declared.outcome.Outcome.{Outcome}
use Rattle.run_steps.proofs.ends.outcome_at_end.Goals as goal

pub returns : goal.returns
returns g c =
    let made : List Core → List ℕ → Outcome =
    λ cores words. record { cores = cores; words = words; loads = c.args.loads } in
    ap (λ cores. made cores c.in_ok-words.words) c.in_ok-cores.ensures
    ∙ ap (made (g.M.SteppedMachine.cores c.args.machine.now)) c.in_ok-words.ensures
