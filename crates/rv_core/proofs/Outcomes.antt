-- Cores, words and loads make an outcome.
use Rattle.std.proofs.Common.{◌≡◌, ◌∙◌, ap, ℕ, List}
use Rattle.rv_core.specs.declared.core_state.Core.{Core}
use Rattle.rv_core.specs.declared.outcome.LoadNote.{LoadNote}
use Rattle.rv_core.specs.declared.outcome.Outcome.{Outcome}

abbrev made : List Core → List ℕ → List (List LoadNote) → Outcome
made cores words loads = record { cores = cores; words = words; loads = loads }

pub outcome_eq : (a b : Outcome) → a.cores ≡ b.cores → a.words ≡ b.words → a.loads ≡ b.loads → a ≡ b
outcome_eq a b cores words loads =
    ap (λ (x : List Core). made x a.words a.loads) cores ∙ ap (λ (x : List ℕ). made b.cores x a.loads) words
    ∙ ap (λ (x : List (List LoadNote)). made b.cores b.words x) loads
