use Rattle.std.proofs.Common.{◌≡◌, ◌∙◌, ap, arith, ℕ}
use Rattle.std.specs.Prelude.{replicate}
use Rattle.know_history.specs.Changes.{no_newest}
use Rattle.know_history.proofs.HistoryNotes.{notes_none}
use Rattle.know_history.proofs.history.History.new.Goals as goal

pub returns : goal.returns
returns c =
    let all : c.loop-core.core ≡ c.args.cores = omega arith in
    notes_none _ _ c.args.cores (c.loop-core.invariant ∙ ap (λ (n : ℕ). replicate n no_newest) all)
