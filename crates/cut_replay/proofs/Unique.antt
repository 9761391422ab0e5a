-- There is one cut of each kind.
use Rattle.std.proofs.Common.{◌≡◌, ℕ, List, sym, ap, ◌∙◌, arith}
use Rattle.std.proofs.lemmas.List.{ext_get_or}
use Rattle.rtr_types.specs.declared.cut.Cut.{Cut}
use Rattle.race_log.specs.declared.recording.Recording.{Recording}
use Rattle.cut_replay.specs.CutStates.{OneStateLaw}
use Rattle.cut_replay.specs.ClosedCuts.{IsContained, IsCutOf, OneLeastCutLaw, OneGreatestCutLaw}

abbrev cut_of : ℕ → List ℕ → Cut
cut_of cores counts = record { cores = cores; counts = counts }

-- cuts that are contained in each other
pub one_cut : (r : Recording) (cut other : Cut) → IsCutOf r cut → IsCutOf r other → IsContained cut other →
    IsContained other cut → cut ≡ other
one_cut r cut other h k up down =
    ap (λ (n : ℕ). cut_of n cut.counts) (h.cores ∙ sym k.cores)
    ∙ ap (λ (l : List ℕ). cut_of other.cores l)
    (ext_get_or 0 cut.counts other.counts (h.places ∙ sym k.places)
    (λ i lt. let a = up i in let b = down i in omega arith))

pub one_least : OneLeastCutLaw
one_least which r at cut other h k =
    one_cut r cut other h.closed.is_cut k.closed.is_cut (h.least other k.closed k.holds) (k.least cut h.closed h.holds)

pub one_greatest : OneGreatestCutLaw
one_greatest which r at cut other h k =
    one_cut r cut other h.closed.is_cut k.closed.is_cut (k.greatest cut h.closed h.without)
    (h.greatest other k.closed k.without)

-- ---- and one state

pub one_state_law : OneStateLaw
one_state_law which r cut outcome other h k =
    let o = h.some_order in
    (h.every_order o.0 o.1).outcome_is ∙ sym (k.every_order o.0 o.1).outcome_is
