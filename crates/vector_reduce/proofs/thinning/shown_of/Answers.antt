use Rattle.std.proofs.Common.{◌∙◌, ℕ, List, subst, sym}
use Rattle.std.specs.Prelude.{IfOk}
use Rattle.vector_reduce.specs.declared.pair_vector.PairVector.{PairVector}
use Rattle.vector_reduce.specs.Showing.{AreFormed, AreLeastShown}
use Rattle.vector_reduce.specs.Thinning.{EachNeeded}
use Rattle.vector_reduce.proofs.thinning.shown_of.Goals as goal

pub shown-requires : goal.shown-requires
shown-requires c = subst (λ (l : List PairVector). EachNeeded l) (sym c.in_ok-arrivals.ensures.vectors)
    c.requires.needed

pub returns-clause-least : goal.returns-clause-least
returns-clause-least c =
    subst (λ (l : List PairVector). IfOk c.shown.result (AreLeastShown l)) c.in_ok-arrivals.ensures.vectors
    c.shown.ensures.least

pub returns-clause-formed : goal.returns-clause-formed
returns-clause-formed c =
    subst (λ (n : ℕ). IfOk c.shown.result (AreFormed n))
    (c.in_ok-arrivals.ensures.cores ∙ sym c.requires.valid.each_core)
    c.shown.ensures.formed
