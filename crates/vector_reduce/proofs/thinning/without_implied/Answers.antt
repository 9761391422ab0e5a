use Rattle.std.proofs.Common.{◌∙◌, List, Ok, Err, ap, length, subst, sym}
use Rattle.std.specs.Prelude.{Bool, IfOk, Result}
use Rattle.race_log.specs.declared.recording.Recording.{Recording}
use Rattle.race_log.specs.Validity.{Valid}
use Rattle.vector_reduce.specs.declared.pair_vector.PairVector.{PairVector}
use Rattle.vector_reduce.specs.Kept.{IsKeptOf, IsLeftOf, kept}
use Rattle.vector_reduce.specs.Thinning.{IsThinned}
use Rattle.vector_reduce.specs.Vectors.{vectors_of}
use Rattle.vector_reduce.proofs.ThinnedLog.{left_of_kept}
use Rattle.vector_reduce.proofs.KeptVectors.{vectors_counted}
use Rattle.vector_reduce.proofs.thinning.without_implied.Goals as goal

pub kept_of-requires : goal.kept_of-requires
kept_of-requires c =
    ap length c.as_slice.ensures.value ∙ c.in_ok-stays.ensures.all ∙ ap length c.in_ok-arrivals.ensures.vectors
    ∙ vectors_counted c.args.recording.now c.requires

left : {E : Type 0} (r : Recording) (stays : List Bool) (result : Result Recording E) → Valid r →
    IsThinned (vectors_of r) (kept (vectors_of r) stays) →
    IfOk result (IsKeptOf r stays) → IfOk result (IsLeftOf r)
left r stays (Ok s) valid t k = left_of_kept r s stays valid k t
left r stays (Err e) valid t k = tt

pub returns : goal.returns
returns c =
    let thinned : IsThinned (vectors_of c.args.recording.now)
    (kept (vectors_of c.args.recording.now) c.as_slice.result.now) =
    subst (λ (b : List Bool). IsThinned (vectors_of c.args.recording.now) (kept (vectors_of c.args.recording.now) b))
    (sym c.as_slice.ensures.value)
    (subst (λ (l : List PairVector). IsThinned l (kept l c.in_ok-stays.stays.items)) c.in_ok-arrivals.ensures.vectors
    c.in_ok-stays.ensures.thinned) in
    left c.args.recording.now c.as_slice.result.now c.kept_of.result c.requires thinned c.kept_of.ensures
