use Rattle.std.proofs.Common.{◌∙◌, ◌<◌, ℕ, List, ap, arith, get_or, length, sym, subst}
use Rattle.vector_reduce.specs.declared.pair_vector.PairVector.{PairVector}
use Rattle.vector_reduce.specs.Arrivals.{Arranged, IsBetween, Tries}
use Rattle.vector_reduce.specs.Kept.{beside}
use Rattle.vector_reduce.specs.Vectors.{no_vector, vector_at}
use Rattle.vector_reduce.proofs.arrivals.Arrivals.trial.Goals as goal

pub tried-requires : goal.tried-requires
tried-requires c =
    let count = ap (λ (a : Arranged). length a.vectors) c.self.view_is in
    let inside : length c.args.stays.now < length c.self.inside.vectors = omega (arith, c.requires, count) in
    subst (λ (l : List PairVector). IsBetween (length c.args.self.now.lists)
    (get_or l (length c.args.stays.now) no_vector)) (sym c.as_slice-vectors.ensures)
    (subst (λ (n : ℕ). IsBetween n (vector_at c.self.inside.vectors (length c.args.stays.now)))
    (ap (λ (a : Arranged). length a.lists) c.self.view_is)
    (c.self.invariant.arranges.between (length c.args.stays.now) inside))

pub returns-clause-tried : goal.returns-clause-tried
returns-clause-tried c =
    subst (λ (l : List PairVector). Tries (beside c.args.self.now.vectors c.args.stays.now)
    (get_or l (length c.args.stays.now) no_vector) c.tried.result)
    (c.as_slice-vectors.ensures ∙ ap (λ (a : Arranged). a.vectors) c.self.view_is) c.tried.ensures.tried
