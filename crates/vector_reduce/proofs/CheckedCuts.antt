-- What a check of a cut looks at.
use Rattle.std.proofs.Common.{◌≡◌, ◌≢◌, ℕ, ◌+◌, ◌-◌, ◌*◌, ◌/◌, ◌<◌, ◌≤◌, ◌⊎◌, ◌↔◌, inl, inr, List, length, min, sym, ap}
use Rattle.std.proofs.Common.{subst, ◌∙◌, arith}
use Rattle.std.proofs.Math.Nat.{mul-le-mul_left}
use Rattle.std.proofs.lemmas.Nat.{div-add-mod', le-div}
use Rattle.rtr_types.specs.declared.cut.Cut.{Cut}
use Rattle.rtr_types.specs.declared.instr.Instr.{Instr}
use Rattle.stride_vector.specs.declared.StrideVector.{StrideVector}
use Rattle.stride_vector.specs.Vectors.{IsVector, position_of}
use Rattle.vector_reduce.specs.declared.pair_vector.PairVector.{PairVector}
use Rattle.vector_reduce.specs.Cuts.{Holds, IsClosed, IsLastWithin, counts_in}
use Rattle.vector_reduce.specs.Vectors.{edge_at, edges_in, edges_of_all, others_of, vector_at}
use Rattle.vector_reduce.proofs.Edges.{among_edge, among_others, edge_among, others_among}

at_most : (i j n : ℕ) → i ≤ j → i * n ≤ j * n
at_most i j n le = let h = mul-le-mul_left {m = i} {n = j} n le in omega (arith, h)

-- one position alone
pub only_one : (v : StrideVector) (most : ℕ) → IsVector v → v.b0 ≤ most → v.n - 1 ≡ 0 → IsLastWithin v most 0
only_one v most vector first one = record {
  within = let some = vector.some in omega (arith, some);
  target = omega (arith, first);
  last = λ k lt le. omega (arith, lt, one);
}

below-div : (m n k : ℕ) → 0 < k → m ≤ n / k → m * k ≤ n
below-div m n k some le =
    let up = at_most m (n / k) k le in
    let is = div-add-mod' n k in
    omega (arith, up, is)

pub last_of_more : (v : StrideVector) (most : ℕ) → IsVector v → v.b0 ≤ most → v.n - 1 ≢ 0 →
    IsLastWithin v most (min (v.n - 1) ((most - v.b0) / v.sb))
last_of_more v most vector first more = record {
  within = omega (arith, some, least);
  target = let b = below-div (min (v.n - 1) ((most - v.b0) / v.sb)) (most - v.b0) v.sb rises quotient in
      omega (arith, b, first);
  last = λ k lt le. last k lt le;
}
  where
    some : 1 ≤ v.n
    some = vector.some

    rises : 1 ≤ v.sb
    rises = vector.target_rises (omega (arith, some, more))

    both : (m n : ℕ) → (min m n ≤ m) × (min m n ≤ n)
    both m n = (grind arith, grind arith)

    least : min (v.n - 1) ((most - v.b0) / v.sb) ≤ v.n - 1
    least = (both (v.n - 1) ((most - v.b0) / v.sb)).0

    quotient : min (v.n - 1) ((most - v.b0) / v.sb) ≤ (most - v.b0) / v.sb
    quotient = (both (v.n - 1) ((most - v.b0) / v.sb)).1

    under : (k m n : ℕ) → k ≤ m → k ≤ n → k ≤ min m n
    under k m n a b = grind arith

    last : (k : ℕ) → k < v.n → (position_of v k).1 ≤ most → k ≤ min (v.n - 1) ((most - v.b0) / v.sb)
    last k lt le = under k (v.n - 1) ((most - v.b0) / v.sb) (omega (arith, lt))
        (le-div k (most - v.b0) v.sb rises (omega (arith, le)))

-- no target lies in the cut
pub none_within : (v : PairVector) (cut : Cut) → counts_in cut v.to < v.vector.b0 →
    IsClosed (edges_in v) (counts_in cut)
none_within v cut less x y among held =
    let e = edge_among v x y among in
    let count : (edge_at v e.0).to.count ≡ y.count = ap (λ (i : Instr). i.count) e.3 in
    let core : counts_in cut v.to ≡ counts_in cut y.core = ap (counts_in cut) (ap (λ (i : Instr). i.core) e.3) in
    absurd (omega (arith, held, count, core, less))

-- the last one decides
pub last_decides : (v : PairVector) (cut : Cut) (position : ℕ) → IsLastWithin v.vector (counts_in cut v.to) position →
    Holds (counts_in cut) (edge_at v position).from ↔ IsClosed (edges_in v) (counts_in cut)
last_decides v cut position last =
    (closed, λ c. c (edge_at v position).from (edge_at v position).to (among_edge v position last.within) last.target)
  where
    closed : Holds (counts_in cut) (edge_at v position).from → IsClosed (edges_in v) (counts_in cut)
    closed source x y among held =
        let e = edge_among v x y among in
        let count : (edge_at v e.0).to.count ≡ y.count = ap (λ (i : Instr). i.count) e.3 in
        let core : counts_in cut v.to ≡ counts_in cut y.core = ap (counts_in cut) (ap (λ (i : Instr). i.core) e.3) in
        let le = last.last e.0 e.1 (omega (arith, held, count, core)) in
        let up = at_most e.0 position v.vector.sa le in
        subst (λ (i : Instr). Holds (counts_in cut) i) e.2 (omega (arith, source, up))

-- ---- all but one

pub closed_others : (vs : List PairVector) (number : ℕ) (cut : Cut) →
    ((j : ℕ) → j < length vs → j ≢ number → IsClosed (edges_in (vector_at vs j)) (counts_in cut)) →
    IsClosed (edges_of_all (others_of vs number)) (counts_in cut)
closed_others vs number cut each x y among held =
    let o = others_among vs number x y among in
    each o.0 o.1 o.2 x y o.3 held

pub others_closed : (vs : List PairVector) (number j : ℕ) (cut : Cut) →
    IsClosed (edges_of_all (others_of vs number)) (counts_in cut) →
    j < length vs → j ≢ number → IsClosed (edges_in (vector_at vs j)) (counts_in cut)
others_closed vs number j cut closed lt ne x y among held = closed x y (among_others vs number j x y lt ne among) held

pub closed_more : (vs : List PairVector) (number other : ℕ) (cut : Cut) →
    ((j : ℕ) → j < other → j ≢ number → IsClosed (edges_in (vector_at vs j)) (counts_in cut)) →
    (other ≢ number → IsClosed (edges_in (vector_at vs other)) (counts_in cut)) →
    (j : ℕ) → j < other + 1 → j ≢ number → IsClosed (edges_in (vector_at vs j)) (counts_in cut)
closed_more vs number other cut before here j less ne = by (split j other less)
  where
    split : (i m : ℕ) → i < m + 1 → (i < m) ⊎ (i ≡ m)
    split i m h = grind arith

    by : (j < other) ⊎ (j ≡ other) → IsClosed (edges_in (vector_at vs j)) (counts_in cut)
    by (inl lt) = before j lt ne
    by (inr e) = subst (λ (i : ℕ). IsClosed (edges_in (vector_at vs i)) (counts_in cut)) (sym e)
        (here (λ f. ne (e ∙ f)))
