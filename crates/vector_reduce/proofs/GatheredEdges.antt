-- The edges into a core, gathered vector by vector and then sorted.
use Rattle.std.proofs.Common.{◌≡◌, ◌≢◌, ℕ, ◌+◌, ◌<◌, ◌≤◌, ◌⊎◌, inl, inr, List, [], ◌++◌, length, get_or, sym, ap}
use Rattle.std.proofs.Common.{subst, ◌∙◌}
use Rattle.std.proofs.Common.{arith}
use Rattle.std.specs.List.{Contains, range_with_len}
use Rattle.std.specs.List.Sorted.{IsNonDecreasingBy, IsPermutation}
use Rattle.std.proofs.lemmas.List.{get_or_default}
use Rattle.std.proofs.lemmas.List.Elements.{Contains-append_cases, Contains-append_left, Contains-append_right}
use Rattle.std.proofs.lemmas.List.FromFn.{get_or-range_with_len, length-range_with_len}
use Rattle.std.proofs.lemmas.List.Sorted.{All-permutation, Contains-permutation}
use Rattle.rtr_types.specs.declared.instr.Instr.{Instr}
use Rattle.rtr_types.proofs.Ranges.{below_suc}
use Rattle.clock_core.specs.Order.{Among}
use Rattle.race_log.proofs.RisingSearch.{contains-map, map-contains}
use Rattle.vector_reduce.specs.declared.arrivals.Arrival.{Arrival}
use Rattle.vector_reduce.specs.declared.pair_vector.PairVector.{PairVector}
use Rattle.vector_reduce.specs.Arrivals.{AreInto, Arrives, arrival, arrival_of, arrivals_in}
use Rattle.vector_reduce.specs.Vectors.{edge_at, edges_in, vector_at}
use Rattle.vector_reduce.proofs.Edges.{among_edge, edge_among}

-- the edges of the first n vectors into the core
pub record Gathers (vs : List PairVector) (core n : ℕ) (list : List Arrival) : Type 0 where
  pub each : (a : Arrival) → Contains list a → Arrives vs core a
  pub all : (j : ℕ) (x y : Instr) → j < n → j < length vs → Among (edges_in (vector_at vs j)) x y → y.core ≡ core →
      Contains list (arrival x y.count j)

pub gathers_none : (vs : List PairVector) (core : ℕ) → Gathers vs core 0 []
gathers_none vs core = record {
  each = λ a has. absurd (let lt = has.1 in omega (arith, lt));
  all =
      λ j x y lt. absurd (omega (arith, lt));
}

-- the arrivals of one vector are its edges
own_arrives : (vs : List PairVector) (core n : ℕ) (a : Arrival) → n < length vs → (vector_at vs n).to ≡ core →
    Contains (arrivals_in n (vector_at vs n)) a →
    Arrives vs core a
own_arrives vs core n a lt into has =
    let v = vector_at vs n in
    let m = map-contains (arrival_of n v) (range_with_len 0 v.vector.n) 0 a has in
    let k = m.1.0 in
    let within : k < v.vector.n = subst (λ (i : ℕ). k < i) (length-range_with_len 0 v.vector.n) m.1.1 in
    let plus : 0 + k ≡ k = omega arith in
    let is : m.0 ≡ k = sym m.1.2 ∙ get_or-range_with_len 0 v.vector.n k m.0 within ∙ plus in
    let inside : m.0 < v.vector.n = omega (arith, within, is) in
    subst (λ (b : Arrival). Arrives vs core b) m.2 (record {
      vector = lt;
      edge = subst (λ (c : ℕ). Among (edges_in v) (edge_at v m.0).from
          (record { core = c; count = (edge_at v m.0).to.count })) into (among_edge v m.0 inside);
    })

own_all : (vs : List PairVector) (n : ℕ) (x y : Instr) → Among (edges_in (vector_at vs n)) x y →
    Contains (arrivals_in n (vector_at vs n)) (arrival x y.count n)
own_all vs n x y among =
    let v = vector_at vs n in
    let e = edge_among v x y among in
    let k = e.0 in
    let there : k < length (range_with_len 0 v.vector.n) =
    subst (λ (i : ℕ). k < i) (sym (length-range_with_len 0 v.vector.n)) e.1 in
    let plus : 0 + k ≡ k = omega arith in
    let has : Contains (range_with_len 0 v.vector.n) k =
    (k, there, get_or-range_with_len 0 v.vector.n k k e.1 ∙ plus) in
    let is : arrival_of n v k ≡ arrival x y.count n =
    ap (λ (i : Instr). arrival i (edge_at v k).to.count n) e.2 ∙ ap (λ (i : Instr). arrival x i.count n) e.3 in
    subst (λ (b : Arrival). Contains (arrivals_in n v) b) is
    (contains-map (arrival_of n v) (range_with_len 0 v.vector.n) k has)

pub gathers_more : (vs : List PairVector) (core n : ℕ) (list new : List Arrival) → n < length vs →
    (vector_at vs n).to ≡ core →
    new ≡ list ++ arrivals_in n (vector_at vs n) → Gathers vs core n list → Gathers vs core (n + 1) new
gathers_more vs core n list new lt into is g =
    subst (λ (l : List Arrival). Gathers vs core (n + 1) l) (sym is) (record { each = each; all = all })
  where
    own : List Arrival
    own = arrivals_in n (vector_at vs n)

    each : (a : Arrival) → Contains (list ++ own) a → Arrives vs core a
    each a has = elim (Contains-append_cases list own a has) [
      | inl old ↦ g.each a old
      | inr new ↦ own_arrives vs core n a lt into new
    ]

    all : (j : ℕ) (x y : Instr) → j < n + 1 → j < length vs → Among (edges_in (vector_at vs j)) x y → y.core ≡ core →
        Contains (list ++ own) (arrival x y.count j)
    all j x y less inside among e = by (below_suc j n (omega (arith, less)))
      where
        by : (j < n) ⊎ (j ≡ n) → Contains (list ++ own) (arrival x y.count j)
        by (inl before) = Contains-append_left list own (arrival x y.count j) (g.all j x y before inside among e)
        by (inr same) = subst (λ (i : ℕ). Contains (list ++ own) (arrival x y.count i)) (sym same)
            (Contains-append_right list own (arrival x y.count n)
            (own_all vs n x y (subst (λ (i : ℕ). Among (edges_in (vector_at vs i)) x y) same among)))

pub gathers_past : (vs : List PairVector) (core n : ℕ) (list : List Arrival) → (vector_at vs n).to ≢ core →
    Gathers vs core n list →
    Gathers vs core (n + 1) list
gathers_past vs core n list other g = record { each = g.each; all = all }
  where
    all : (j : ℕ) (x y : Instr) → j < n + 1 → j < length vs → Among (edges_in (vector_at vs j)) x y → y.core ≡ core →
        Contains list (arrival x y.count j)
    all j x y less inside among e = by (below_suc j n (omega (arith, less)))
      where
        by : (j < n) ⊎ (j ≡ n) → Contains list (arrival x y.count j)
        by (inl before) = g.all j x y before inside among e
        by (inr same) =
            let edge = edge_among (vector_at vs n) x y
            (subst (λ (i : ℕ). Among (edges_in (vector_at vs i)) x y) same among) in
            absurd (other (ap (λ (i : Instr). i.core) edge.3 ∙ e))

pub are_into : (vs : List PairVector) (core n : ℕ) (list sorted : List Arrival) → length vs ≤ n →
    Gathers vs core n list → IsPermutation list sorted →
    IsNonDecreasingBy (λ (a : Arrival). a.count) sorted → AreInto vs core sorted
are_into vs core n list sorted past g p rise = record {
  each = All-permutation (Arrives vs core) list sorted p
      (λ k d lt. g.each (get_or list k d) (k, lt, get_or_default list k (get_or list k d) d lt));
  all = λ j x y lt among e. Contains-permutation list sorted (arrival x y.count j) p
      (g.all j x y (omega (arith, lt, past)) lt among e);
  rise = rise;
}
