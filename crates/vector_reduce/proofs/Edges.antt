-- Which edges some vectors have.
use Rattle.std.proofs.Common.{◌≡◌, ◌≢◌, ℕ, zero, suc, ◌<◌, ◌⊎◌, inl, inr, List, [], ◌∷◌, ◌++◌, length, refl, sym, ap}
use Rattle.std.proofs.Common.{subst, ◌∙◌, true}
use Rattle.std.proofs.Common.{false}
use Rattle.std.proofs.Common.{arith}
use Rattle.std.specs.Prelude.{Bool, map, slice_index_or}
use Rattle.std.specs.List.{Contains, flat_map, range_with_len}
use Rattle.std.proofs.lemmas.List.{map-append}
use Rattle.std.proofs.lemmas.Grind.{flat_map-append}
use Rattle.rtr_types.specs.declared.instr.Instr.{Instr}
use Rattle.rtr_types.specs.declared.instr.Edge.{Edge}
use Rattle.rtr_types.specs.declared.pairs.Which.TheVariants.{Regulated}
use Rattle.rtr_types.specs.Pairs.{pair_count, source_at, target_at}
use Rattle.clock_core.specs.Order.{Among}
use Rattle.clock_core.proofs.EdgeLists.{among_contains, contains_among, among_cases, among_left, among_right}
use Rattle.stride_vector.specs.declared.StrideVector.{StrideVector}
use Rattle.stride_vector.specs.Vectors.{edges_of, position_of}
use Rattle.stride_vector.proofs.Sources.{edges-placed}
use Rattle.race_log.specs.declared.recording.Recording.{Recording}
use Rattle.race_log.specs.Sources.{edge_between, edges_at, log_edges}
use Rattle.race_log.proofs.RisingSearch.{contains-map, map-contains}
use Rattle.vector_reduce.specs.declared.pair_vector.PairVector.{PairVector}
use Rattle.vector_reduce.specs.Kept.{beside, is_beside}
use Rattle.vector_reduce.specs.Vectors.{edge_at, edges_in, edges_of_all, led_between, pair_vectors, vectors_of}
use Rattle.vector_reduce.specs.Vectors.{vector_at, others_of, VectorsAreTheLog}

-- ---- joined lists

pub joined_all : (vs ws : List PairVector) → edges_of_all (vs ++ ws) ≡ edges_of_all vs ++ edges_of_all ws
joined_all vs ws = flat_map-append edges_in vs ws

pub all_left : (vs ws : List PairVector) (x y : Instr) → Among (edges_of_all vs) x y →
    Among (edges_of_all (vs ++ ws)) x y
all_left vs ws x y a = subst (λ (es : List Edge). Among es x y) (sym (joined_all vs ws))
    (among_left (edges_of_all vs) (edges_of_all ws) x y a)

pub all_right : (vs ws : List PairVector) (x y : Instr) → Among (edges_of_all ws) x y →
    Among (edges_of_all (vs ++ ws)) x y
all_right vs ws x y a = subst (λ (es : List Edge). Among es x y) (sym (joined_all vs ws))
    (among_right (edges_of_all vs) (edges_of_all ws) x y a)

pub all_cases : (vs ws : List PairVector) (x y : Instr) → Among (edges_of_all (vs ++ ws)) x y →
    Among (edges_of_all vs) x y ⊎ Among (edges_of_all ws) x y
all_cases vs ws x y a = among_cases (edges_of_all vs) (edges_of_all ws) x y
    (subst (λ (es : List Edge). Among es x y) (joined_all vs ws) a)

-- ---- one of the vectors has the edge

pub all_among : (vs : List PairVector) (x y : Instr) → Among (edges_of_all vs) x y → (j : ℕ) × (j < length vs) ×
    Among (edges_in (vector_at vs j)) x y
all_among [] x y a = absurd a
all_among (v ∷ vs) x y a = elim (among_cases (edges_in v) (edges_of_all vs) x y a) [
  | inl b ↦ (0, omega arith, b)
  | inr b ↦ let r = all_among vs x y b in (suc r.0, omega (arith, r.1), r.2)
]

pub among_all : (vs : List PairVector) (j : ℕ) (x y : Instr) → j < length vs → Among (edges_in (vector_at vs j)) x y →
    Among (edges_of_all vs) x y
among_all [] j x y lt a = absurd (omega (arith, lt))
among_all (v ∷ vs) zero x y lt a = among_left (edges_in v) (edges_of_all vs) x y a
among_all (v ∷ vs) (suc j) x y lt a =
    among_right (edges_in v) (edges_of_all vs) x y (among_all vs j x y (omega (arith, lt)) a)

-- ---- all vectors but one

pub others_among : (vs : List PairVector) (k : ℕ) (x y : Instr) → Among (edges_of_all (others_of vs k)) x y →
    (j : ℕ) × (j < length vs) × (j ≢ k) × Among (edges_in (vector_at vs j)) x y
others_among [] zero x y a = absurd a
others_among [] (suc k) x y a = absurd a
others_among (v ∷ vs) zero x y a = let r = all_among vs x y a in
    (suc r.0, omega (arith, r.1), (λ e. absurd (omega (arith, e))), r.2)
others_among (v ∷ vs) (suc k) x y a = elim (among_cases (edges_in v) (edges_of_all (others_of vs k)) x y a) [
  | inl b ↦ (0, omega arith, (λ e. absurd (omega (arith, e))), b)
  | inr b ↦ let r = others_among vs k x y b in (suc r.0, omega (arith, r.1), (λ e. r.2 (omega (arith, e))), r.3)
]

pub among_others : (vs : List PairVector) (k j : ℕ) (x y : Instr) → j < length vs → j ≢ k →
    Among (edges_in (vector_at vs j)) x y →
    Among (edges_of_all (others_of vs k)) x y
among_others [] k j x y lt ne a = absurd (omega (arith, lt))
among_others (v ∷ vs) zero zero x y lt ne a = absurd (ne refl)
among_others (v ∷ vs) zero (suc j) x y lt ne a = among_all vs j x y (omega (arith, lt)) a
among_others (v ∷ vs) (suc k) zero x y lt ne a = among_left (edges_in v) (edges_of_all (others_of vs k)) x y a
among_others (v ∷ vs) (suc k) (suc j) x y lt ne a =
    among_right (edges_in v) (edges_of_all (others_of vs k)) x y
    (among_others vs k j x y (omega (arith, lt)) (λ e. ne (ap suc e)) a)

-- ---- the others of the one that is tried

pub beside_among : (vs : List PairVector) (stays : List Bool) (x y : Instr) →
    Among (edges_of_all (beside vs stays)) x y →
    (j : ℕ) × (j < length vs) × (is_beside stays j ≡ true) × Among (edges_in (vector_at vs j)) x y
beside_among [] [] x y a = absurd a
beside_among [] (b ∷ stays) x y a = absurd a
beside_among (v ∷ vs) [] x y a = let r = all_among vs x y a in (suc r.0, omega (arith, r.1), refl, r.2)
beside_among (v ∷ vs) (true ∷ stays) x y a = elim (among_cases (edges_in v) (edges_of_all (beside vs stays)) x y a) [
  | inl b ↦ (0, omega arith, refl, b)
  | inr b ↦ let r = beside_among vs stays x y b in (suc r.0, omega (arith, r.1), r.2, r.3)
]
beside_among (v ∷ vs) (false ∷ stays) x y a = let r = beside_among vs stays x y a in
    (suc r.0, omega (arith, r.1), r.2, r.3)

pub among_beside : (vs : List PairVector) (stays : List Bool) (j : ℕ) (x y : Instr) → j < length vs →
    is_beside stays j ≡ true →
    Among (edges_in (vector_at vs j)) x y → Among (edges_of_all (beside vs stays)) x y
among_beside [] stays j x y lt is a = absurd (omega (arith, lt))
among_beside (v ∷ vs) [] zero x y lt is a = absurd cc
among_beside (v ∷ vs) [] (suc j) x y lt is a = among_all vs j x y (omega (arith, lt)) a
among_beside (v ∷ vs) (true ∷ stays) zero x y lt is a = among_left (edges_in v) (edges_of_all (beside vs stays)) x y a
among_beside (v ∷ vs) (true ∷ stays) (suc j) x y lt is a =
    among_right (edges_in v) (edges_of_all (beside vs stays)) x y (among_beside vs stays j x y (omega (arith, lt)) is a)
among_beside (v ∷ vs) (false ∷ stays) zero x y lt is a = absurd cc
among_beside (v ∷ vs) (false ∷ stays) (suc j) x y lt is a = among_beside vs stays j x y (omega (arith, lt)) is a

-- ---- the edges of one vector

-- the edge at each position
pub among_edge : (v : PairVector) (k : ℕ) → k < v.vector.n → Among (edges_in v) (edge_at v k).from (edge_at v k).to
among_edge v k lt =
    let placed = edges-placed v.vector in
    let there : Contains (edges_of v.vector) (position_of v.vector k) =
    (k, subst (λ (n : ℕ). k < n) (sym placed.0) lt, placed.1 k (position_of v.vector k) lt) in
    contains_among (edges_in v) (edge_at v k).from (edge_at v k).to
    (contains-map (edge_between v.from v.to) (edges_of v.vector) (position_of v.vector k) there)

-- and no other
pub edge_among : (v : PairVector) (x y : Instr) → Among (edges_in v) x y →
    (k : ℕ) × (k < v.vector.n) × ((edge_at v k).from ≡ x) × ((edge_at v k).to ≡ y)
edge_among v x y a =
    let placed = edges-placed v.vector in
    let m = map-contains (edge_between v.from v.to) (edges_of v.vector) (0, 0) (record { from = x; to = y })
    (among_contains (edges_in v) x y a) in
    let k = m.1.0 in
    let lt : k < v.vector.n = subst (λ (n : ℕ). k < n) placed.0 m.1.1 in
    let at : position_of v.vector k ≡ m.0 = sym (placed.1 k m.0 lt) ∙ m.1.2 in
    let same : edge_at v k ≡ record { from = x; to = y } = ap (edge_between v.from v.to) at ∙ m.2 in
    (k, lt, ap (λ (e : Edge). e.from) same, ap (λ (e : Edge). e.to) same)

-- ---- the log

pair_log : (from to : ℕ) (vs : List StrideVector) →
    edges_of_all (map (led_between from to) vs) ≡ map (edge_between from to) (flat_map edges_of vs)
pair_log from to [] = refl
pair_log from to (v ∷ vs) =
    ap (λ (l : List Edge). map (edge_between from to) (edges_of v) ++ l) (pair_log from to vs)
    ∙ sym (map-append (edge_between from to) (edges_of v) (flat_map edges_of vs))

log_of_places : (r : Recording) (places : List ℕ) →
    edges_of_all (flat_map (pair_vectors r) places) ≡ flat_map (edges_at Regulated r) places
log_of_places r [] = refl
log_of_places r (p ∷ ps) =
    joined_all (pair_vectors r p) (flat_map (pair_vectors r) ps)
    ∙ ap (λ (l : List Edge). l ++ edges_of_all (flat_map (pair_vectors r) ps))
    (pair_log (source_at r.params.cores p) (target_at r.params.cores p) (slice_index_or r.regulated p []))
    ∙ ap (λ (l : List Edge). edges_at Regulated r p ++ l) (log_of_places r ps)

pub vectors_are_the_log : VectorsAreTheLog
unfolding vectors_of log_edges
vectors_are_the_log r = log_of_places r (range_with_len 0 (pair_count r.params.cores))
