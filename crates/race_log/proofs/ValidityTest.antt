-- Validity as a test, and by pair.
use Rattle.std.proofs.Common.{◌≡◌, ℕ, ◌*◌, ◌≤◌, ◌&&◌, Bool, true, nat_lt, nat_le, nat_eq, List, [], length, get_or}
use Rattle.std.proofs.Common.{refl, sym, ap, subst, ◌∙◌, arith}
use Rattle.std.specs.Prelude.{slice_index}
use Rattle.std.proofs.lemmas.Bool.Decides.{nat_tests}
use Rattle.std.proofs.lemmas.Bool.{eqb-true, eq-eqb, leb-true, le-leb, and_parts}
use Rattle.rtr_types.specs.Pairs.{IsPair, pair_count, pair_place, source_at, target_at}
use Rattle.rtr_types.proofs.PairPlaces.{pairs-placed}
use Rattle.stride_vector.specs.declared.StrideVector.{StrideVector}
use Rattle.race_log.specs.declared.recording.Recording.{Recording}
use Rattle.rtr_types.specs.Turns.{stand_in_turn, stay, follow, count_up}
use Rattle.race_log.specs.Validity.{fits_run}
use Rattle.rtr_types.specs.PairEdges.{EdgeStands, AreEdges}
use Rattle.race_log.specs.Validity.{Valid, is_valid, total_stands, bound_at, edge_stands, are_edges, VectorStands}
use Rattle.race_log.specs.Validity.{AreVectors}
use Rattle.race_log.specs.Validity.{vector_stands, are_vectors, end_of}
use Rattle.race_log.specs.Laws.{ValidTest, EdgesByPair, VectorsByPair}
use Rattle.race_log.proofs.InTurn.{stand-true, true-stand, stand-all, all-stand}
use Rattle.race_log.proofs.Limits.{run-true, true-run}
use Rattle.race_log.proofs.Logs.{vector-true, true-vector}
use Rattle.race_log.proofs.Parts.{all-placed, placed-all}
use Rattle.race_log.proofs.Parts.{valid-made, edges-placed, vectors-stand}

-- ---- by pair

-- the bound at a pair's place is of its own two totals
bound_by_pair : (r : Recording) (from to : ℕ) → Valid r → IsPair r.params.cores from to →
    bound_at r.totals (pair_place r.params.cores from to) ≡ (slice_index r.totals from, slice_index r.totals to)
bound_by_pair r from to v pair =
    let place = pair_place r.params.cores from to in
    let p = pairs-placed r.params.cores from to pair in
    ap (λ (n : ℕ). (slice_index r.totals (source_at n place), slice_index r.totals (target_at n place))) v.each_core
    ∙ ap (λ (k : ℕ). (slice_index r.totals k, slice_index r.totals (target_at r.params.cores place))) p.1
    ∙ ap (λ (k : ℕ). (slice_index r.totals from, slice_index r.totals k)) p.2

pub edges_by_pair : EdgesByPair
edges_by_pair r from to v pair =
    let place = pair_place r.params.cores from to in
    subst (λ (most : ℕ × ℕ). AreEdges most (get_or r.reduced place [])) (bound_by_pair r from to v pair)
    (v.reduced place (pairs-placed r.params.cores from to pair).0)

pub vectors_by_pair : VectorsByPair
vectors_by_pair r from to v pair =
    let place = pair_place r.params.cores from to in
    subst (λ (most : ℕ × ℕ). AreVectors most (get_or r.regulated place [])) (bound_by_pair r from to v pair)
    (v.regulated place (pairs-placed r.params.cores from to pair).0)

-- ---- as a test

edge-true : (most last e : ℕ × ℕ) → edge_stands most last e ≡ true → EdgeStands most last e
edge-true most last e h =
    let p = and_parts (nat_lt last.0 e.0 && nat_lt last.1 e.1) (nat_le e.0 most.0 && nat_le e.1 most.1) h in
    let q = and_parts (nat_lt last.0 e.0) (nat_lt last.1 e.1) p.0 in
    let s = and_parts (nat_le e.0 most.0) (nat_le e.1 most.1) p.1 in
    let q0 = q.0 in let q1 = q.1 in let s0 = s.0 in let s1 = s.1 in
    record {
      rises = record { source = grind (arith, nat_tests); target = grind (arith, nat_tests) };
      source_most = grind (arith, nat_tests);
      target_most = grind (arith, nat_tests);
    }

true-edge : (most last e : ℕ × ℕ) → EdgeStands most last e → edge_stands most last e ≡ true
true-edge most last e h =
    let h0 = h.rises.source in let h1 = h.rises.target in let h2 = h.source_most in let h3 = h.target_most in
    let a : nat_lt last.0 e.0 ≡ true = grind (arith, nat_tests) in
    let b : nat_lt last.1 e.1 ≡ true = grind (arith, nat_tests) in
    let c : nat_le e.0 most.0 ≡ true = grind (arith, nat_tests) in
    let d : nat_le e.1 most.1 ≡ true = grind (arith, nat_tests) in
    rw (a, b, c, d) refl

total-true : (limit : ℕ) (s : Unit {0}) (t : ℕ) → total_stands limit s t ≡ true → t ≤ limit
total-true limit s t h = grind (arith, nat_tests)

true-total : (limit : ℕ) (s : Unit {0}) (t : ℕ) → t ≤ limit → total_stands limit s t ≡ true
true-total limit s t h = grind (arith, nat_tests)

edges-true : (most : ℕ × ℕ) (edges : List (ℕ × ℕ)) → are_edges most edges ≡ true → AreEdges most edges
edges-true most edges h =
    stand-true (EdgeStands most) (edge_stands most) follow (λ s x e. edge-true most s x e) (0, 0) edges h

true-edges : (most : ℕ × ℕ) (edges : List (ℕ × ℕ)) → AreEdges most edges → are_edges most edges ≡ true
true-edges most edges h =
    true-stand (EdgeStands most) (edge_stands most) follow (λ s x e. true-edge most s x e) (0, 0) edges h

vectors-true : (most : ℕ × ℕ) (vectors : List StrideVector) → are_vectors most vectors ≡ true → AreVectors most vectors
vectors-true most vectors h =
    stand-true (VectorStands most) (vector_stands most) end_of (λ s x e. vector-true most s x e) (0, 0) vectors h

true-vectors : (most : ℕ × ℕ) (vectors : List StrideVector) → AreVectors most vectors → are_vectors most vectors ≡ true
true-vectors most vectors h =
    true-stand (VectorStands most) (vector_stands most) end_of (λ s x e. true-vector most s x e) (0, 0) vectors h

-- the tests of the parts
abbrev first_test : Recording → Bool
first_test r = fits_run r.params && nat_le (length r.image) (4 * r.params.words)

abbrev totals_test : Recording → Bool
totals_test r = nat_eq (length r.totals) r.params.cores && stand_in_turn (total_stands r.params.limit) stay tt r.totals

abbrev reduced_test : Recording → Bool
reduced_test r = nat_eq (length r.reduced) (pair_count r.params.cores)
    && stand_in_turn (λ place es. are_edges (bound_at r.totals place) es) count_up 0 r.reduced

abbrev regulated_test : Recording → Bool
regulated_test r = nat_eq (length r.regulated) (pair_count r.params.cores)
    && stand_in_turn (λ place vs. are_vectors (bound_at r.totals place) vs) count_up 0 r.regulated

tested : (r : Recording) → is_valid r ≡ true → Valid r
tested r h =
    let a = and_parts (first_test r) (totals_test r && (reduced_test r && regulated_test r)) h in
    let b = and_parts (totals_test r) (reduced_test r && regulated_test r) a.1 in
    let c = and_parts (reduced_test r) (regulated_test r) b.1 in
    let first = and_parts (fits_run r.params) (nat_le (length r.image) (4 * r.params.words)) a.0 in
    let totals = and_parts (nat_eq (length r.totals) r.params.cores)
    (stand_in_turn (total_stands r.params.limit) stay tt r.totals) b.0 in
    let reduced = and_parts (nat_eq (length r.reduced) (pair_count r.params.cores))
    (stand_in_turn (λ place es. are_edges (bound_at r.totals place) es) count_up 0 r.reduced) c.0 in
    let regulated = and_parts (nat_eq (length r.regulated) (pair_count r.params.cores))
    (stand_in_turn (λ place vs. are_vectors (bound_at r.totals place) vs) count_up 0 r.regulated) c.1 in
    let each = eqb-true (length r.totals) r.params.cores totals.0 in
    let back : pair_count r.params.cores ≡ pair_count (length r.totals) = ap (λ (n : ℕ). pair_count n) (sym each) in
    let long : length r.reduced ≡ pair_count (length r.totals) =
    eqb-true (length r.reduced) (pair_count r.params.cores) reduced.0 ∙ back in
    valid-made r.params r.image r.totals r.reduced r.regulated (run-true r.params first.0)
    (leb-true (length r.image) (4 * r.params.words) first.1) each
    (stand-all (λ (t : ℕ). t ≤ r.params.limit) r.totals
    (stand-true (λ (s : Unit {0}) t. t ≤ r.params.limit) (total_stands r.params.limit) stay (total-true r.params.limit)
    tt r.totals totals.1))
    long
    (all-placed r.totals r.reduced long
    (stand-true (λ place es. AreEdges (bound_at r.totals place) es) (λ place es. are_edges (bound_at r.totals place) es)
    count_up
    (λ place es e. edges-true (bound_at r.totals place) es e) 0 r.reduced reduced.1))
    (eqb-true (length r.regulated) (pair_count r.params.cores) regulated.0 ∙ back)
    (stand-true (λ place vs. AreVectors (bound_at r.totals place) vs)
    (λ place vs. are_vectors (bound_at r.totals place) vs) count_up
    (λ place vs e. vectors-true (bound_at r.totals place) vs e) 0 r.regulated regulated.1)

passes : (r : Recording) → Valid r → is_valid r ≡ true
passes r v =
    let a = true-run r.params v.params in
    let b = le-leb (length r.image) (4 * r.params.words) v.image in
    let c = eq-eqb (length r.totals) r.params.cores v.each_core in
    let d = true-stand (λ (s : Unit {0}) t. t ≤ r.params.limit) (total_stands r.params.limit) stay
    (true-total r.params.limit) tt r.totals
    (all-stand (λ (t : ℕ). t ≤ r.params.limit) r.totals v.totals) in
    let e = eq-eqb (length r.reduced) (pair_count r.params.cores) v.each_reduced in
    let f = true-stand (λ place es. AreEdges (bound_at r.totals place) es)
    (λ place es. are_edges (bound_at r.totals place) es) count_up
    (λ place es h. true-edges (bound_at r.totals place) es h) 0 r.reduced
    (placed-all r.totals r.reduced (v.each_reduced ∙ ap (λ (n : ℕ). pair_count n) (sym v.each_core)) (edges-placed r v))
    in
    let g = eq-eqb (length r.regulated) (pair_count r.params.cores) v.each_regulated in
    let h = true-stand (λ place vs. AreVectors (bound_at r.totals place) vs)
    (λ place vs. are_vectors (bound_at r.totals place) vs) count_up
    (λ place vs i. true-vectors (bound_at r.totals place) vs i) 0 r.regulated (vectors-stand r v) in
    all_true (fits_run r.params) (nat_le (length r.image) (4 * r.params.words))
    (nat_eq (length r.totals) r.params.cores)
    (stand_in_turn (total_stands r.params.limit) stay tt r.totals)
    (nat_eq (length r.reduced) (pair_count r.params.cores))
    (stand_in_turn (λ place es. are_edges (bound_at r.totals place) es) count_up 0 r.reduced)
    (nat_eq (length r.regulated) (pair_count r.params.cores))
    (stand_in_turn (λ place vs. are_vectors (bound_at r.totals place) vs) count_up 0 r.regulated) a b c d e f g h
  where
    all_true : (a b c d e f g h : Bool) → a ≡ true → b ≡ true → c ≡ true → d ≡ true → e ≡ true → f ≡ true → g ≡ true →
        h ≡ true →
        (a && b) && ((c && d) && ((e && f) && (g && h))) ≡ true
    all_true a b c d e f g h pa pb pc pd pe pf pg ph = rw (pa, pb, pc, pd, pe, pf, pg, ph) refl

pub valid_test : ValidTest
valid_test r = (tested r, passes r)
