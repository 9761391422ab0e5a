-- Vectors that are kept, and the recording with them.
use Rattle.std.proofs.Common.{◌≡◌, ℕ, zero, suc, ◌+◌, ◌-◌, ◌*◌, ◌<◌, ◌≤◌, ◌^◌, List, [], ◌∷◌, ◌++◌, length, drop}
use Rattle.std.proofs.Common.{get_or, cond, refl}
use Rattle.std.proofs.Common.{sym, ap, subst, ◌∙◌, true, false}
use Rattle.std.proofs.Common.{arith}
use Rattle.std.specs.Prelude.{All, Bool, map, sum_by}
use Rattle.std.specs.List.{Contains, flat_map, range_with_len}
use Rattle.std.proofs.lemmas.List.{get_or_default, length-append, length-map}
use Rattle.std.proofs.lemmas.List.Elements.{Contains-get_or}
use Rattle.std.proofs.lemmas.List.FromFn.{get_or-range_with_len, length-range_with_len}
use Rattle.std.proofs.Math.Nat.{mul-le-mul_left}
use Rattle.std.proofs.lemmas.List.Sums.{sum_by-cons, sum_by-le}
use Rattle.rtr_types.specs.declared.params.Params.{Params}
use Rattle.rtr_types.specs.Pairs.{IsPair, pair_count, source_at, target_at}
use Rattle.rtr_types.specs.Parameters.{Fits}
use Rattle.rtr_types.proofs.PairPlaces.{places-paired}
use Rattle.stride_vector.specs.declared.StrideVector.{StrideVector}
use Rattle.stride_vector.specs.Vectors.{last_of}
use Rattle.race_log.specs.declared.recording.Recording.{Recording}
use Rattle.rtr_types.specs.Turns.{StandInTurn}
use Rattle.rtr_types.specs.PairEdges.{AreEdges}
use Rattle.race_log.specs.Validity.{AreVectors, Valid, VectorStands, bound_at, end_of}
use Rattle.race_log.proofs.Logs.{few_vectors, vector_small}
use Rattle.race_log.proofs.RisingSearch.{contains-flat, map-contains}
use Rattle.race_log.proofs.Parts as parts
use Rattle.race_log.proofs.CountedEdges.{few-pairs}
use Rattle.vector_reduce.specs.declared.pair_vector.PairVector.{PairVector}
use Rattle.vector_reduce.specs.Arrivals.{AreBetween, IsBetween}
use Rattle.vector_reduce.specs.Kept.{IsKeptOf, kept, kept_lists}
use Rattle.vector_reduce.specs.Vectors.{led_between, no_vector, pair_vectors, vectors_of, vector_at}

-- ---- lists

pub kept_none : {X : Type 0} (xs : List X) → kept xs [] ≡ []
kept_none [] = refl
kept_none (x ∷ xs) = refl

-- one answer more
pub kept_push : {X : Type 0} (xs : List X) (stays : List Bool) (b : Bool) (d : X) → length stays < length xs →
    kept xs (stays ++ b ∷ []) ≡ kept xs stays ++ cond b (get_or xs (length stays) d ∷ []) []
kept_push [] stays b d lt = absurd (omega (arith, lt))
kept_push (x ∷ xs) [] true d lt = ap (λ (l : List _). x ∷ l) (kept_none xs)
kept_push (x ∷ xs) [] false d lt = kept_none xs
kept_push (x ∷ xs) (true ∷ stays) b d lt = ap (λ (l : List _). x ∷ l) (kept_push xs stays b d (omega (arith, lt)))
kept_push (x ∷ xs) (false ∷ stays) b d lt = kept_push xs stays b d (omega (arith, lt))

-- of two lists, the first of which is made of another
kept_joined : {X Y : Type 0} (f : X → Y) (xs : List X) (ys : List Y) (stays : List Bool) →
    kept (map f xs ++ ys) stays ≡ map f (kept xs stays) ++ kept ys (drop (length xs) stays)
kept_joined f [] ys stays = refl
kept_joined f (x ∷ xs) ys [] = sym (kept_none ys)
kept_joined f (x ∷ xs) ys (true ∷ stays) = ap (λ (l : List _). f x ∷ l) (kept_joined f xs ys stays)
kept_joined f (x ∷ xs) ys (false ∷ stays) = kept_joined f xs ys stays

kept_length : {X : Type 0} (lists : List (List X)) (stays : List Bool) → length (kept_lists lists stays) ≡ length lists
kept_length [] stays = refl
kept_length (xs ∷ lists) stays = ap suc (kept_length lists (drop (length xs) stays))

-- each list is kept by some answers
kept_place : {X : Type 0} (lists : List (List X)) (stays : List Bool) (place : ℕ) →
    (own : List Bool) × (get_or (kept_lists lists stays) place [] ≡ kept (get_or lists place []) own)
kept_place [] stays place = ([], refl)
kept_place (xs ∷ lists) stays zero = (stays, refl)
kept_place (xs ∷ lists) stays (suc place) = kept_place lists (drop (length xs) stays) place

-- ---- vectors pair by pair

abbrev led_at : ℕ → ℕ → StrideVector → PairVector
led_at cores place v = led_between (source_at cores place) (target_at cores place) v

abbrev vectors_from : (cores place : ℕ) → List (List StrideVector) → List PairVector
vectors_from cores place [] = []
vectors_from cores place (vs ∷ lists) = map (led_at cores place) vs ++ vectors_from cores (place + 1) lists

by_place : (cores from : ℕ) (lists : List (List StrideVector)) (g : ℕ → List PairVector) →
    ((k : ℕ) → k < length lists → g (from + k) ≡ map (led_at cores (from + k)) (get_or lists k [])) →
    flat_map g (range_with_len from (length lists)) ≡ vectors_from cores from lists
by_place cores from [] g same = refl
by_place cores from (vs ∷ lists) g same =
    let none : from + 0 ≡ from = omega arith in
    let first : g from ≡ map (led_at cores from) vs =
    subst (λ (p : ℕ). g p ≡ map (led_at cores p) vs) none (same 0 (omega arith)) in
    let others = by_place cores (from + 1) lists g (λ k lt. let place : from + suc k ≡ from + 1 + k = omega arith in
    subst (λ (p : ℕ). g p ≡ map (led_at cores p) (get_or lists k [])) place (same (suc k) (omega (arith, lt)))) in
    ap (λ (l : List PairVector). l ++ flat_map g (range_with_len (from + 1) (length lists))) first
    ∙ ap (λ (l : List PairVector). map (led_at cores from) vs ++ l) others

pub vectors_are : (r : Recording) → length r.regulated ≡ pair_count r.params.cores →
    vectors_of r ≡ vectors_from r.params.cores 0 r.regulated
unfolding vectors_of
vectors_are r all =
    ap (λ (n : ℕ). flat_map (pair_vectors r) (range_with_len 0 n)) (sym all)
    ∙ by_place r.params.cores 0 r.regulated (pair_vectors r) (λ k lt. let place : 0 + k ≡ k = omega arith in
    ap (λ (p : ℕ). map (led_at r.params.cores (0 + k)) (get_or r.regulated p [])) place)

kept_from : (cores place : ℕ) (lists : List (List StrideVector)) (stays : List Bool) →
    vectors_from cores place (kept_lists lists stays) ≡ kept (vectors_from cores place lists) stays
kept_from cores place [] stays = refl
kept_from cores place (vs ∷ lists) stays =
    ap (λ (l : List PairVector). map (led_at cores place) (kept vs stays) ++ l)
    (kept_from cores (place + 1) lists (drop (length vs) stays))
    ∙ sym (kept_joined (led_at cores place) vs (vectors_from cores (place + 1) lists) stays)

count_from : (cores place : ℕ) (lists : List (List StrideVector)) →
    length (vectors_from cores place lists) ≡ sum_by (λ vs. length vs) lists
count_from cores place [] = refl
count_from cores place (vs ∷ lists) =
    let both = length-append (map (led_at cores place) vs) (vectors_from cores (place + 1) lists) in
    let first = length-map vs (led_at cores place) in
    let others = count_from cores (place + 1) lists in
    let sum = sum_by-cons (λ (l : List StrideVector). length l) vs lists in
    omega (arith, both, first, others, sum)

pub vectors_counted : (r : Recording) → Valid r → length (vectors_of r) ≡ sum_by (λ vs. length vs) r.regulated
vectors_counted r valid = ap length (vectors_are r valid.each_regulated) ∙ count_from r.params.cores 0 r.regulated

-- ---- vectors that are kept stand

abbrev Below : ℕ × ℕ → ℕ × ℕ → Type 0
Below a b = (a.0 ≤ b.0) × (a.1 ≤ b.1)

stands_lower : (most last lower : ℕ × ℕ) (v : StrideVector) → Below lower last → VectorStands most last v →
    VectorStands most lower v
stands_lower most last lower v below h = record {
  some = h.some;
  source_rises = let a = h.source_rises in let b = below.0 in omega (arith, a, b);
  target_rises = let a = h.target_rises in let b = below.1 in omega (arith, a, b);
  source_stride = h.source_stride;
  target_stride = h.target_stride;
  no_source_stride = h.no_source_stride;
  no_target_stride = h.no_target_stride;
  source_most = h.source_most;
  target_most = h.target_most;
}

ends_higher : (most last lower : ℕ × ℕ) (v : StrideVector) → Below lower last → VectorStands most last v →
    Below lower (last_of v)
ends_higher most last lower v below h =
    let a = h.source_rises in
    let b = h.target_rises in
    let c = below.0 in
    let d = below.1 in
    (omega (arith, a, c), omega (arith, b, d))

same_below : (a : ℕ × ℕ) → Below a a
same_below a = (omega arith, omega arith)

kept_stand : (most last lower : ℕ × ℕ) (vs : List StrideVector) (stays : List Bool) → Below lower last →
    StandInTurn (VectorStands most) end_of last vs → StandInTurn (VectorStands most) end_of lower (kept vs stays)
kept_stand most last lower [] stays below h = tt
kept_stand most last lower (v ∷ vs) [] below h = tt
kept_stand most last lower (v ∷ vs) (true ∷ stays) below h = (
  stands_lower most last lower v below h.0,
  kept_stand most (last_of v) (last_of v) vs stays (same_below (last_of v)) h.1,
)
kept_stand most last lower (v ∷ vs) (false ∷ stays) below h =
    kept_stand most (last_of v) lower vs stays (ends_higher most last lower v below h.0) h.1

pub kept_valid : (r s : Recording) (stays : List Bool) → Valid r → IsKeptOf r stays s → Valid s
kept_valid r s stays valid k = record {
  params = subst Fits (sym k.rest.params) valid.params;
  image = subst (λ (i : List ℕ). length i ≤ 4 * s.params.words) (sym k.rest.image)
      (subst (λ (p : Params). length r.image ≤ 4 * p.words) (sym k.rest.params) valid.image);
  each_core = ap length k.rest.totals ∙ valid.each_core ∙ ap (λ (p : Params). p.cores) (sym k.rest.params);
  totals = subst (λ (t : List ℕ). All (λ n. n ≤ s.params.limit) t) (sym k.rest.totals)
      (subst (λ (p : Params). All (λ n. n ≤ p.limit) r.totals) (sym k.rest.params) valid.totals);
  each_reduced = ap length k.rest.reduced ∙ valid.each_reduced
      ∙ ap (λ (p : Params). pair_count p.cores) (sym k.rest.params);
  reduced = λ place lt. subst (λ (l : List (List (ℕ × ℕ))). AreEdges (bound_at s.totals place) (get_or l place []))
      (sym k.rest.reduced)
      (subst (λ (t : List ℕ). AreEdges (bound_at t place) (get_or r.reduced place [])) (sym k.rest.totals)
      (valid.reduced place (inside place lt)));
  each_regulated = ap length k.regulated ∙ kept_length r.regulated stays ∙ valid.each_regulated
      ∙ ap (λ (p : Params). pair_count p.cores) (sym k.rest.params);
  regulated = λ place lt.
      let own = kept_place r.regulated stays place in
      subst (λ (t : List ℕ). AreVectors (bound_at t place) (get_or s.regulated place [])) (sym k.rest.totals)
      (subst (λ (l : List StrideVector). AreVectors (bound_at r.totals place) l)
      (sym (ap (λ (l : List (List StrideVector)). get_or l place []) k.regulated ∙ own.1))
      (kept_stand (bound_at r.totals place) (0, 0) (0, 0) (get_or r.regulated place []) own.0 (same_below (0, 0))
      (valid.regulated place (inside place lt))));
}
  where
    inside : (place : ℕ) → place < pair_count s.params.cores → place < pair_count r.params.cores
    inside place lt = subst (λ (p : Params). place < pair_count p.cores) k.rest.params lt

pub kept_vectors : (r s : Recording) (stays : List Bool) → Valid r → IsKeptOf r stays s →
    vectors_of s ≡ kept (vectors_of r) stays
kept_vectors r s stays valid k =
    vectors_are s (kept_valid r s stays valid k).each_regulated
    ∙ ap (λ (l : List (List StrideVector)). vectors_from s.params.cores 0 l) k.regulated
    ∙ ap (λ (p : Params). vectors_from p.cores 0 (kept_lists r.regulated stays)) k.rest.params
    ∙ kept_from r.params.cores 0 r.regulated stays
    ∙ ap (λ (l : List PairVector). kept l stays) (sym (vectors_are r valid.each_regulated))

-- ---- the vectors of a valid recording

stand_each : (most last : ℕ × ℕ) (vs : List StrideVector) → StandInTurn (VectorStands most) end_of last vs →
    (w : StrideVector) → Contains vs w →
    (before : ℕ × ℕ) × VectorStands most before w
stand_each most last [] h w (k, lt, is) = absurd (omega (arith, lt))
stand_each most last (v ∷ vs) h w (zero, lt, is) = (last, subst (λ (u : StrideVector). VectorStands most last u) is h.0)
stand_each most last (v ∷ vs) h w (suc k, lt, is) = stand_each most (last_of v) vs h.1 w (k, omega (arith, lt), is)

-- the pair's place and the vector there
record Placed (r : Recording) (v : PairVector) : Type 0 where
  place : ℕ
  within : place < pair_count r.params.cores
  before : ℕ × ℕ
  stands : VectorStands (bound_at r.totals place) before v.vector
  from : v.from ≡ source_at r.params.cores place
  to : v.to ≡ target_at r.params.cores place

placed : (r : Recording) (v : PairVector) → Valid r → Contains (vectors_of r) v → Placed r v
unfolding vectors_of
placed r v valid has =
    let n = pair_count r.params.cores in
    let f = contains-flat (pair_vectors r) (range_with_len 0 n) 0 v has in
    let lt : f.0 < n = subst (λ (m : ℕ). f.0 < m) (length-range_with_len 0 n) f.1 in
    let is : get_or (range_with_len 0 n) f.0 0 ≡ f.0 = get_or-range_with_len 0 n f.0 0 lt ∙ plus f.0 in
    let at : Contains (pair_vectors r f.0) v = subst (λ (p : ℕ). Contains (pair_vectors r p) v) is f.2 in
    let m = map-contains (led_between (source_at r.params.cores f.0) (target_at r.params.cores f.0))
    (get_or r.regulated f.0 []) (no_vector.vector) v at in
    let s = stand_each (bound_at r.totals f.0) (0, 0) (get_or r.regulated f.0 []) (valid.regulated f.0 lt) m.0 m.1 in
    record {
      place = f.0;
      within = lt;
      before = s.0;
      stands = subst (λ (u : PairVector). VectorStands (bound_at r.totals f.0) s.0 u.vector) m.2 s.1;
      from = ap (λ (u : PairVector). u.from) (sym m.2);
      to = ap (λ (u : PairVector). u.to) (sym m.2);
    }
  where
    plus : (i : ℕ) → 0 + i ≡ i
    plus i = omega arith

between_placed : (r : Recording) (v : PairVector) → Valid r → Placed r v → IsBetween r.params.cores v
between_placed r v valid p = record {
  vector = record {
    some = p.stands.some;
    source_rises = p.stands.source_stride;
    target_rises = p.stands.target_stride;
    source_fits = let a = p.stands.source_most in let b = small.0 in omega (arith, a, b);
    target_fits = let a = p.stands.target_most in let b = small.1 in omega (arith, a, b);
  };
  pair = subst (λ (c : ℕ). IsPair r.params.cores c v.to) (sym p.from)
      (subst (λ (c : ℕ). IsPair r.params.cores (source_at r.params.cores p.place) c) (sym p.to)
      (places-paired r.params.cores p.place p.within).0);
  some_source = let a = p.stands.source_rises in omega (arith, a);
  some_target = let a = p.stands.target_rises in omega (arith, a);
}
  where
    small : ((bound_at r.totals p.place).0 < 2 ^ 32) × ((bound_at r.totals p.place).1 < 2 ^ 32)
    small = parts.totals_small r p.place valid

pub vectors_between : (r : Recording) → Valid r → AreBetween r.params.cores (vectors_of r)
vectors_between r valid k lt =
    between_placed r (vector_at (vectors_of r) k) valid
    (placed r (vector_at (vectors_of r) k) valid (Contains-get_or (vectors_of r) k no_vector lt))

-- a position's number can be spelled
pub positions_small : (r : Recording) (k : ℕ) → Valid r → k < length (vectors_of r) →
    (vector_at (vectors_of r) k).vector.n < 2 ^ 32
positions_small r k valid lt =
    let v = vector_at (vectors_of r) k in
    let p = placed r v valid (Contains-get_or (vectors_of r) k no_vector lt) in
    let n = (vector_small (bound_at r.totals p.place) p.before v.vector p.stands).n in
    let small = (parts.totals_small r p.place valid).0 in
    omega (arith, n, small)

-- more cores
pub between_more : (cores most : ℕ) (vs : List PairVector) → cores ≤ most → AreBetween cores vs → AreBetween most vs
between_more cores most vs le b k lt =
    let h = b k lt in
    record {
      vector = h.vector;
      pair = let a = h.pair.source in let c = h.pair.target in
          record { source = omega (arith, a, le); target = omega (arith, c, le); differ = h.pair.differ };
      some_source = h.some_source;
      some_target = h.some_target;
    }

-- ---- how many there may be

sum_small : (r : Recording) → Valid r →
    sum_by (λ (vs : List StrideVector). length vs) r.regulated ≤ length r.regulated * r.params.limit
sum_small r v = sum_by-le (λ (vs : List StrideVector). length vs) r.params.limit r.regulated (λ place d lt.
    let are = v.regulated place (subst (λ (n : ℕ). place < n) v.each_regulated lt) in
    let count = few_vectors (bound_at r.totals place) (get_or r.regulated place []) are in
    let most = parts.bound-most r place v in
    subst (λ (vs : List StrideVector). length vs ≤ r.params.limit) (get_or_default r.regulated place [] d lt)
    (omega (arith, count, most)))

pub vectors_fit : (r : Recording) → Valid r → sum_by (λ (vs : List StrideVector). length vs) r.regulated < 2 ^ 32 - 1
vectors_fit r v =
    let sum = sum_small r v in
    let params = v.params.cores in
    let limit = v.params.limit in
    let each = v.each_regulated in
    let few = few-pairs r.params.cores params in
    let pairs : length r.regulated ≤ 256 = omega (arith, few, each) in
    let one = mul-le-mul_left {m = r.params.limit} {n = 1000000} (length r.regulated) limit in
    let two = mul-le-mul_left {m = length r.regulated} {n = 256} 1000000 pairs in
    omega (arith, sum, one, two)

pub few_in_all : (r : Recording) → Valid r → length (vectors_of r) < 2 ^ 32 - 1
few_in_all r v = let a = vectors_fit r v in let b = vectors_counted r v in omega (arith, a, b)
