-- The edges of a log are counted pair by pair.
use Rattle.std.proofs.Common.{◌≡◌, ◌∙◌, refl, sym, ap, ℕ, suc, ◌+◌, ◌<◌, List, [], ◌∷◌, length, get_or, arith}
use Rattle.std.specs.Prelude.{sum_by}
use Rattle.std.specs.List.{flat_map, range_with_len}
use Rattle.std.proofs.lemmas.List.{length-map}
use Rattle.std.proofs.lemmas.List.Concat.{length-flat_map}
use Rattle.std.proofs.lemmas.List.Sums.{sum_by-cons}
use Rattle.rtr_types.specs.Pairs.{pair_count, source_at, target_at}
use Rattle.rtr_types.specs.declared.pairs.Which.{Which}
use Rattle.rtr_types.specs.declared.pairs.Which.TheVariants.{Reduced, Regulated}
use Rattle.stride_vector.specs.declared.StrideVector.{StrideVector}
use Rattle.stride_vector.specs.Vectors.{edges_of}
use Rattle.stride_vector.proofs.Sources.{edges-placed}
use Rattle.race_log.specs.Counts.{position_count}
use Rattle.race_log.specs.Sources.{EdgesCounted, edge_between, edges_at, log_edges, edges_of_pair}
use Rattle.race_log.specs.declared.recording.Recording.{Recording}

-- sums of equal numbers
sums_same : {X : Type 0} (f g : X → ℕ) (xs : List X) → ((x : X) → f x ≡ g x) → sum_by f xs ≡ sum_by g xs
sums_same f g [] same = refl
sums_same f g (x ∷ xs) same =
    let head = same x in
    let tail = sums_same f g xs same in
    let left = sum_by-cons f x xs in
    let right = sum_by-cons g x xs in
    omega (arith, head, tail, left, right)

-- the sum over the places of a list is the sum over the list
sum_over_places : {X : Type 0} (f : X → ℕ) (g : ℕ → ℕ) (xs : List X) (d : X) (from : ℕ)
    → ((k : ℕ) → k < length xs → g (from + k) ≡ f (get_or xs k d))
    → sum_by g (range_with_len from (length xs)) ≡ sum_by f xs
sum_over_places f g [] d from same = refl
sum_over_places f g (x ∷ xs) d from same =
    let first : from + 0 ≡ from = omega arith in
    let head : g from ≡ f x = ap g (sym first) ∙ same 0 (omega arith) in
    let tail : sum_by g (range_with_len (from + 1) (length xs)) ≡ sum_by f xs =
    sum_over_places f g xs d (from + 1) (λ k lt.
    let place : from + 1 + k ≡ from + suc k = omega arith in ap g place ∙ same (suc k) (omega (arith, lt))) in
    let left = sum_by-cons g from (range_with_len (from + 1) (length xs)) in
    let right = sum_by-cons f x xs in
    omega (arith, head, tail, left, right)

-- the edges of a pair's vectors are their positions
vector_edges : (vectors : List StrideVector) → length (flat_map edges_of vectors) ≡ position_count vectors
vector_edges vectors =
    length-flat_map edges_of vectors
    ∙ sums_same (λ v. length (edges_of v)) (λ (v : StrideVector). v.n) vectors (λ v. (edges-placed v).0)

-- a log's edges, pair by pair
by_place : (which : Which) (r : Recording)
    → length (log_edges which r)
    ≡ sum_by (λ place. length (edges_of_pair which r place)) (range_with_len 0 (pair_count r.params.cores))
unfolding log_edges
by_place which r =
    let places : List ℕ = range_with_len 0 (pair_count r.params.cores) in
    length-flat_map (edges_at which r) places
    ∙ sums_same (λ place. length (edges_at which r place)) (λ place. length (edges_of_pair which r place)) places
    (λ place. length-map (edges_of_pair which r place)
    (edge_between (source_at r.params.cores place) (target_at r.params.cores place)))

pub edges-counted : EdgesCounted
edges-counted Reduced r valid =
    by_place Reduced r
    ∙ ap (λ n. sum_by (λ place. length (edges_of_pair Reduced r place)) (range_with_len 0 n)) (sym valid.each_reduced)
    ∙ sum_over_places (λ (edges : List (ℕ × ℕ)). length edges) (λ place. length (edges_of_pair Reduced r place))
    r.reduced [] 0
    (λ k lt. let place : 0 + k ≡ k = omega arith in ap (λ i. length (get_or r.reduced i [])) place)
edges-counted Regulated r valid =
    by_place Regulated r
    ∙ ap (λ n. sum_by (λ place. length (edges_of_pair Regulated r place)) (range_with_len 0 n))
    (sym valid.each_regulated)
    ∙ sum_over_places position_count (λ place. length (edges_of_pair Regulated r place)) r.regulated [] 0
    (λ k lt.
    let place : 0 + k ≡ k = omega arith in
    ap (λ i. length (flat_map edges_of (get_or r.regulated i []))) place ∙ vector_edges (get_or r.regulated k []))
