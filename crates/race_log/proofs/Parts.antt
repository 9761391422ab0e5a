-- The parts of a valid recording: their bounds, and the lists of all pairs by place and in turn.
use Rattle.std.proofs.Common.{◌≡◌, ℕ, ◌+◌, ◌*◌, ◌^◌, ◌<◌, ◌≤◌, inl, inr}
use Rattle.std.proofs.Common.{List, [], length, get_or, sym, ap, subst, ◌∙◌}
use Rattle.std.proofs.Common.{arith}
use Rattle.std.specs.Prelude.{All}
use Rattle.std.proofs.lemmas.Bool.{cases_lt}
use Rattle.std.proofs.lemmas.List.{get_or_past}
use Rattle.rtr_types.specs.Pairs.{pair_count, source_at, target_at}
use Rattle.rtr_types.specs.Turns.{StandInTurn, follow, count_up}
use Rattle.rtr_types.specs.PairEdges.{AreEdges, EdgeRises, EdgeStands}
use Rattle.race_log.specs.Validity.{bound_at, Valid, AreVectors, IsListed}
use Rattle.race_log.proofs.InTurn.{stand-map, stand-places, places-stand}
use Rattle.race_log.proofs.Logs.{few_edges, few_vectors}
use Rattle.rtr_types.specs.declared.params.Params.{Params}
use Rattle.stride_vector.specs.declared.StrideVector.{StrideVector}
use Rattle.race_log.specs.declared.recording.Recording.{Recording}
use Rattle.rtr_types.specs.Parameters.{Fits}

-- ---- bounds

-- a total that is looked up is at most the limit
pub total-small : (limit : ℕ) (totals : List ℕ) (j : ℕ) → All (λ t. t ≤ limit) totals → get_or totals j 0 ≤ limit
total-small limit totals j h = elim (cases_lt j (length totals)) [
  | inl lt ↦ h j 0 lt
  | inr le ↦ rw (get_or_past totals j 0 le) (omega arith)
]

-- the bounds of a pair are numbers of 32 bits
pub record BoundSmall (most : ℕ × ℕ) : Type 0 where
  pub source : most.0 < 2 ^ 32
  pub target : most.1 < 2 ^ 32

pub bound-small : (limit : ℕ) (totals : List ℕ) (place : ℕ) → limit < 2 ^ 32 → All (λ t. t ≤ limit) totals →
    BoundSmall (bound_at totals place)
bound-small limit totals place small h =
    let a = total-small limit totals (source_at (length totals) place) h in
    let b = total-small limit totals (target_at (length totals) place) h in
    record { source = omega arith; target = omega arith }

-- ---- pair by pair

-- the edges of each pair stand in turn
abbrev pub AllStand : List ℕ → List (List (ℕ × ℕ)) → Type 0
AllStand totals reduced = StandInTurn (λ place es. AreEdges (bound_at totals place) es) count_up 0 reduced

-- the edges of each pair, by place
abbrev pub AllEdges : List ℕ → List (List (ℕ × ℕ)) → Type 0
AllEdges totals reduced = (place : ℕ) → place < pair_count (length totals) →
    AreEdges (bound_at totals place) (get_or reduced place [])

pub all-placed : (totals : List ℕ) (reduced : List (List (ℕ × ℕ))) → length reduced ≡ pair_count (length totals) →
    AllStand totals reduced →
    AllEdges totals reduced
all-placed totals reduced long h place below =
    let same : 0 + place ≡ place = omega arith in
    subst (λ (k : ℕ). AreEdges (bound_at totals k) (get_or reduced place [])) same
    (stand-places (λ place es. AreEdges (bound_at totals place) es) 0 reduced h place []
    (subst (λ (n : ℕ). place < n) (sym long) below))

pub placed-all : (totals : List ℕ) (reduced : List (List (ℕ × ℕ))) → length reduced ≡ pair_count (length totals) →
    AllEdges totals reduced →
    AllStand totals reduced
placed-all totals reduced long are =
    places-stand (λ place es. AreEdges (bound_at totals place) es) 0 reduced [] (λ i lt.
    let same : i ≡ 0 + i = omega arith in
    subst (λ (k : ℕ). AreEdges (bound_at totals k) (get_or reduced i [])) same
    (are i (subst (λ (n : ℕ). i < n) long lt)))

-- ---- the parts together

abbrev pub made_of : Params → List ℕ → List ℕ → List (List (ℕ × ℕ)) → List (List StrideVector) → Recording
made_of params image totals reduced regulated =
    record { params = params; image = image; totals = totals; reduced = reduced; regulated = regulated }

-- a recording of valid parts
pub valid-made : (p : Params) (image totals : List ℕ) (reduced : List (List (ℕ × ℕ)))
    (regulated : List (List StrideVector)) → Fits p →
    length image ≤ 4 * p.words → length totals ≡ p.cores → All (λ t. t ≤ p.limit) totals
    → length reduced ≡ pair_count (length totals) → AllEdges totals reduced
    → length regulated ≡ pair_count (length totals) →
    StandInTurn (λ place vs. AreVectors (bound_at totals place) vs) count_up 0 regulated →
    Valid (made_of p image totals reduced regulated)
valid-made p image totals reduced regulated fits room each most each_reduced edges each_regulated vectors =
    let pairs_are : pair_count (length totals) ≡ pair_count p.cores = ap (λ (n : ℕ). pair_count n) each in
    let regulated_is : length regulated ≡ pair_count p.cores = each_regulated ∙ pairs_are in
    record {
      params = fits;
      image = room;
      each_core = each;
      totals = most;
      each_reduced = each_reduced ∙ pairs_are;
      reduced = λ place lt. edges place (subst (λ (n : ℕ). place < n) (sym pairs_are) lt);
      each_regulated = regulated_is;
      regulated = λ place lt. subst (λ (k : ℕ). AreVectors (bound_at totals k) (get_or regulated place []))
          (zero-plus place)
          (stand-places (λ place vs. AreVectors (bound_at totals place) vs) 0 regulated vectors place []
          (subst (λ (n : ℕ). place < n) (sym regulated_is) lt));
    }
  where
    zero-plus : (k : ℕ) → 0 + k ≡ k
    zero-plus k = omega arith

pub edges-placed : (r : Recording) → Valid r → AllEdges r.totals r.reduced
edges-placed r v place lt = v.reduced place (subst (λ (n : ℕ). place < pair_count n) v.each_core lt)

pub vectors-stand : (r : Recording) → Valid r →
    StandInTurn (λ place vs. AreVectors (bound_at r.totals place) vs) count_up 0 r.regulated
vectors-stand r v = places-stand (λ place vs. AreVectors (bound_at r.totals place) vs) 0 r.regulated []
    (λ i lt. let same : i ≡ 0 + i = omega arith in
    subst (λ (k : ℕ). AreVectors (bound_at r.totals k) (get_or r.regulated i [])) same
    (v.regulated i (subst (λ (n : ℕ). i < n) v.each_regulated lt)))

-- ---- how many there are, and how large they are

-- both totals of a pair are numbers of 32 bits
pub totals_small : (r : Recording) (place : ℕ) → Valid r → ((bound_at r.totals place).0 < 2 ^ 32) ×
    ((bound_at r.totals place).1 < 2 ^ 32)
totals_small r place v =
    let params = v.params in
    let small = bound-small r.params.limit r.totals place (omega arith) v.totals in
    (small.source, small.target)

pub edges_listed : (r : Recording) → Valid r → (place : ℕ) → place < length r.reduced →
    IsListed (get_or r.reduced place [])
edges_listed r v place lt =
    let are = v.reduced place (subst (λ (n : ℕ). place < n) v.each_reduced lt) in
    let few = few_edges (bound_at r.totals place) (get_or r.reduced place []) are in
    let least = (totals_small r place v).0 in
    record {
      few = omega arith;
      rising = stand-map (EdgeStands (bound_at r.totals place)) EdgeRises follow (λ s x h. h.rises) (0, 0)
          (get_or r.reduced place []) are;
    }

pub vectors_listed : (r : Recording) → Valid r → (place : ℕ) → place < length r.regulated →
    length (get_or r.regulated place []) < 2 ^ 32
vectors_listed r v place lt =
    let are = v.regulated place (subst (λ (n : ℕ). place < n) v.each_regulated lt) in
    let few = few_vectors (bound_at r.totals place) (get_or r.regulated place []) are in
    let least = (totals_small r place v).0 in
    omega arith

-- the source of a pair retires at most as many instructions as it may
pub bound-most : (r : Recording) (place : ℕ) → Valid r → (bound_at r.totals place).0 ≤ r.params.limit
bound-most r place v = total-small r.params.limit r.totals (source_at (length r.totals) place) v.totals
