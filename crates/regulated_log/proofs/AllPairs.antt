-- The vectors of all pairs.
use Rattle.std.proofs.Common.{◌≡◌, ℕ, zero, suc, ◌<◌, ◌≤◌, ◌⊎◌, List, [], ◌∷◌, length, refl, sym, ap, subst, ◌∙◌, inl}
use Rattle.std.proofs.Common.{inr, arith}
use Rattle.std.specs.Prelude.{slice_index, slice_index_or}
use Rattle.std.specs.List.{AllByRecursion, Contains, flat_map}
use Rattle.std.proofs.lemmas.List.{get_or_past}
use Rattle.std.proofs.lemmas.Bool.{cases_lt, leb-true}
use Rattle.std.proofs.Math.Nat.{eq-or-lt_of_le}
use Rattle.rtr_types.specs.Pairs.{IsPair, pair_count, pair_place, source_at, target_at}
use Rattle.rtr_types.proofs.PairPlaces.{pairs-placed, places-paired}
use Rattle.rtr_types.specs.declared.instr.Instr.{Instr}
use Rattle.rtr_types.specs.declared.instr.Edge.{Edge}
use Rattle.rtr_types.specs.declared.pairs.Which.TheVariants.{Reduced, Regulated}
use Rattle.rtr_types.proofs.Instrs.{instr_eq}
use Rattle.replay_core.specs.Play.{instr}
use Rattle.clock_core.specs.Order.{Among, Before}
use Rattle.clock_core.proofs.Paths.{joined, one, mapped}
use Rattle.clock_core.proofs.EdgeLists.{contains_among, among_contains}
use Rattle.stride_vector.specs.declared.StrideVector.{StrideVector}
use Rattle.stride_vector.specs.Vectors.{edges_of}
use Rattle.race_log.specs.declared.recording.Recording.{Recording}
use Rattle.race_log.specs.Sources.{HasEdge, log_edges}
use Rattle.race_log.specs.Validity.{Valid, bound_at, AreVectors}
use Rattle.race_log.proofs.SourceLaws.{edges-are-paired}
use Rattle.edge_regulate.specs.Greedy.{greedy}
use Rattle.edge_regulate.specs.Regulated.{Knowledge, knows_by, regulated}
use Rattle.edge_regulate.proofs.Regulations.{length-regulated, regulated_at}
use Rattle.regulated_log.specs.Logs.{with_regulated}
use Rattle.regulated_log.specs.Laws.{ImpliesLaw, IsWithin, ValidLaw}
use Rattle.regulated_log.proofs.OpenVector.{KnowsWithin}
use Rattle.regulated_log.proofs.OnePair.{greedy_stand, greedy_few, greedy_implied, IsImplied}

-- ---- items of lists

pub all_contains : {X : Type 0} (P : X → Type 0) (xs : List X) (x : X) → AllByRecursion P xs → Contains xs x → P x
all_contains P [] x all (k, below, is) = absurd (omega arith)
all_contains P (y ∷ xs) x all (zero, below, is) = subst P is all.0
all_contains P (y ∷ xs) x all (suc k, below, is) = all_contains P xs x all.1 (k, omega arith, is)

pub contains_all : {X : Type 0} (P : X → Type 0) (xs : List X) → ((x : X) → Contains xs x → P x) → AllByRecursion P xs
contains_all P [] each = tt
contains_all P (x ∷ xs) each = (
  each x (0, omega arith, refl),
  contains_all P xs (λ y has. each y (suc has.0, let below = has.1 in omega arith, has.2)),
)

-- ---- the vectors of one pair

-- the vectors of the pair of two cores
abbrev pub between : Knowledge → Recording → (from to : ℕ) → List StrideVector
between known r from to = greedy (knows_by known from to) (slice_index_or r.reduced (pair_place r.params.cores from to)
    [])

pub between_is : (known : Knowledge) (r : Recording) (from to : ℕ) → IsPair r.params.cores from to →
    slice_index_or (regulated r.params.cores known r.reduced) (pair_place r.params.cores from to) [] ≡ between known r
    from to
between_is known r from to pair =
    let place = pair_place r.params.cores from to in
    let placed = pairs-placed r.params.cores from to pair in
    regulated_at r.params.cores known r.reduced place [] placed.0
    ∙ ap (λ (i : ℕ). greedy (knows_by known i (target_at r.params.cores place)) (slice_index_or r.reduced place []))
    placed.1
    ∙ ap (λ (j : ℕ). greedy (knows_by known from j) (slice_index_or r.reduced place [])) placed.2

-- an edge of the log is a position of the pair's vectors
pub edge_between_is : (known : Knowledge) (r : Recording) (x y : Instr) →
    HasEdge Regulated (with_regulated known r) x y → IsPair r.params.cores x.core y.core
    × Contains (flat_map edges_of (between known r x.core y.core)) (x.count, y.count)
edge_between_is known r x y has =
    let p = (edges-are-paired Regulated (with_regulated known r) x y).0 has in (
      p.0,
      subst (λ (vs : List StrideVector). Contains (flat_map edges_of vs) (x.count, y.count))
          (between_is known r x.core y.core p.0) p.1,
    )

pub is_edge_between : (known : Knowledge) (r : Recording) (x y : Instr) → IsPair r.params.cores x.core y.core →
    Contains (flat_map edges_of (between known r x.core y.core)) (x.count, y.count) →
    HasEdge Regulated (with_regulated known r) x y
is_edge_between known r x y pair has =
    (edges-are-paired Regulated (with_regulated known r) x y).1 (
      pair,
      subst (λ (vs : List StrideVector). Contains (flat_map edges_of vs) (x.count, y.count))
          (sym (between_is known r x.core y.core pair)) has,
    )

-- ---- each reduced edge is before by the regulated ones

-- from an instruction to an edge that leaves no earlier one and enters no later one
pub by_edge : (edges : List Edge) (x y : Instr) (a b : ℕ) → x.count ≤ a → b ≤ y.count →
    Among edges (instr x.core a) (instr y.core b) → Before (Among edges) x y
by_edge edges x y a b source target among = ends (eq-or-lt_of_le target) (begins (eq-or-lt_of_le source))
  where
    begins : (x.count ≡ a) ⊎ (x.count < a) → Before (Among edges) x (instr y.core b)
    begins (inl same) = one (Among edges) x (instr y.core b)
        (inr (subst (λ (v : Instr). Among edges v (instr y.core b)) (sym (instr_eq x (instr x.core a) refl same))
        among))
    begins (inr lt) = joined (Among edges) x (instr x.core a) (instr y.core b) (one (Among edges) x (instr x.core a)
        (inl (refl, lt)))
        (one (Among edges) (instr x.core a) (instr y.core b) (inr among))

    ends : (b ≡ y.count) ⊎ (b < y.count) → Before (Among edges) x (instr y.core b) → Before (Among edges) x y
    ends (inl same) p = subst (λ (v : Instr). Before (Among edges) x v) (instr_eq (instr y.core b) y refl same) p
    ends (inr lt) p = joined (Among edges) x (instr y.core b) y p (one (Among edges) (instr y.core b) y
        (inl (refl, lt)))

implied_each : (known : Knowledge) (r : Recording) (x y : Instr) → Valid r → HasEdge Reduced r x y →
    Before (Among (log_edges Regulated (with_regulated known r))) x y
implied_each known r x y valid has =
    let p = (edges-are-paired Reduced r x y).0 has in
    let place = pair_place r.params.cores x.core y.core in
    let stand = valid.reduced place (pairs-placed r.params.cores x.core y.core p.0).0 in
    let edges = slice_index_or r.reduced place [] in
    let by = all_contains (IsImplied (between known r x.core y.core)) edges (x.count, y.count)
    (greedy_implied (bound_at r.totals place) (knows_by known x.core y.core) edges stand) p.1 in
    let among = contains_among (log_edges Regulated (with_regulated known r)) (instr x.core by.by.0)
    (instr y.core by.by.1)
    (is_edge_between known r (instr x.core by.by.0) (instr y.core by.by.1) p.0 by.has) in
    by_edge (log_edges Regulated (with_regulated known r)) x y by.by.0 by.by.1 by.source by.target among

few_each : (known : Knowledge) (r : Recording) (place : ℕ) →
    length (slice_index_or (regulated r.params.cores known r.reduced) place []) ≤ length
    (slice_index_or r.reduced place [])
few_each known r place = by (cases_lt place (pair_count r.params.cores))
  where
    by : (place < pair_count r.params.cores) ⊎ (pair_count r.params.cores ≤ place) →
        length (slice_index_or (regulated r.params.cores known r.reduced) place []) ≤ length
        (slice_index_or r.reduced place [])
    by (inl below) = subst (λ (vs : List StrideVector). length vs ≤ length (slice_index_or r.reduced place []))
        (sym (regulated_at r.params.cores known r.reduced place [] below))
        (greedy_few (knows_by known (source_at r.params.cores place) (target_at r.params.cores place))
        (slice_index_or r.reduced place []))
    by (inr past) =
        let none = ap (λ (vs : List StrideVector). length vs)
        (get_or_past (regulated r.params.cores known r.reduced) place []
        (omega (arith, length-regulated r.params.cores known r.reduced))) in
        omega arith

pub implies_law : ImpliesLaw
implies_law known r valid = record {
  each = λ x y has. implied_each known r x y valid has;
  few = few_each known r;
  suffices = λ list suffices x y pair.
      mapped (Among (log_edges Reduced r)) (Among (log_edges Regulated (with_regulated known r)))
      (λ u v among. implied_each known r u v valid (among_contains (log_edges Reduced r) u v among)) x y
      (suffices x y pair);
}

-- ---- they can be spelled

knows_within : (known : Knowledge) (r : Recording) (place : ℕ) → Valid r → place < pair_count r.params.cores →
    IsWithin r.totals known →
    KnowsWithin (bound_at r.totals place) (knows_by known (source_at r.params.cores place)
    (target_at r.params.cores place))
knows_within known r place valid below within a b some most knows =
    let each = valid.each_core in
    let pair = (places-paired r.params.cores place below).0 in
    let source = pair.source in
    let target = pair.target in
    let same : source_at (length r.totals) place ≡ source_at r.params.cores place =
    ap (λ (n : ℕ). source_at n place) each in
    let same_target : target_at (length r.totals) place ≡ target_at r.params.cores place =
    ap (λ (n : ℕ). target_at n place) each in
    let upto : b ≤ slice_index r.totals (target_at r.params.cores place) =
    subst (λ (j : ℕ). b ≤ slice_index r.totals j) same_target most in
    let has = within.each (target_at r.params.cores place) b (source_at r.params.cores place) (omega arith)
    (omega arith) pair.differ some upto in
    let le : a ≤ known (target_at r.params.cores place) b (source_at r.params.cores place) =
    leb-true a (known (target_at r.params.cores place) b (source_at r.params.cores place)) knows in
    let all : a ≤ slice_index r.totals (source_at r.params.cores place) = omega arith in
    subst (λ (i : ℕ). a ≤ slice_index r.totals i) (sym same) all

pub valid_law : ValidLaw
valid_law known r valid within = record {
  params = valid.params;
  image = valid.image;
  each_core = valid.each_core;
  totals = valid.totals;
  each_reduced = valid.each_reduced;
  reduced = valid.reduced;
  each_regulated = length-regulated r.params.cores known r.reduced;
  regulated = λ place below.
      subst (λ (vs : List StrideVector). AreVectors (bound_at r.totals place) vs)
      (sym (regulated_at r.params.cores known r.reduced place [] below))
      (greedy_stand (bound_at r.totals place) (knows_by known (source_at r.params.cores place)
      (target_at r.params.cores place))
      (slice_index_or r.reduced place []) (knows_within known r place valid below within) (valid.reduced place below));
}
