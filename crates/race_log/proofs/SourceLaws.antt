-- The edges of a log are those of its pairs, lie within the totals, and have one source for each core and target.
use Rattle.std.proofs.Common.{◌≡◌, ℕ, ◌-◌, ◌<◌, ◌≤◌, List, [], length, get_or, inl, inr, leb, true, false, Option, Some}
use Rattle.std.proofs.Common.{None, sym, ap, subst, ◌∙◌, arith}
use Rattle.std.specs.Prelude.{slice_index, IfSome}
use Rattle.std.specs.List.{Contains, flat_map, range_with_len}
use Rattle.std.specs.List.Sorted.{IsPartitionPoint, IsNonDecreasingBy}
use Rattle.std.proofs.lemmas.Bool.{cases_lt, leb-true, leb-false}
use Rattle.std.proofs.lemmas.List.{get_or_default}
use Rattle.std.proofs.lemmas.List.FromFn.{length-range_with_len, get_or-range_with_len}
use Rattle.rtr_types.specs.declared.instr.Instr.{Instr}
use Rattle.rtr_types.proofs.Instrs.{instr_eq}
use Rattle.rtr_types.specs.declared.instr.Edge.{Edge}
use Rattle.rtr_types.specs.declared.pairs.Which.{Which}
use Rattle.rtr_types.specs.declared.pairs.Which.TheVariants.{Reduced, Regulated}
use Rattle.rtr_types.specs.Pairs.{IsPair, pair_count, pair_place, source_at, target_at}
use Rattle.rtr_types.proofs.PairPlaces.{pairs-placed, places-paired}
use Rattle.stride_vector.specs.declared.StrideVector.{StrideVector}
use Rattle.stride_vector.specs.Vectors.{position_of, edges_of}
use Rattle.stride_vector.proofs.Sources.{positions-rise}
use Rattle.race_log.specs.declared.recording.Recording.{Recording}
use Rattle.rtr_types.specs.Turns.{StandInTurn, follow}
use Rattle.rtr_types.specs.PairEdges.{EdgeRises, AreEdges}
use Rattle.race_log.specs.Validity.{Valid, bound_at, AreVectors}
use Rattle.race_log.specs.Sources.{edges_of_pair, edge_between, edges_at, log_edges, HasEdge, EdgesArePaired}
use Rattle.race_log.specs.Sources.{EdgesWithin, OneSource, AreApart}
use Rattle.race_log.proofs.Parts.{edges_listed, totals_small}
use Rattle.race_log.proofs.ValidityTest.{edges_by_pair, vectors_by_pair}
use Rattle.race_log.proofs.RisingSearch.{one_place, rising-falls_not, contains-map, map-contains, contains-flat}
use Rattle.race_log.proofs.RisingSearch.{flat-contains}
use Rattle.race_log.proofs.PairRises.{no_edge, no_vector, targets-rise, edge_stands_at, vector_stands_at, are-apart}
use Rattle.race_log.proofs.PairRises.{position_between, reaches, PositionAt}
use Rattle.race_log.proofs.PairRises.{position_at, at_position}

-- ---- by pair

-- what the law says of an edge
abbrev Paired : Which → Recording → Edge → Type 0
Paired which r e = IsPair r.params.cores e.from.core e.to.core
    × Contains (edges_of_pair which r (pair_place r.params.cores e.from.core e.to.core)) (e.from.count, e.to.count)

paired-at : (which : Which) (r : Recording) (place : ℕ) (e : Edge) → place < pair_count r.params.cores →
    Contains (edges_at which r place) e → Paired which r e
paired-at which r place e below has =
    let cores = r.params.cores in
    let made = map-contains (edge_between (source_at cores place) (target_at cores place)) (edges_of_pair which r place)
    no_edge e has in
    let pair = places-paired cores place below in
    let there = subst (λ (p : ℕ). Contains (edges_of_pair which r p) (made.0.0, made.0.1)) (sym pair.1) made.1 in
    subst (Paired which r) made.2 (pair.0, there)

at-paired : (which : Which) (r : Recording) (from to : Instr) → IsPair r.params.cores from.core to.core →
    Contains (edges_of_pair which r (pair_place r.params.cores from.core to.core)) (from.count, to.count) →
    Contains (edges_at which r (pair_place r.params.cores from.core to.core)) (record { from = from; to = to })
at-paired which r from to pair has =
    let cores = r.params.cores in
    let place = pair_place cores from.core to.core in
    let placed = pairs-placed cores from.core to.core pair in
    let made = contains-map (edge_between (source_at cores place) (target_at cores place)) (edges_of_pair which r place)
    (from.count, to.count) has in
    let source : Contains (edges_at which r place)
    (edge_between from.core (target_at cores place) (from.count, to.count)) =
    subst (λ (c : ℕ). Contains (edges_at which r place) (edge_between c (target_at cores place) (from.count, to.count)))
    placed.1 made in
    subst (λ (c : ℕ). Contains (edges_at which r place) (edge_between from.core c (from.count, to.count))) placed.2
    source

pub edges-are-paired : EdgesArePaired
unfolding log_edges
edges-are-paired which r from to = (forth, back)
  where
    forth : HasEdge which r from to → Paired which r (record { from = from; to = to })
    forth has =
        let at = contains-flat (edges_at which r) (range_with_len 0 (pair_count r.params.cores)) 0
        (record { from = from; to = to }) has in
        let below : at.0 < pair_count r.params.cores =
        subst (λ (m : ℕ). at.0 < m) (length-range_with_len 0 (pair_count r.params.cores)) at.1 in
        let same = get_or-range_with_len 0 (pair_count r.params.cores) at.0 0 below in
        paired-at which r (get_or (range_with_len 0 (pair_count r.params.cores)) at.0 0)
        (record { from = from; to = to }) (omega arith) at.2

    back : Paired which r (record { from = from; to = to }) → HasEdge which r from to
    back p =
        let place = pair_place r.params.cores from.core to.core in
        let placed = pairs-placed r.params.cores from.core to.core p.0 in
        let below = placed.0 in
        let same : place ≡ get_or (range_with_len 0 (pair_count r.params.cores)) place 0 =
        omega (arith, get_or-range_with_len 0 (pair_count r.params.cores) place 0 below) in
        flat-contains (edges_at which r) (range_with_len 0 (pair_count r.params.cores)) place 0
        (record { from = from; to = to })
        (subst (λ (m : ℕ). place < m) (sym (length-range_with_len 0 (pair_count r.params.cores))) below)
        (subst (λ (m : ℕ). Contains (edges_at which r m) (record { from = from; to = to })) same
        (at-paired which r from to p.0 p.1))

-- ---- one source

pub one_edge : (edges : List (ℕ × ℕ)) (a c b : ℕ) → StandInTurn EdgeRises follow (0, 0) edges → Contains edges (a, b) →
    Contains edges (c, b) → a ≡ c
one_edge edges a c b rising (i, before, first) (j, below, second) =
    let one : get_or edges i no_edge ≡ (a, b) = get_or_default edges i no_edge (a, b) before ∙ first in
    let two : get_or edges j no_edge ≡ (c, b) = get_or_default edges j no_edge (c, b) below ∙ second in
    let same = one_place (λ (e : ℕ × ℕ). e.1) edges no_edge (targets-rise (0, 0) edges rising) i j before below
    (ap (λ (e : ℕ × ℕ). e.1) one
    ∙ sym (ap (λ (e : ℕ × ℕ). e.1) two)) in
    ap (λ (e : ℕ × ℕ). e.0) (sym one ∙ ap (λ (k : ℕ). get_or edges k no_edge) same ∙ two)

-- positions with one target are in one vector
pub one_vector : (vectors : List StrideVector) (k m j n b : ℕ) → AreApart vectors → k < length vectors →
    j < length vectors →
    m < (get_or vectors k no_vector).n → n < (get_or vectors j no_vector).n →
    (position_of (get_or vectors k no_vector) m).1 ≡ b → (position_of (get_or vectors j no_vector) n).1 ≡ b → k ≡ j
one_vector vectors k m j n b h k_in j_in m_in n_in first second =
    let one = position_between (get_or vectors k no_vector) m m_in in
    let two = position_between (get_or vectors j no_vector) n n_in in
    elim (cases_lt k j) [
      | inl before ↦ absurd (let up = h.apart k j no_vector before j_in in omega arith)
      | inr not_before ↦ elim (cases_lt j k) [
        | inl after ↦ absurd (let up = h.apart j k no_vector after k_in in omega arith)
        | inr not_after ↦ omega arith
      ]
    ]

-- and are one
one-place-in : (v : StrideVector) (m n b : ℕ) →
    ((i j : ℕ) → i < j → j < v.n → (position_of v i).1 < (position_of v j).1) → m < v.n → n < v.n →
    (position_of v m).1 ≡ b → (position_of v n).1 ≡ b → m ≡ n
one-place-in v m n b rising m_in n_in first second = elim (cases_lt m n) [
  | inl before ↦ absurd (let up = rising m n before n_in in omega arith)
  | inr not_before ↦ elim (cases_lt n m) [
    | inl after ↦ absurd (let up = rising n m after m_in in omega arith)
    | inr not_after ↦ omega arith
  ]
]

pub one_position : (vectors : List StrideVector) (a c b : ℕ) → AreApart vectors →
    Contains (flat_map edges_of vectors) (a, b) →
    Contains (flat_map edges_of vectors) (c, b) → a ≡ c
one_position vectors a c b h first second =
    let p = position_at vectors a b first in
    let q = position_at vectors c b second in
    let one = ap (λ (e : ℕ × ℕ). e.1) p.is in
    let two = ap (λ (e : ℕ × ℕ). e.1) q.is in
    let same = one_vector vectors p.k p.m q.k q.m b h p.within q.within p.below q.below one two in
    in-one p.k q.k p.m q.m same p.within p.below q.below p.is q.is
  where
    in-one : (k j m n : ℕ) → k ≡ j → k < length vectors → m < (get_or vectors k no_vector).n →
        n < (get_or vectors j no_vector).n →
        position_of (get_or vectors k no_vector) m ≡ (a, b) → position_of (get_or vectors j no_vector) n ≡ (c, b) →
        a ≡ c
    in-one k j m n same within m_in n_in p_is q_is =
        let v = get_or vectors k no_vector in
        let below : n < v.n = subst (λ (i : ℕ). n < (get_or vectors i no_vector).n) (sym same) n_in in
        let is : position_of v n ≡ (c, b) =
        subst (λ (i : ℕ). position_of (get_or vectors i no_vector) n ≡ (c, b)) (sym same) q_is in
        let vector = h.each k no_vector within in
        let one = one-place-in v m n b (λ x y lt up. (positions-rise v x y vector lt up).1) m_in below
        (ap (λ (e : ℕ × ℕ). e.1) p_is)
        (ap (λ (e : ℕ × ℕ). e.1) is) in
        ap (λ (e : ℕ × ℕ). e.0) (sym p_is ∙ ap (λ (i : ℕ). position_of v i) one ∙ is)

-- the pair's vectors, with what each call on them needs
pub vectors_apart : (r : Recording) → Valid r → (place : ℕ) → place < pair_count r.params.cores →
    AreApart (get_or r.regulated place [])
vectors_apart r v place below =
    let small = totals_small r place v in
    are-apart (bound_at r.totals place) (get_or r.regulated place []) small.0 small.1 (v.regulated place below)

one-in : (which : Which) (r : Recording) (place a c b : ℕ) → Valid r → place < pair_count r.params.cores →
    Contains (edges_of_pair which r place) (a, b) →
    Contains (edges_of_pair which r place) (c, b) → a ≡ c
one-in Reduced r place a c b v below first second =
    one_edge (get_or r.reduced place []) a c b
    (edges_listed r v place (subst (λ (n : ℕ). place < n) (sym v.each_reduced) below)).rising first second
one-in Regulated r place a c b v below first second =
    one_position (get_or r.regulated place []) a c b (vectors_apart r v place below) first second

pub one-source : OneSource
one-source which r from other to v first second core =
    let p = (edges-are-paired which r from to).0 first in
    let q = (edges-are-paired which r other to).0 second in
    let there : Contains (edges_of_pair which r (pair_place r.params.cores from.core to.core)) (other.count, to.count) =
    subst (λ (c : ℕ). Contains (edges_of_pair which r (pair_place r.params.cores c to.core)) (other.count, to.count))
    (sym core) q.1 in
    let below = (pairs-placed r.params.cores from.core to.core p.0).0 in
    let count = one-in which r (pair_place r.params.cores from.core to.core) from.count other.count to.count v below p.1
    there in
    instr_eq from other core count

-- ---- within the totals

-- counts from 1 to the totals
record Inside (most e : ℕ × ℕ) : Type 0 where
  some_source : 1 ≤ e.0
  some_target : 1 ≤ e.1
  source_most : e.0 ≤ most.0
  target_most : e.1 ≤ most.1

edge-inside : (most : ℕ × ℕ) (edges : List (ℕ × ℕ)) (e : ℕ × ℕ) → AreEdges most edges → Contains edges e → Inside most e
edge-inside most edges e h (k, below, is) =
    let at = edge_stands_at most (0, 0) edges h k below in
    let same : get_or edges k no_edge ≡ e = get_or_default edges k no_edge e below ∙ is in
    let a = at.1.rises.source in
    let b = at.1.rises.target in
    let c = at.1.source_most in
    let d = at.1.target_most in
    subst (Inside most) same (record
    { some_source = omega arith; some_target = omega arith; source_most = c; target_most = d })

position-inside : (most : ℕ × ℕ) (vectors : List StrideVector) (a b : ℕ) → AreVectors most vectors →
    Contains (flat_map edges_of vectors) (a, b) →
    Inside most (a, b)
position-inside most vectors a b h has =
    let p = position_at vectors a b has in
    let v = get_or vectors p.k no_vector in
    let at = (vector_stands_at most (0, 0) vectors h p.k no_vector p.within).1 in
    let between = position_between v p.m p.below in
    let low_a = at.source_rises in
    let low_b = at.target_rises in
    let high_a = at.source_most in
    let high_b = at.target_most in
    subst (Inside most) p.is (record
    { some_source = omega arith; some_target = omega arith; source_most = omega arith; target_most = omega arith })

inside : (which : Which) (r : Recording) (from to : Instr) → Valid r → IsPair r.params.cores from.core to.core →
    Contains (edges_of_pair which r (pair_place r.params.cores from.core to.core)) (from.count, to.count) →
    Inside (slice_index r.totals from.core, slice_index r.totals to.core) (from.count, to.count)
inside Reduced r from to v pair has =
    edge-inside (slice_index r.totals from.core, slice_index r.totals to.core)
    (get_or r.reduced (pair_place r.params.cores from.core to.core) [])
    (from.count, to.count) (edges_by_pair r from.core to.core v pair) has
inside Regulated r from to v pair has =
    position-inside (slice_index r.totals from.core, slice_index r.totals to.core)
    (get_or r.regulated (pair_place r.params.cores from.core to.core) []) from.count to.count
    (vectors_by_pair r from.core to.core v pair) has

pub edges-within : EdgesWithin
edges-within which r from to v has =
    let p = (edges-are-paired which r from to).0 has in
    let lies = inside which r from to v p.0 p.1 in
    record {
      pair = p.0;
      some_source = lies.some_source;
      some_target = lies.some_target;
      source_most = lies.source_most;
      target_most = lies.target_most;
    }

-- ---- what the look-ups find

pub edge_found : (edges : List (ℕ × ℕ)) (k b : ℕ) → k < length edges → (get_or edges k no_edge).1 ≡ b →
    Contains edges ((get_or edges k no_edge).0, b)
edge_found edges k b below is = (
  k,
  below,
  subst (λ (n : ℕ). get_or edges k ((get_or edges k no_edge).0, b) ≡ ((get_or edges k no_edge).0, n)) is
      (get_or_default edges k ((get_or edges k no_edge).0, b) no_edge below),
)

-- the first of the vectors begin at the target or below it, and the others above
abbrev pub Begun : List StrideVector → ℕ → ℕ → Type 0
Begun vectors b begun = IsPartitionPoint (λ v. leb v.b0 b ≡ true) (λ v. leb v.b0 b ≡ false) vectors begun

-- where none begins so low, none has the target
pub none_begun : (vectors : List StrideVector) (a b : ℕ) → Begun vectors b 0 →
    Contains (flat_map edges_of vectors) (a, b) → ⊥
none_begun vectors a b parted has =
    let p = position_at vectors a b has in
    let above = leb-false (get_or vectors p.k no_vector).b0 b (parted.1 p.k no_vector (omega arith) p.within) in
    let between = position_between (get_or vectors p.k no_vector) p.m p.below in
    let is = ap (λ (e : ℕ × ℕ). e.1) p.is in
    omega arith

-- else the last that begins so low is the one that may have it
pub last_begun : (vectors : List StrideVector) (a b begun : ℕ) → AreApart vectors → begun ≤ length vectors →
    Begun vectors b begun →
    (p : PositionAt vectors a b) → p.k ≡ begun - 1
last_begun vectors a b begun h most parted p =
    let between = position_between (get_or vectors p.k no_vector) p.m p.below in
    let is = ap (λ (e : ℕ × ℕ). e.1) p.is in
    elim (cases_lt p.k begun) [
      | inr late ↦ absurd (let above =
          leb-false (get_or vectors p.k no_vector).b0 b (parted.1 p.k no_vector late p.within) in omega arith)
      | inl early ↦ elim (cases_lt p.k (begun - 1)) [
        | inr last ↦ omega arith
        | inl before ↦ absurd
            (let low = leb-true (get_or vectors (begun - 1) no_vector).b0 b
            (parted.0 (begun - 1) no_vector (omega arith) (omega arith)) in
            let up = h.apart p.k (begun - 1) no_vector before (omega arith) in
            omega arith)
      ]
    ]

pub source_only : (vectors : List StrideVector) (a b begun : ℕ) (d : StrideVector) (result : Option ℕ) →
    AreApart vectors → begun ≤ length vectors →
    Begun vectors b begun →
    ((k : ℕ) → k < (get_or vectors (begun - 1) d).n → (position_of (get_or vectors (begun - 1) d) k).1 ≡ b →
    result ≡ Some (position_of (get_or vectors (begun - 1) d) k).0) →
    Contains (flat_map edges_of vectors) (a, b) → result ≡ Some a
source_only vectors a b begun d result h most parted only has =
    let p = position_at vectors a b has in
    let last = last_begun vectors a b begun h most parted p in
    let same : get_or vectors p.k no_vector ≡ get_or vectors (begun - 1) d =
    get_or_default vectors p.k no_vector d p.within ∙ ap (λ (k : ℕ). get_or vectors k d) last in
    let below : p.m < (get_or vectors (begun - 1) d).n = subst (λ (v : StrideVector). p.m < v.n) same p.below in
    let is : position_of (get_or vectors (begun - 1) d) p.m ≡ (a, b) =
    subst (λ (v : StrideVector). position_of v p.m ≡ (a, b)) same p.is in
    only p.m below (ap (λ (e : ℕ × ℕ). e.1) is) ∙ ap (λ (e : ℕ × ℕ). Some e.0) is

pub source_found : (vectors : List StrideVector) (b k : ℕ) (d : StrideVector) (result : Option ℕ) → k < length vectors →
    IfSome result (λ a. (m : ℕ) × (m < (get_or vectors k d).n) × (position_of (get_or vectors k d) m ≡ (a, b))) →
    IfSome result (λ a. Contains (flat_map edges_of vectors) (a, b))
source_found vectors b k d None within found = tt
source_found vectors b k d (Some a) within (m, below, is) =
    let same = get_or_default vectors k d no_vector within in
    at_position vectors a b
    (record {
      k = k;
      m = m;
      within = within;
      below = subst (λ (v : StrideVector). m < v.n) same below;
      is = subst (λ (v : StrideVector). position_of v m ≡ (a, b)) same is;
    })

pub begins-rise : (vectors : List StrideVector) → AreApart vectors → IsNonDecreasingBy (λ v. v.b0) vectors
begins-rise vectors h = rising-falls_not (λ (v : StrideVector). v.b0) vectors no_vector (λ i j before below.
    let up = h.apart i j no_vector before below in
    let reach = reaches (get_or vectors i no_vector) in
    omega arith)

-- ---- the pair's list, as the code reads it

pub list_at : {X : Type 0} (lists slice : List (List X)) (place : ℕ) (item out : List X) → slice ≡ lists →
    item ≡ get_or slice place item → out ≡ item →
    place < length lists → out ≡ get_or lists place []
list_at lists slice place item out slice_is item_is out_is below =
    out_is ∙ item_is ∙ ap (λ ls. get_or ls place item) slice_is ∙ get_or_default lists place item [] below

pub found_edge : (which : Which) (r : Recording) (of : ℕ) (at : Instr) (edges : List (ℕ × ℕ)) (result : Option ℕ) →
    IsPair r.params.cores of at.core →
    edges ≡ edges_of_pair which r (pair_place r.params.cores of at.core) →
    IfSome result (λ a. Contains edges (a, at.count)) →
    IfSome result (λ a. HasEdge which r (record { core = of; count = a }) at)
found_edge which r of at edges None pair is found = tt
found_edge which r of at edges (Some a) pair is found =
    (edges-are-paired which r (record { core = of; count = a }) at).1
    (pair, subst (λ es. Contains es (a, at.count)) is found)

pub edge_in : (which : Which) (r : Recording) (of a : ℕ) (at : Instr) (edges : List (ℕ × ℕ)) →
    edges ≡ edges_of_pair which r (pair_place r.params.cores of at.core) →
    HasEdge which r (record { core = of; count = a }) at → Contains edges (a, at.count)
edge_in which r of a at edges is has =
    subst (λ es. Contains es (a, at.count)) (sym is)
    ((edges-are-paired which r (record { core = of; count = a }) at).0 has).1

pub edge_paired : (which : Which) (r : Recording) (of a : ℕ) (at : Instr) →
    HasEdge which r (record { core = of; count = a }) at → IsPair r.params.cores of at.core
edge_paired which r of a at has = ((edges-are-paired which r (record { core = of; count = a }) at).0 has).0
