-- What a look-up finds is the next edge.
use Rattle.std.proofs.Common.{inl, inr, ◌≡◌, ℕ, zero, suc, ◌+◌, ◌-◌, ◌*◌, ◌/◌, ◌%◌, ◌<◌, ◌≤◌, true, false, leb, ltb}
use Rattle.std.proofs.Common.{List, [], ◌∷◌}
use Rattle.std.proofs.Common.{length, get_or, Option, Some, None}
use Rattle.std.proofs.Common.{refl, sym, ap, subst, ◌∙◌, arith}
use Rattle.std.specs.Prelude.{min, slice_get}
use Rattle.std.specs.List.{Contains, flat_map}
use Rattle.std.specs.List.Sorted.{IsPartitionPoint}
use Rattle.std.proofs.Math.Nat.{mul-le-mul_left}
use Rattle.std.proofs.lemmas.Bool.{cases_lt, leb-true, leb-false, ltb-true, ltb-false}
use Rattle.std.proofs.lemmas.List.{get_or_default}
use Rattle.std.proofs.lemmas.Grind.{div_ceil_times}
use Rattle.rtr_types.specs.declared.instr.Instr.{Instr}
use Rattle.rtr_types.specs.declared.pairs.Which.{Which}
use Rattle.rtr_types.specs.Pairs.{IsPair, pair_place}
use Rattle.stride_vector.specs.declared.StrideVector.{StrideVector}
use Rattle.stride_vector.specs.Vectors.{IsVector, position_of, edges_of, last_of}
use Rattle.race_log.specs.declared.recording.Recording.{Recording}
use Rattle.race_log.specs.Sources.{AreApart, edges_of_pair, log_edges}
use Rattle.race_log.proofs.PairRises.{no_edge, no_vector, position_between, PositionAt, position_at, at_position}
use Rattle.race_log.proofs.SourceLaws.{edges-are-paired}
use Rattle.race_log.proofs.RisingSearch.{Rising}
use Rattle.replay_core.specs.Play.{instr}
use Rattle.replay_core.specs.Coming.{IsBeginning, IsFirstEdge, IsFirstPlace, IsNextEdge, IsFirstPosition}
use Rattle.replay_core.specs.Coming.{IsNextPosition, IsNextInto, Leads}

-- ---- edges

-- the edge at a place, where the one before it leads below the count
pub next_there : (edges : List (ℕ × ℕ)) (n k : ℕ) (e : ℕ × ℕ) → Rising (λ (x : ℕ × ℕ). x.1) edges no_edge →
    k < length edges → get_or edges k no_edge ≡ e →
    n ≤ e.1 → (1 ≤ k → (get_or edges (k - 1) no_edge).1 < n) → IsFirstEdge edges n e
next_there edges n k e rising within is least before = record {
  there = (k, within, get_or_default edges k e no_edge within ∙ is);
  least = least;
  first = λ a b has le. first a b has le;
}
  where
    early : (j b : ℕ) → j < k → (get_or edges j no_edge).1 ≡ b → n ≤ b → ⊥
    early j b lt b_is le =
        let low = before (omega arith) in
        elim (cases_lt j (k - 1)) [
          | inl up ↦ let more = rising j (k - 1) up (omega arith) in omega arith
          | inr not_up ↦ let same : j ≡ k - 1 = omega arith in let both =
              ap (λ (i : ℕ). (get_or edges i no_edge).1) same in omega arith
        ]

    first : (a b : ℕ) → Contains edges (a, b) → n ≤ b → e.1 ≤ b
    first a b (j, inside, is_j) le =
        let at : get_or edges j no_edge ≡ (a, b) = get_or_default edges j no_edge (a, b) inside ∙ is_j in
        let b_is = ap (λ (x : ℕ × ℕ). x.1) at in
        let e_is = ap (λ (x : ℕ × ℕ). x.1) is in
        elim (cases_lt j k) [
          | inl lt ↦ absurd (early j b lt b_is le)
          | inr late ↦ elim (cases_lt k j) [
            | inl after ↦ let up = rising k j after inside in omega arith
            | inr not_after ↦ let same : j ≡ k = omega arith in let both =
                ap (λ (i : ℕ). (get_or edges i no_edge).1) same in omega arith
          ]
        ]

-- the first of the edges lead below the count, and the others don't
abbrev pub Below : List (ℕ × ℕ) → ℕ → ℕ → Type 0
Below edges n below = IsPartitionPoint (λ e. ltb e.1 n ≡ true) (λ e. ltb e.1 n ≡ false) edges below

pub next_found : (edges : List (ℕ × ℕ)) (n k : ℕ) (e : ℕ × ℕ) → Rising (λ (x : ℕ × ℕ). x.1) edges no_edge →
    Below edges n k → k < length edges →
    get_or edges k no_edge ≡ e → IsFirstEdge edges n e
next_found edges n k e rising parted within is =
    next_there edges n k e rising within is
    (subst (λ (x : ℕ × ℕ). n ≤ x.1) is
    (ltb-false (get_or edges k no_edge).1 n (parted.1 k no_edge (omega arith) within)))
    (λ some. ltb-true (get_or edges (k - 1) no_edge).1 n (parted.0 (k - 1) no_edge (omega arith) (omega arith)))

pub next_none : (edges : List (ℕ × ℕ)) (n k : ℕ) → Below edges n k → length edges ≤ k → (a b : ℕ) →
    Contains edges (a, b) → b < n
next_none edges n k parted past a b (j, inside, is_j) =
    let at : get_or edges j no_edge ≡ (a, b) = get_or_default edges j no_edge (a, b) inside ∙ is_j in
    let b_is = ap (λ (x : ℕ × ℕ). x.1) at in
    let low = ltb-true (get_or edges j no_edge).1 n (parted.0 j no_edge (omega arith) (omega arith)) in
    omega arith

slice_get_inside : (xs : List (ℕ × ℕ)) (i : ℕ) (d : ℕ × ℕ) → i < length xs → slice_get xs i ≡ Some (get_or xs i d)
slice_get_inside [] i d lt = absurd (omega arith)
slice_get_inside (x ∷ xs) zero d lt = refl
slice_get_inside (x ∷ xs) (suc i) d lt = slice_get_inside xs i d (omega arith)

slice_get_past : (xs : List (ℕ × ℕ)) (i : ℕ) → length xs ≤ i → slice_get xs i ≡ None
slice_get_past [] i le = refl
slice_get_past (x ∷ xs) zero le = absurd (omega arith)
slice_get_past (x ∷ xs) (suc i) le = slice_get_past xs i (omega arith)

-- so the edge at that place, if there is one
pub next_at : (edges : List (ℕ × ℕ)) (n k : ℕ) (o : Option (ℕ × ℕ)) → Rising (λ (x : ℕ × ℕ). x.1) edges no_edge →
    Below edges n k → o ≡ slice_get edges k →
    IsNextEdge edges n o
next_at edges n k o rising parted is = elim (cases_lt k (length edges)) [
  | inl within ↦ subst (IsNextEdge edges n) (sym (is ∙ slice_get_inside edges k no_edge within))
      (next_found edges n k (get_or edges k no_edge) rising parted within refl)
  | inr past ↦ subst (IsNextEdge edges n) (sym (is ∙ slice_get_past edges k past)) (next_none edges n k parted past)
]

pub next_first : (edges : List (ℕ × ℕ)) (n k : ℕ) (o : Option (ℕ × ℕ)) → Rising (λ (x : ℕ × ℕ). x.1) edges no_edge →
    IsFirstPlace edges n k →
    o ≡ slice_get edges k → IsNextEdge edges n o
next_first edges n k o rising h is =
    subst (IsNextEdge edges n) (sym (is ∙ slice_get_inside edges k no_edge h.within))
    (next_there edges n k (get_or edges k no_edge) rising h.within refl h.least h.before)

-- ---- positions of a vector

pub below_all : (v : StrideVector) (n : ℕ) → (last_of v).1 < n → IsNextPosition v n None
below_all v n low k within = let between = position_between v k within in omega arith

pub at_begin : (v : StrideVector) (n : ℕ) → 1 ≤ v.n → n ≤ v.b0 → IsFirstPosition v n (v.a0, v.b0)
at_begin v n some le = record {
  place = 0;
  within = omega arith;
  is = is;
  least = le;
  first = λ k within up. let between = position_between v k within in omega arith;
}
  where
    is : position_of v 0 ≡ (v.a0, v.b0)
    is = let a : v.a0 + 0 * v.sa ≡ v.a0 = omega arith in let b : v.b0 + 0 * v.sb ≡ v.b0 = omega arith in
        ap (λ (x : ℕ). let p : ℕ × ℕ = (x, v.b0 + 0 * v.sb) in p) a ∙ ap (λ (x : ℕ). let p : ℕ × ℕ = (v.a0, x) in p) b

-- so many strides reach the count, and fewer don't
pub at_place : (v : StrideVector) (n k : ℕ) (e : ℕ × ℕ) → k < v.n → position_of v k ≡ e → n ≤ (position_of v k).1 →
    ((m : ℕ) → m < k → (position_of v m).1 < n) → IsFirstPosition v n e
at_place v n k e within is le fewer = record {
  place = k;
  within = within;
  is = is;
  least = subst (λ (x : ℕ × ℕ). n ≤ x.1) is le;
  first = λ m inside up. subst (λ (x : ℕ × ℕ). x.1 ≤ (position_of v m).1) is (elim (cases_lt m k) [
    | inl early ↦ absurd (let low = fewer m early in omega arith)
    | inr late ↦ let more = mul-le-mul_left {m = k} {n = m} v.sb late in omega arith
  ]);
}

-- where a vector reaches above its beginning it has strides
pub stride_there : (v : StrideVector) (n : ℕ) → IsVector v → v.b0 < n → n ≤ (last_of v).1 → 1 ≤ v.sb
stride_there v n h above le = elim (cases_lt 1 v.n) [
  | inl several ↦ h.target_rises several
  | inr single ↦ absurd (let some = h.some in let none : v.n - 1 ≡ 0 = omega arith in
      let same : (last_of v).1 ≡ v.b0 + 0 * v.sb = ap (λ (m : ℕ). v.b0 + m * v.sb) none in omega arith)
]

-- a place past the last would be past the last's target
pub inside_vector : (v : StrideVector) (n k : ℕ) → 1 ≤ v.n → n ≤ (last_of v).1 →
    ((m : ℕ) → m < k → (position_of v m).1 < n) → k < v.n
inside_vector v n k some le fewer = elim (cases_lt k v.n) [
  | inl within ↦ within
  | inr past ↦ absurd (let low = fewer (v.n - 1) (omega arith) in omega arith)
]

-- as many strides as the rise needs
pub reached : (v : StrideVector) (n rise : ℕ) → IsVector v → v.b0 + rise ≡ n → 1 ≤ rise → n ≤ (last_of v).1 →
    ((rise / v.sb + min 1 (rise % v.sb)) < v.n) ×
    IsFirstPosition v n (position_of v (rise / v.sb + min 1 (rise % v.sb)))
reached v n rise h is some le = (within, at_place v n k (position_of v k) within refl enough fewer)
  where
    k : ℕ
    k = rise / v.sb + min 1 (rise % v.sb)

    bounds : (rise ≤ k * v.sb) × (k * v.sb < rise + v.sb)
    bounds = div_ceil_times rise v.sb (stride_there v n h (omega arith) le)

    enough : n ≤ (position_of v k).1
    enough = let b = bounds.0 in omega arith

    fewer : (m : ℕ) → m < k → (position_of v m).1 < n
    fewer m lt = let b = bounds.1 in let more = mul-le-mul_left {m = m + 1} {n = k} v.sb (omega arith) in omega arith

    within : k < v.n
    within = inside_vector v n k h.some le fewer

-- ---- positions of vectors

-- the first of the vectors begin at the count or below it, and the others above
abbrev pub Begun : List StrideVector → ℕ → ℕ → Type 0
Begun vectors n begun = IsPartitionPoint (λ v. leb v.b0 n ≡ true) (λ v. leb v.b0 n ≡ false) vectors begun

-- a position in the vector before those that begin above the count
pub in_last : (vectors : List StrideVector) (n k : ℕ) (e : ℕ × ℕ) → AreApart vectors → Begun vectors n (k + 1) →
    k < length vectors →
    IsFirstPosition (get_or vectors k no_vector) n e → IsFirstEdge (flat_map edges_of vectors) n e
in_last vectors n k e h parted within f = record {
  there = at_position vectors e.0 e.1 (record { k = k; m = f.place; within = within; below = f.within; is = f.is });
  least = f.least;
  first = λ a b has le. first a b (position_at vectors a b has) le;
}
  where
    first : (a b : ℕ) → PositionAt vectors a b → n ≤ b → e.1 ≤ b
    first a b p le =
        let b_is = ap (λ (x : ℕ × ℕ). x.1) p.is in
        let own = position_between (get_or vectors k no_vector) f.place f.within in
        let own_is = ap (λ (x : ℕ × ℕ). x.1) f.is in
        let between = position_between (get_or vectors p.k no_vector) p.m p.below in
        elim (cases_lt p.k k) [
          | inl early ↦ absurd (let up = h.apart p.k k no_vector early within in
              let low = leb-true (get_or vectors k no_vector).b0 n (parted.0 k no_vector (omega arith) (omega arith)) in
              omega arith)
          | inr late ↦ elim (cases_lt k p.k) [
            | inl after ↦ let up = h.apart k p.k no_vector after p.within in omega arith
            | inr not_after ↦ here a b p le (omega arith)
          ]
        ]
      where
        here : (a b : ℕ) (p : PositionAt vectors a b) → n ≤ b → p.k ≡ k → e.1 ≤ b
        here a b p le same =
            let below : p.m < (get_or vectors k no_vector).n =
            subst (λ (i : ℕ). p.m < (get_or vectors i no_vector).n) same p.below in
            let is : (position_of (get_or vectors k no_vector) p.m).1 ≡ b =
            subst (λ (i : ℕ). (position_of (get_or vectors i no_vector) p.m).1 ≡ b) same (ap (λ (x : ℕ × ℕ). x.1) p.is)
            in
            let low = f.first p.m below (omega arith) in
            omega arith

-- where the vectors before don't reach the count
abbrev pub Ended : List StrideVector → ℕ → ℕ → Type 0
Ended vectors n begun = (k : ℕ) → k < begun → k < length vectors → (last_of (get_or vectors k no_vector)).1 < n

pub ended_none : (vectors : List StrideVector) (n : ℕ) → Ended vectors n 0
ended_none vectors n k lt within = absurd (omega arith)

pub ended_more : (vectors : List StrideVector) (n k : ℕ) → AreApart vectors → k < length vectors →
    Begun vectors n (k + 1) →
    IsNextPosition (get_or vectors k no_vector) n None → Ended vectors n (k + 1)
ended_more vectors n k h within parted none i lt inside = elim (cases_lt i k) [
  | inl early ↦ let up = h.apart i k no_vector early within in
      let low = leb-true (get_or vectors k no_vector).b0 n (parted.0 k no_vector (omega arith) (omega arith)) in
      omega arith
  | inr late ↦
      let same : k ≡ i = omega arith in
      let some = (h.each k no_vector within).some in
      subst (λ (j : ℕ). (last_of (get_or vectors j no_vector)).1 < n) same
      (none ((get_or vectors k no_vector).n - 1) (omega arith))
]

-- the next vector's beginning
pub next_begins : (vectors : List StrideVector) (n k : ℕ) → AreApart vectors → Begun vectors n k → Ended vectors n k →
    k < length vectors →
    IsFirstEdge (flat_map edges_of vectors) n ((get_or vectors k no_vector).a0, (get_or vectors k no_vector).b0)
next_begins vectors n k h parted ended within =
    let v = get_or vectors k no_vector in
    let above = leb-false v.b0 n (parted.1 k no_vector (omega arith) within) in
    let f = at_begin v n (h.each k no_vector within).some (omega arith) in record {
      there = at_position vectors v.a0 v.b0
          (record { k = k; m = f.place; within = within; below = f.within; is = f.is });
      least = f.least;
      first = λ a b has le. first a b (position_at vectors a b has) le;
    }
  where
    first : (a b : ℕ) → PositionAt vectors a b → n ≤ b → (get_or vectors k no_vector).b0 ≤ b
    first a b p le =
        let b_is = ap (λ (x : ℕ × ℕ). x.1) p.is in
        let between = position_between (get_or vectors p.k no_vector) p.m p.below in
        elim (cases_lt p.k k) [
          | inl early ↦ absurd (let low = ended p.k early p.within in omega arith)
          | inr late ↦ elim (cases_lt k p.k) [
            | inl after ↦
                let up = h.apart k p.k no_vector after p.within in
                let some = (h.each k no_vector within).some in
                let own = position_between (get_or vectors k no_vector) 0 (omega arith) in
                omega arith
            | inr not_after ↦
                let same : p.k ≡ k = omega arith in
                let low : (get_or vectors k no_vector).b0 ≤ (position_of (get_or vectors p.k no_vector) p.m).1 =
                subst (λ (i : ℕ). (get_or vectors i no_vector).b0 ≤ (position_of (get_or vectors p.k no_vector) p.m).1)
                same between.2 in
                omega arith
          ]
        ]

-- no vector is left
pub all_ended : (vectors : List StrideVector) (n k : ℕ) → Ended vectors n k → length vectors ≤ k → (a b : ℕ) →
    Contains (flat_map edges_of vectors) (a, b) →
    b < n
all_ended vectors n k ended past a b has =
    let p = position_at vectors a b has in
    let b_is = ap (λ (x : ℕ × ℕ). x.1) p.is in
    let between = position_between (get_or vectors p.k no_vector) p.m p.below in
    let low = ended p.k (omega (arith, p.within)) p.within in
    omega arith

-- the beginning of the first vector that isn't below the count, if there is one
pub from_beginning : (vectors : List StrideVector) (n k : ℕ) (o : Option (ℕ × ℕ)) → AreApart vectors →
    Begun vectors n k → Ended vectors n k →
    IsBeginning vectors k o → IsNextEdge (flat_map edges_of vectors) n o
from_beginning vectors n k None h parted ended past = λ a b has. all_ended vectors n k ended past a b has
from_beginning vectors n k (Some e) h parted ended (within, is) =
    subst (λ (x : ℕ × ℕ). IsFirstEdge (flat_map edges_of vectors) n x) (sym (is no_vector))
    (next_begins vectors n k h parted ended within)

-- the vector before a place that isn't the first, whatever stands for one that is none
module _ (vectors : List StrideVector) (n begun : ℕ) (d : StrideVector) where
  last_is : 1 ≤ begun → begun ≤ length vectors → get_or vectors (begun - 1) d ≡ get_or vectors (begun - 1) no_vector
  last_is some most = get_or_default vectors (begun - 1) d no_vector (omega arith)

  begun_more : 1 ≤ begun → Begun vectors n begun → Begun vectors n (begun - 1 + 1)
  begun_more some parted = let one : begun ≡ begun - 1 + 1 = omega arith in
      subst (λ (k : ℕ). Begun vectors n k) one parted

  pub begins_before : Begun vectors n begun → 1 ≤ begun → begun ≤ length vectors → (get_or vectors (begun - 1) d).b0 ≤ n
  begins_before parted some most =
      leb-true (get_or vectors (begun - 1) d).b0 n (parted.0 (begun - 1) d (omega arith) (omega arith))

  pub from_last : (e : ℕ × ℕ) → AreApart vectors → Begun vectors n begun → 1 ≤ begun → begun ≤ length vectors →
      IsNextPosition (get_or vectors (begun - 1) d) n (Some e) → IsNextEdge (flat_map edges_of vectors) n (Some e)
  from_last e h parted some most f =
      in_last vectors n (begun - 1) e h (begun_more some parted) (omega arith)
      (subst (λ (v : StrideVector). IsFirstPosition v n e) (last_is some most) f)

  pub from_next : (o : Option (ℕ × ℕ)) → AreApart vectors → Begun vectors n begun → 1 ≤ begun → begun ≤ length vectors →
      IsNextPosition (get_or vectors (begun - 1) d) n None → IsBeginning vectors begun o →
      IsNextEdge (flat_map edges_of vectors) n o
  from_next o h parted some most none begins =
      from_beginning vectors n begun o h parted
      (let one : begun - 1 + 1 ≡ begun = omega arith in
      subst (λ (k : ℕ). Ended vectors n k) one
      (ended_more vectors n (begun - 1) h (omega arith) (begun_more some parted)
      (subst (λ (v : StrideVector). IsNextPosition v n None) (last_is some most) none))) begins

-- ---- edges of a log

pub next_into : (which : Which) (r : Recording) (of : ℕ) (at : Instr) (edges : List (ℕ × ℕ)) (o : Option (ℕ × ℕ)) →
    IsPair r.params.cores of at.core →
    edges ≡ edges_of_pair which r (pair_place r.params.cores of at.core) → IsNextEdge edges at.count o →
    IsNextInto (log_edges which r) of at o
next_into which r of at edges o pair is next = by o next
  where
    forth : (a b : ℕ) → Contains edges (a, b) → Leads (log_edges which r) of a at.core b
    forth a b has = (edges-are-paired which r (instr of a) (instr at.core b)).1
        (pair, subst (λ es. Contains es (a, b)) is has)

    back : (a b : ℕ) → Leads (log_edges which r) of a at.core b → Contains edges (a, b)
    back a b has = subst (λ es. Contains es (a, b)) (sym is)
        ((edges-are-paired which r (instr of a) (instr at.core b)).0 has).1

    by : (o : Option (ℕ × ℕ)) → IsNextEdge edges at.count o → IsNextInto (log_edges which r) of at o
    by None none = λ a b has. none a b (back a b has)
    by (Some e) f = record {
      there = forth e.0 e.1 f.there;
      least = f.least;
      first =
          λ a b has le. f.first a b (back a b has) le;
    }
