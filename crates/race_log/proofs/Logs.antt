-- How many edges and vectors a pair has, and vectors as facts and as tests.
use Rattle.std.proofs.Common.{◌≡◌, ℕ, ◌+◌, ◌-◌, ◌*◌, ◌<◌, ◌≤◌, true, false, ◌&&◌, nat_lt, nat_le}
use Rattle.std.proofs.Common.{nat_eq, List, [], ◌∷◌, length}
use Rattle.std.proofs.Common.{refl, arith}
use Rattle.std.specs.Prelude.{sum_by}
use Rattle.std.proofs.Common.{inl, inr}
use Rattle.std.proofs.Math.Nat.{mul-le-mul_left}
use Rattle.std.proofs.lemmas.Bool.{cases_lt, and_parts}
use Rattle.std.proofs.lemmas.List.Sums.{sum_by-cons}
use Rattle.std.proofs.lemmas.Bool.Decides.{nat_tests}
use Rattle.stride_vector.specs.declared.StrideVector.{StrideVector}
use Rattle.stride_vector.specs.Vectors.{last_of}
use Rattle.rtr_types.specs.Turns.{StandInTurn, follow}
use Rattle.rtr_types.specs.PairEdges.{EdgeStands, AreEdges}
use Rattle.race_log.specs.Validity.{VectorStands, AreVectors, end_of, strides_stand, vector_stands}

-- ---- the edges of a pair

-- rising counts leave room for no more edges than the total
edges-few : (most last : ℕ × ℕ) (edges : List (ℕ × ℕ)) → last.0 ≤ most.0 →
    StandInTurn (EdgeStands most) follow last edges → last.0 + length edges ≤ most.0
edges-few most last [] le h = omega arith
edges-few most last (e ∷ edges) le h =
    let up = h.0.rises.source in
    let rest = edges-few most e edges h.0.source_most h.1 in
    omega arith

pub few_edges : (most : ℕ × ℕ) (edges : List (ℕ × ℕ)) → AreEdges most edges → length edges ≤ most.0
few_edges most edges h = let few = edges-few most (0, 0) edges (omega arith) h in omega arith

-- ---- a vector

rise-least : (n s : ℕ) → (1 < n → 1 ≤ s) → n - 1 ≤ (n - 1) * s
rise-least n s some = elim (cases_lt 1 n) [
  | inl more ↦ let one = some more in let up = mul-le-mul_left {m = 1} {n = s} (n - 1) one in omega arith
  | inr none ↦ omega arith
]

stride-least : (n s : ℕ) → (n ≤ 1 → s ≡ 0) → s ≤ (n - 1) * s
stride-least n s none = elim (cases_lt 1 n) [
  | inl more ↦ let least : 1 ≤ n - 1 = omega arith in let up = mul-le-mul_left {m = 1} {n = n - 1} s least in
      omega arith
  | inr one ↦ let zero_is = none one in omega arith
]

-- how far a vector reaches at least, and that its numbers are at most the totals
pub record VectorSmall (most last : ℕ × ℕ) (v : StrideVector) : Type 0 where
  pub reaches : last.0 + v.n ≤ (last_of v).0
  pub n : v.n ≤ most.0
  pub a0 : v.a0 ≤ most.0
  pub b0 : v.b0 ≤ most.1
  pub sa : v.sa ≤ most.0
  pub sb : v.sb ≤ most.1

pub vector_small : (most last : ℕ × ℕ) (v : StrideVector) → VectorStands most last v → VectorSmall most last v
vector_small most last v h =
    let up = rise-least v.n v.sa h.source_stride in
    let a = stride-least v.n v.sa h.no_source_stride in
    let b = stride-least v.n v.sb h.no_target_stride in
    let some = h.some in
    let first = h.source_rises in
    let end_a = h.source_most in
    let end_b = h.target_most in
    record {
      reaches = omega arith;
      n = omega arith;
      a0 = omega arith;
      b0 = omega arith;
      sa = omega arith;
      sb =
          omega arith;
    }

-- strides stand between positions alone
pub record StridesStand (v : StrideVector) : Type 0 where
  pub source_stride : 1 < v.n → 1 ≤ v.sa
  pub target_stride : 1 < v.n → 1 ≤ v.sb
  pub no_source_stride : v.n ≤ 1 → v.sa ≡ 0
  pub no_target_stride : v.n ≤ 1 → v.sb ≡ 0

pub strides-true : (v : StrideVector) → strides_stand v ≡ true → StridesStand v
strides-true v e = elim (cases_lt 1 v.n) [
  | inl more ↦
      let t : nat_lt 1 v.n ≡ true = grind (arith, nat_tests) in
      let f : nat_le 1 v.sa && nat_le 1 v.sb ≡ true = rw t at e in
      let both = and_parts (nat_le 1 v.sa) (nat_le 1 v.sb) f in
      let a = both.0 in
      let b = both.1 in
      let sa : 1 ≤ v.sa = grind (arith, nat_tests) in
      let sb : 1 ≤ v.sb = grind (arith, nat_tests) in
      record {
        source_stride = λ h. sa;
        target_stride = λ h. sb;
        no_source_stride = λ h. absurd (omega arith);
        no_target_stride = λ h. absurd (omega arith);
      }
  | inr one ↦
      let t : nat_lt 1 v.n ≡ false = grind (arith, nat_tests) in
      let f : nat_eq v.sa 0 && nat_eq v.sb 0 ≡ true = rw t at e in
      let both = and_parts (nat_eq v.sa 0) (nat_eq v.sb 0) f in
      let a = both.0 in
      let b = both.1 in
      let sa : v.sa ≡ 0 = grind (arith, nat_tests) in
      let sb : v.sb ≡ 0 = grind (arith, nat_tests) in
      record {
        source_stride = λ h. absurd (omega arith);
        target_stride = λ h. absurd (omega arith);
        no_source_stride =
            λ h. sa;
        no_target_stride = λ h. sb;
      }
]

pub true-strides : (v : StrideVector) → StridesStand v → strides_stand v ≡ true
true-strides v h = elim (cases_lt 1 v.n) [
  | inl more ↦
      let t : nat_lt 1 v.n ≡ true = grind (arith, nat_tests) in
      let sa = h.source_stride more in
      let sb = h.target_stride more in
      let a : nat_le 1 v.sa ≡ true = grind (arith, nat_tests) in
      let b : nat_le 1 v.sb ≡ true = grind (arith, nat_tests) in
      rw (t, a, b) refl
  | inr one ↦
      let t : nat_lt 1 v.n ≡ false = grind (arith, nat_tests) in
      let sa = h.no_source_stride one in
      let sb = h.no_target_stride one in
      let a : nat_eq v.sa 0 ≡ true = grind (arith, nat_tests) in
      let b : nat_eq v.sb 0 ≡ true = grind (arith, nat_tests) in
      rw (t, a, b) refl
]

pub vector-true : (most last : ℕ × ℕ) (v : StrideVector) → vector_stands most last v ≡ true → VectorStands most last v
vector-true most last v e =
    let p = and_parts (nat_le 1 v.n && strides_stand v) ((nat_lt last.0 v.a0 && nat_lt last.1 v.b0)
    && (nat_le (last_of v).0 most.0 && nat_le (last_of v).1 most.1)) e in
    let q = and_parts (nat_le 1 v.n) (strides_stand v) p.0 in
    let r = and_parts (nat_lt last.0 v.a0 && nat_lt last.1 v.b0)
    (nat_le (last_of v).0 most.0 && nat_le (last_of v).1 most.1) p.1 in
    let s = and_parts (nat_lt last.0 v.a0) (nat_lt last.1 v.b0) r.0 in
    let t = and_parts (nat_le (last_of v).0 most.0) (nat_le (last_of v).1 most.1) r.1 in
    let strides = strides-true v q.1 in
    let q0 = q.0 in let s0 = s.0 in let s1 = s.1 in let t0 = t.0 in let t1 = t.1 in
    record {
      some = grind (arith, nat_tests);
      source_rises = grind (arith, nat_tests);
      target_rises = grind (arith, nat_tests);
      source_stride = strides.source_stride;
      target_stride = strides.target_stride;
      no_source_stride = strides.no_source_stride;
      no_target_stride = strides.no_target_stride;
      source_most = grind (arith, nat_tests);
      target_most = grind (arith, nat_tests);
    }

pub strides_of : (most last : ℕ × ℕ) (v : StrideVector) → VectorStands most last v → StridesStand v
strides_of most last v h = record {
  source_stride = h.source_stride;
  target_stride = h.target_stride;
  no_source_stride = h.no_source_stride;
  no_target_stride = h.no_target_stride;
}

pub true-vector : (most last : ℕ × ℕ) (v : StrideVector) → VectorStands most last v → vector_stands most last v ≡ true
true-vector most last v h =
    let h0 = h.some in let h1 = h.source_rises in let h2 = h.target_rises in let h3 = h.source_most in let h4 =
    h.target_most in
    let a : nat_le 1 v.n ≡ true = grind (arith, nat_tests) in
    let b = true-strides v (strides_of most last v h) in
    let c : nat_lt last.0 v.a0 ≡ true = grind (arith, nat_tests) in
    let d : nat_lt last.1 v.b0 ≡ true = grind (arith, nat_tests) in
    let e : nat_le (last_of v).0 most.0 ≡ true = grind (arith, nat_tests) in
    let f : nat_le (last_of v).1 most.1 ≡ true = grind (arith, nat_tests) in
    rw (a, b, c, d, e, f) refl

-- ---- the vectors of a pair

-- rising positions leave room for no more of them than the total
positions-few : (most last : ℕ × ℕ) (vectors : List StrideVector) → last.0 ≤ most.0 →
    StandInTurn (VectorStands most) end_of last vectors →
    last.0 + sum_by (λ v. v.n) vectors ≤ most.0
positions-few most last [] le h = omega arith
positions-few most last (v ∷ vectors) le h =
    let reaches = (vector_small most last v h.0).reaches in
    let rest = positions-few most (last_of v) vectors h.0.source_most h.1 in
    rw (sum_by-cons (λ (w : StrideVector). w.n) v vectors) (omega arith)

pub few_positions : (most : ℕ × ℕ) (vectors : List StrideVector) → AreVectors most vectors →
    sum_by (λ v. v.n) vectors ≤ most.0
few_positions most vectors h = let few = positions-few most (0, 0) vectors (omega arith) h in omega arith

vectors-few : (most last : ℕ × ℕ) (vectors : List StrideVector) → StandInTurn (VectorStands most) end_of last vectors →
    length vectors ≤ sum_by (λ v. v.n) vectors
vectors-few most last [] h = omega arith
vectors-few most last (v ∷ vectors) h =
    let some = h.0.some in
    let rest = vectors-few most (last_of v) vectors h.1 in
    rw (sum_by-cons (λ (w : StrideVector). w.n) v vectors) (omega arith)

pub few_vectors : (most : ℕ × ℕ) (vectors : List StrideVector) → AreVectors most vectors → length vectors ≤ most.0
few_vectors most vectors h =
    let few = few_positions most vectors h in
    let less = vectors-few most (0, 0) vectors h in
    omega arith
