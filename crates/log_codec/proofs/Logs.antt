-- Edges and vectors that are read are the ones that are spelled, and what is spelled is read again.
use Rattle.std.proofs.Common.{◌≡◌, ℕ, ◌+◌, ◌-◌, ◌^◌, ◌<◌, Bool, true, false, cond, ◌&&◌, nat_lt, nat_le}
use Rattle.std.proofs.Common.{List, [], ◌++◌, Result}
use Rattle.std.proofs.Common.{Ok, Err, refl, ap, subst, ◌∙◌, append_assoc, arith}
use Rattle.std.proofs.Common.{inl, inr}
use Rattle.std.proofs.lemmas.Bool.{cases_lt, and_parts}
use Rattle.std.proofs.lemmas.Bool.Decides.{nat_tests}
use Rattle.stride_vector.specs.declared.StrideVector.{StrideVector}
use Rattle.log_codec.specs.declared.codec_fault.TheConstants.{REDUCED, REGULATED}
use Rattle.log_codec.specs.Faults.{◌>>=◌}
use Rattle.log_codec.specs.Laws.{IsBytes}
use Rattle.rtr_types.specs.Turns.{follow}
use Rattle.log_codec.specs.Turns.{alike}
use Rattle.rtr_types.specs.PairEdges.{EdgeStands, AreEdges}
use Rattle.race_log.specs.Validity.{VectorStands, AreVectors, end_of, vector_stands}
use Rattle.log_codec.specs.Spelling.{number, edge_text, edges_text, strides_text, vector_text, vectors_text}
use Rattle.log_codec.specs.Reading.{number_at, edge_at, edges_at, two_strides, strides_at, standing, vector_at}
use Rattle.log_codec.specs.Reading.{vectors_at}
use Rattle.log_codec.proofs.ReadingSteps.{bind_ok, guard_ok, ok_is, Takes, Takes-then, Takes-none}
use Rattle.log_codec.proofs.FieldLaws.{number_takes, number_again}
use Rattle.log_codec.proofs.CountedLists.{counted_again, counted_takes}
use Rattle.race_log.proofs.Logs.{StridesStand, few_edges, few_vectors}
use Rattle.race_log.proofs.Logs.{true-vector}
use Rattle.race_log.proofs.Logs.{vector-true, vector_small}

-- ---- an edge

edge_takes : (most last : ℕ × ℕ) (bytes : List ℕ) (e : ℕ × ℕ) (rest : List ℕ) → IsBytes bytes →
    edge_at most last bytes ≡ Ok (e, rest) →
    Takes bytes (edge_text last e) rest × EdgeStands most last e
unfolding edge_at
edge_takes most last bytes e rest are h =
    let p = bind_ok (number_at REDUCED bytes)
    (λ b. number_at REDUCED b.1 >>= λ a. cond
    ((nat_lt 0 a.0 && nat_lt 0 b.0) && (nat_le (last.0 + a.0) most.0 && nat_le (last.1 + b.0) most.1))
    (Ok ((last.0 + a.0, last.1 + b.0), a.1)) (Err REDUCED)) (e, rest) h in
    let b = p.0 in
    let q = bind_ok (number_at REDUCED b.1)
    (λ a. cond ((nat_lt 0 a.0 && nat_lt 0 b.0) && (nat_le (last.0 + a.0) most.0 && nat_le (last.1 + b.0) most.1))
    (Ok ((last.0 + a.0, last.1 + b.0), a.1))
    (Err REDUCED)) (e, rest) p.2 in
    let a = q.0 in
    let g = guard_ok ((nat_lt 0 a.0 && nat_lt 0 b.0) && (nat_le (last.0 + a.0) most.0 && nat_le (last.1 + b.0) most.1))
    REDUCED (
      (last.0 + a.0, last.1 + b.0),
      a.1,
    ) (e, rest) q.2 in
    let tb = number_takes REDUCED bytes b.0 b.1 are p.1 in
    let ta = number_takes REDUCED b.1 a.0 a.1 tb.0.rest_fits q.1 in
    let u = and_parts (nat_lt 0 a.0 && nat_lt 0 b.0) (nat_le (last.0 + a.0) most.0 && nat_le (last.1 + b.0) most.1) g.0
    in
    let v = and_parts (nat_lt 0 a.0) (nat_lt 0 b.0) u.0 in
    let w = and_parts (nat_le (last.0 + a.0) most.0) (nat_le (last.1 + b.0) most.1) u.1 in
    build a.0 b.0 a.1 (Takes-then bytes (number b.0) b.1 (number a.0) a.1 tb.0 ta.0)
    (ap (λ (x : (ℕ × ℕ) × List ℕ). x.0.0) g.1)
    (ap (λ (x : (ℕ × ℕ) × List ℕ). x.0.1) g.1) (ap (λ (x : (ℕ × ℕ) × List ℕ). x.1) g.1) v.0 v.1 w.0 w.1
  where
    build : (a b : ℕ) (after : List ℕ) → Takes bytes (number b ++ number a) after → last.0 + a ≡ e.0 →
        last.1 + b ≡ e.1 → after ≡ rest → nat_lt 0 a ≡ true →
        nat_lt 0 b ≡ true → nat_le (last.0 + a) most.0 ≡ true → nat_le (last.1 + b) most.1 ≡ true →
        Takes bytes (edge_text last e) rest × EdgeStands most last e
    build a b after taken a_is b_is after_is pos_a pos_b most_a most_b =
        let a' : a ≡ e.0 - last.0 = omega arith in
        let b' : b ≡ e.1 - last.1 = omega arith in
        let named : Takes bytes (edge_text last e) rest = rw (← a', ← b', ← after_is) taken in (
          named,
          record {
            rises = record { source = grind (arith, nat_tests); target = grind (arith, nat_tests) };
            source_most = grind (arith, nat_tests);
            target_most = grind (arith, nat_tests);
          },
        )

edge_again : (most last e : ℕ × ℕ) (rest : List ℕ) → most.0 < 2 ^ 32 → most.1 < 2 ^ 32 → EdgeStands most last e →
    edge_at most last (edge_text last e ++ rest)
    ≡ Ok (e, rest)
unfolding edge_at
edge_again most last e rest fits_a fits_b stands =
    let a_up = stands.rises.source in
    let b_up = stands.rises.target in
    let a_most = stands.source_most in
    let b_most = stands.target_most in
    let one : nat_lt 0 (e.0 - last.0) ≡ true = grind (arith, nat_tests) in
    let two : nat_lt 0 (e.1 - last.1) ≡ true = grind (arith, nat_tests) in
    let three : nat_le (last.0 + (e.0 - last.0)) most.0 ≡ true = grind (arith, nat_tests) in
    let four : nat_le (last.1 + (e.1 - last.1)) most.1 ≡ true = grind (arith, nat_tests) in
    let a_is : last.0 + (e.0 - last.0) ≡ e.0 = omega arith in
    let b_is : last.1 + (e.1 - last.1) ≡ e.1 = omega arith in
    ap (edge_at most last) (append_assoc (number (e.1 - last.1)) (number (e.0 - last.0)) rest)
    ∙ rw (
      number_again REDUCED (e.1 - last.1) (number (e.0 - last.0) ++ rest) (omega arith),
      number_again REDUCED (e.0 - last.0) rest (omega arith),
      one,
      two,
      three,
      four,
      a_is,
      b_is,
    ) refl

-- ---- the edges of a pair

pub edges_take : (most : ℕ × ℕ) (bytes : List ℕ) (edges : List (ℕ × ℕ)) (rest : List ℕ) → IsBytes bytes →
    edges_at most bytes ≡ Ok (edges, rest) →
    Takes bytes (edges_text edges) rest × AreEdges most edges
unfolding edges_at
edges_take most = counted_takes (edge_at most) follow edge_text (EdgeStands most) (edge_takes most) REDUCED (0, 0)

pub edges_again : (most : ℕ × ℕ) (edges : List (ℕ × ℕ)) (rest : List ℕ) → most.0 < 2 ^ 32 → most.1 < 2 ^ 32 →
    AreEdges most edges →
    edges_at most (edges_text edges ++ rest) ≡ Ok (edges, rest)
unfolding edges_at
edges_again most edges rest fits_a fits_b h =
    let few = few_edges most edges h in
    counted_again (edge_at most) follow edge_text (EdgeStands most)
    (λ s x r stands. edge_again most s x r fits_a fits_b stands) REDUCED (0, 0) edges rest (omega arith) h

-- ---- a vector

-- the strides of a vector with n positions
strides_takes : (n : ℕ) (bytes : List ℕ) (sa sb : ℕ) (rest : List ℕ) → IsBytes bytes →
    strides_at n bytes ≡ Ok (sa, sb, rest) →
    Takes bytes (cond (nat_lt 1 n) (number sa ++ number sb) []) rest
unfolding strides_at
strides_takes n bytes sa sb rest are e = by (nat_lt 1 n) e
  where
    by : (t : Bool) → cond t (two_strides bytes) (Ok (0, 0, bytes)) ≡ Ok (sa, sb, rest) →
        Takes bytes (cond t (number sa ++ number sb) []) rest
    by true f =
        let a = bind_ok (number_at REGULATED bytes) (λ a. number_at REGULATED a.1 >>= λ b. Ok (a.0, b.0, b.1))
        (sa, sb, rest) f in
        let b = bind_ok (number_at REGULATED a.0.1) (λ b. Ok (a.0.0, b.0, b.1)) (sa, sb, rest) a.2 in
        let ta = number_takes REGULATED bytes a.0.0 a.0.1 are a.1 in
        let tb = number_takes REGULATED a.0.1 b.0.0 b.0.1 ta.0.rest_fits b.1 in
        let both = Takes-then bytes (number a.0.0) a.0.1 (number b.0.0) b.0.1 ta.0 tb.0 in
        let made : ℕ × ℕ × List ℕ = (a.0.0, b.0.0, b.0.1) in
        subst (λ (y : ℕ × ℕ × List ℕ). Takes bytes (number y.0 ++ number y.1) y.2) (ok_is made (sa, sb, rest) b.2) both
    by false f =
        let none : ℕ × ℕ × List ℕ = (0, 0, bytes) in
        subst (λ (y : ℕ × ℕ × List ℕ). Takes bytes [] y.2) (ok_is none (sa, sb, rest) f) (Takes-none bytes are)

strides_again : (v : StrideVector) (rest : List ℕ) → v.sa < 2 ^ 32 → v.sb < 2 ^ 32 → StridesStand v →
    strides_at v.n (strides_text v ++ rest)
    ≡ Ok (v.sa, v.sb, rest)
unfolding strides_at
strides_again v rest fits_a fits_b h = elim (cases_lt 1 v.n) [
  | inl more ↦
      let t : nat_lt 1 v.n ≡ true = grind (arith, nat_tests) in
      rw t (ap two_strides (append_assoc (number v.sa) (number v.sb) rest)
      ∙ rw (number_again REGULATED v.sa (number v.sb ++ rest) fits_a, number_again REGULATED v.sb rest fits_b) refl)
  | inr one ↦
      let t : nat_lt 1 v.n ≡ false = grind (arith, nat_tests) in
      rw (t, h.no_source_stride one, h.no_target_stride one) refl
]

abbrev after_b : ℕ × ℕ → ℕ × ℕ → ℕ → ℕ → ℕ × List ℕ → Result (StrideVector × List ℕ) ℕ
after_b most last n a b =
    strides_at n b.1 >>= λ strides. standing most last
    (record { n = n; a0 = a; b0 = b.0; sa = strides.0; sb = strides.1 }) strides.2

abbrev after_a : ℕ × ℕ → ℕ × ℕ → ℕ → ℕ × List ℕ → Result (StrideVector × List ℕ) ℕ
after_a most last n a = number_at REGULATED a.1 >>= λ b. after_b most last n a.0 b

abbrev after_n : ℕ × ℕ → ℕ × ℕ → ℕ × List ℕ → Result (StrideVector × List ℕ) ℕ
after_n most last n = number_at REGULATED n.1 >>= λ a. after_a most last n.0 a

vector_takes : (most last : ℕ × ℕ) (bytes : List ℕ) (v : StrideVector) (rest : List ℕ) → IsBytes bytes →
    vector_at most last bytes ≡ Ok (v, rest) →
    Takes bytes (vector_text v) rest × VectorStands most last v
unfolding vector_at
vector_takes most last bytes v rest are h =
    let n = bind_ok (number_at REGULATED bytes) (after_n most last) (v, rest) h in
    let a = bind_ok (number_at REGULATED n.0.1) (after_a most last n.0.0) (v, rest) n.2 in
    let b = bind_ok (number_at REGULATED a.0.1) (after_b most last n.0.0 a.0.0) (v, rest) a.2 in
    let s = bind_ok (strides_at n.0.0 b.0.1)
    (λ strides. standing most last (record { n = n.0.0; a0 = a.0.0; b0 = b.0.0; sa = strides.0; sb = strides.1 })
    strides.2) (v, rest) b.2 in
    let made : StrideVector = record { n = n.0.0; a0 = a.0.0; b0 = b.0.0; sa = s.0.0; sb = s.0.1 } in
    let g = guard_ok (vector_stands most last made) REGULATED (made, s.0.2) (v, rest) s.2 in
    let tn = number_takes REGULATED bytes n.0.0 n.0.1 are n.1 in
    let ta = number_takes REGULATED n.0.1 a.0.0 a.0.1 tn.0.rest_fits a.1 in
    let tb = number_takes REGULATED a.0.1 b.0.0 b.0.1 ta.0.rest_fits b.1 in
    let ts = strides_takes n.0.0 b.0.1 s.0.0 s.0.1 s.0.2 tb.0.rest_fits s.1 in
    let t1 = Takes-then a.0.1 (number b.0.0) b.0.1 (strides_text made) s.0.2 tb.0 ts in
    let t2 = Takes-then n.0.1 (number a.0.0) a.0.1 (number b.0.0 ++ strides_text made) s.0.2 ta.0 t1 in
    let t3 = Takes-then bytes (number n.0.0) n.0.1 (number a.0.0 ++ (number b.0.0 ++ strides_text made)) s.0.2 tn.0 t2
    in
    subst (λ (y : StrideVector × List ℕ). Takes bytes (vector_text y.0) y.1 × VectorStands most last y.0) g.1
    (t3, vector-true most last made g.0)

vector_again : (most last : ℕ × ℕ) (v : StrideVector) (rest : List ℕ) → most.0 < 2 ^ 32 → most.1 < 2 ^ 32 →
    VectorStands most last v →
    vector_at most last (vector_text v ++ rest) ≡ Ok (v, rest)
unfolding vector_at
vector_again most last v rest fits_a fits_b h =
    let small = vector_small most last v h in
    let n_small = small.n in let a_small = small.a0 in let b_small = small.b0 in let sa_small = small.sa in
    let sb_small = small.sb in
    let strides = strides_again v rest (omega arith) (omega arith)
    (record {
      source_stride = h.source_stride;
      target_stride = h.target_stride;
      no_source_stride = h.no_source_stride;
      no_target_stride = h.no_target_stride;
    }) in
    let regrouped : vector_text v ++ rest ≡ number v.n ++ (number v.a0 ++ (number v.b0 ++ (strides_text v ++ rest))) =
    simp append_assoc in
    let n = number_again REGULATED v.n (number v.a0 ++ (number v.b0 ++ (strides_text v ++ rest))) (omega arith) in
    let a = number_again REGULATED v.a0 (number v.b0 ++ (strides_text v ++ rest)) (omega arith) in
    let b = number_again REGULATED v.b0 (strides_text v ++ rest) (omega arith) in
    ap (vector_at most last) regrouped ∙ rw (n, a, b, strides, true-vector most last v h) refl

-- ---- the vectors of a pair

pub vectors_take : (most : ℕ × ℕ) (bytes : List ℕ) (vectors : List StrideVector) (rest : List ℕ) → IsBytes bytes →
    vectors_at most bytes ≡ Ok (vectors, rest) → Takes bytes (vectors_text vectors) rest × AreVectors most vectors
unfolding vectors_at
vectors_take most =
    counted_takes (vector_at most) end_of (alike vector_text) (VectorStands most) (vector_takes most) REGULATED (0, 0)

pub vectors_again : (most : ℕ × ℕ) (vectors : List StrideVector) (rest : List ℕ) → most.0 < 2 ^ 32 →
    most.1 < 2 ^ 32 → AreVectors most vectors →
    vectors_at most (vectors_text vectors ++ rest) ≡ Ok (vectors, rest)
unfolding vectors_at
vectors_again most vectors rest fits_a fits_b h =
    let few = few_vectors most vectors h in
    counted_again (vector_at most) end_of (alike vector_text) (VectorStands most)
    (λ s x r stands. vector_again most s x r fits_a fits_b stands) REGULATED (0, 0) vectors rest (omega arith) h
