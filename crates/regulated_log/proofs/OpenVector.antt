-- What the open vector is after an edge that it takes.
use Rattle.std.proofs.Common.{◌≡◌, ℕ, ◌+◌, ◌-◌, ◌*◌, ◌<◌, ◌≤◌, ◌⊎◌, true, refl, sym, ap, subst, ◌∙◌, inl, inr, arith}
use Rattle.stride_vector.specs.declared.StrideVector.{StrideVector}
use Rattle.stride_vector.specs.Vectors.{position_of, last_of}
use Rattle.rtr_types.specs.PairEdges.{EdgeStands}
use Rattle.race_log.specs.Validity.{VectorStands}
use Rattle.edge_regulate.specs.Greedy.{Knows, opened, next_of, takes, second, longer, taking}
use Rattle.edge_regulate.proofs.Cases.{Covered, Second, Strided, taken}
use Rattle.edge_regulate.proofs.AwaitedPositions.{only_is_first}

-- the one vector begins with all positions of the other
pub record Begins (v w : StrideVector) : Type 0 where
  pub many : v.n ≤ w.n
  pub same : (k : ℕ) → k < v.n → position_of w k ≡ position_of v k

pub begins_itself : (v : StrideVector) → Begins v v
begins_itself v = record { many = omega arith; same = λ k below. refl }

pub begins_on : (u v w : StrideVector) → Begins u v → Begins v w → Begins u w
begins_on u v w p q =
    let a = p.many in
    let b = q.many in
    record { many = omega arith; same = λ k below. q.same k (omega arith) ∙ p.same k below }

-- the vector implies the edge by its last position
pub record Implies (v : StrideVector) (e : ℕ × ℕ) : Type 0 where
  pub some : 1 ≤ v.n
  pub source : e.0 ≤ (last_of v).0
  pub target : (last_of v).1 ≤ e.1

-- the last position of the longer vector is the next one
pub last_longer : (v : StrideVector) → last_of (longer v) ≡ next_of v
last_longer v = let back : v.n + 1 - 1 ≡ v.n = omega arith in ap (λ (k : ℕ). position_of v k) back

-- what is taken is implied, and the positions stay
pub record Takes (v : StrideVector) (e : ℕ × ℕ) (w : StrideVector) : Type 0 where
  pub begins : Begins v w
  pub implies : Implies w e

pub taking_implies : (knows : Knows) (v : StrideVector) (e : ℕ × ℕ) → 1 ≤ v.n → (last_of v).1 < e.1 →
    takes knows v e ≡ true → Takes v e (taking v e)
taking_implies knows v e some later t = by (taken knows v e t)
  where
    by : Covered v e ⊎ (Second v e ⊎ Strided knows v e) → Takes v e (taking v e)
    by (inl c) = subst (λ (w : StrideVector). Takes v e w) (sym c.is)
        (record { begins = begins_itself v; implies = record { some = some; source = c.source; target = omega arith } })
    by (inr (inl c)) =
        let one = c.one in
        let above = c.above in
        let first = only_is_first v one in
        subst (λ (w : StrideVector). Takes v e w) (sym c.is)
        (record {
          begins = record { many = omega arith; same = λ k below. at k (omega arith) };
          implies = record { some = omega arith; source = omega arith; target = omega arith };
        })
      where
        at : (k : ℕ) → k ≡ 0 → position_of (second v e) k ≡ position_of v k
        at k zero_is =
            let a : k * (e.0 - v.a0) ≡ k * v.sa = ap (λ (m : ℕ). m * (e.0 - v.a0)) zero_is
            ∙ (let z : 0 * (e.0 - v.a0) ≡ 0 * v.sa = omega arith in z)
            ∙ sym (ap (λ (m : ℕ). m * v.sa) zero_is) in
            let b : k * (e.1 - v.b0) ≡ k * v.sb = ap (λ (m : ℕ). m * (e.1 - v.b0)) zero_is
            ∙ (let z : 0 * (e.1 - v.b0) ≡ 0 * v.sb = omega arith in z)
            ∙ sym (ap (λ (m : ℕ). m * v.sb) zero_is) in
            ap (λ (x : ℕ). (v.a0 + x, v.b0 + k * (e.1 - v.b0))) a ∙ ap (λ (x : ℕ). (v.a0 + k * v.sa, v.b0 + x)) b
    by (inr (inr c)) =
        let last = last_longer v in
        let a = ap (λ (p : ℕ × ℕ). p.0) last in
        let b = ap (λ (p : ℕ × ℕ). p.1) last in
        let source = c.source in
        let target = c.target in
        subst (λ (w : StrideVector). Takes v e w) (sym c.is)
        (record {
          begins = record { many = omega arith; same = λ k below. refl };
          implies = record { some = omega arith; source = omega arith; target = omega arith };
        })

-- ---- it still stands

-- what is known at an instruction of the target is an instruction of the source
abbrev pub KnowsWithin : ℕ × ℕ → Knows → Type 0
KnowsWithin most knows = (a b : ℕ) → 1 ≤ b → b ≤ most.1 → knows a b ≡ true → a ≤ most.0

pub opened_stands : (most last : ℕ × ℕ) (e : ℕ × ℕ) → last.0 < e.0 → last.1 < e.1 → e.0 ≤ most.0 → e.1 ≤ most.1 →
    VectorStands most last (opened e)
opened_stands most last e source target source_most target_most =
    let first = only_is_first (opened e) refl in
    record {
      some = omega arith;
      source_rises = source;
      target_rises = target;
      source_stride = λ many. absurd (omega arith);
      target_stride = λ many. absurd (omega arith);
      no_source_stride = λ few. refl;
      no_target_stride = λ few. refl;
      source_most = omega arith;
      target_most = omega arith;
    }

pub taking_stands : (knows : Knows) (most last seen : ℕ × ℕ) (v : StrideVector) (e : ℕ × ℕ) → KnowsWithin most knows →
    VectorStands most last v →
    (last_of v).1 ≤ seen.1 → EdgeStands most seen e → takes knows v e ≡ true →
    VectorStands most last (taking v e)
taking_stands knows most last seen v e within h ends stands t = by (taken knows v e t)
  where
    by : Covered v e ⊎ (Second v e ⊎ Strided knows v e) → VectorStands most last (taking v e)
    by (inl c) = subst (λ (w : StrideVector). VectorStands most last w) (sym c.is) h
    by (inr (inl c)) =
        let one = c.one in
        let above = c.above in
        let first = only_is_first v one in
        let later = stands.rises.target in
        let source_most = stands.source_most in
        let target_most = stands.target_most in
        subst (λ (w : StrideVector). VectorStands most last w) (sym c.is)
        (record {
          some = omega arith;
          source_rises = h.source_rises;
          target_rises = h.target_rises;
          source_stride = λ many. omega arith;
          target_stride = λ many. omega arith;
          no_source_stride = λ few. absurd (omega arith);
          no_target_stride = λ few. absurd (omega arith);
          source_most = omega arith;
          target_most = omega arith;
        })
    by (inr (inr c)) =
        let some = h.some in
        let many = c.many in
        let more : 1 < v.n = omega arith in
        let reached = last_longer v in
        let a = ap (λ (p : ℕ × ℕ). p.0) reached in
        let b = ap (λ (p : ℕ × ℕ). p.1) reached in
        let target = c.target in
        let target_most = stands.target_most in
        let rises = h.target_rises in
        let known = within (next_of v).0 (next_of v).1 (omega arith) (omega arith) c.known in
        subst (λ (w : StrideVector). VectorStands most last w) (sym c.is)
        (record {
          some = omega arith;
          source_rises = h.source_rises;
          target_rises = h.target_rises;
          source_stride = λ _. h.source_stride more;
          target_stride = λ _. h.target_stride more;
          no_source_stride = λ few. absurd (omega arith);
          no_target_stride = λ few. absurd (omega arith);
          source_most = omega arith;
          target_most = omega arith;
        })
