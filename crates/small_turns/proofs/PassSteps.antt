-- Passes, one after the other, and one step of a pass.
use Rattle.std.proofs.Common.{◌≡◌, ◌∙◌, sym, ap, ℕ, ◌+◌, ◌-◌, ◌<◌, ◌≤◌, Bool, true, false, List, length, arith}
use Rattle.std.proofs.Common.{below_more}
use Rattle.turn_lists.specs.Turns.{count_at, left_out, with_count}
use Rattle.turn_lists.specs.declared.actor.Turn.{Turn}
use Rattle.small_turns.specs.Passes.{IsNoLarger, IsPass, weight}
use Rattle.small_turns.proofs.Weights.{left_out_lighter, left_out_long, left_out_no_larger, with_count_lighter}
use Rattle.small_turns.proofs.Weights.{with_count_long, with_count_no_larger}

-- what is changed isn't as it was
pub not_both : (P : Type 0) → true ≡ false → P
not_both P h = absurd (cc)

larger_never : (ts us vs : List Turn) → IsNoLarger ts us → IsNoLarger us vs → IsNoLarger ts vs
larger_never ts us vs p q = record {
  fewer = omega (arith, p.fewer, q.fewer);
  shorter = omega (arith, p.shorter, q.shorter);
}

one_step : (breaks : List Turn → Bool) (before : List Turn) (had : Bool) (ts : List Turn) (changed : Bool)
    (us : List Turn) → IsPass breaks before had ts changed → breaks us ≡ true → IsNoLarger ts us →
    weight us < weight ts → IsPass breaks before had us true
one_step breaks before had ts changed us p h no_larger less = record {
  breaks_it = h;
  no_larger = larger_never before ts us p.no_larger no_larger;
  falls = omega (arith, p.falls);
  kept = λ e. absurd (cc);
}

-- turns are left out, and the rest breaks the claim
pub one_left_out : (breaks : List Turn → Bool) (before : List Turn) (had : Bool) (ts : List Turn) (changed : Bool)
    (new : List Turn) (from to : ℕ) → IsPass breaks before had ts changed → new ≡ left_out from to ts → from < to →
    to ≤ length ts → breaks new ≡ true → IsPass breaks before had new true
one_left_out breaks before had ts changed new from to p is up within h =
    one_step breaks before had ts changed new p h (rw is (left_out_no_larger from to ts (omega arith) within))
    (omega (arith, ap weight is, left_out_lighter from to ts up within))

pub left_out_falls : (ts new : List Turn) (from to at : ℕ) → new ≡ left_out from to ts → at ≡ from → from < to →
    to ≤ length ts → weight new + (length new - at) < weight ts + (length ts - from)
left_out_falls ts new from to at is same up within =
    omega (
      arith,
      ap weight is,
      ap length is,
      same,
      left_out_lighter from to ts up within,
      left_out_long from to ts (omega arith) within,
    )

pub passed_by_falls : (ts new : List Turn) (from to at : ℕ) → new ≡ ts → at ≡ to → from < to → to ≤ length ts →
    weight new + (length new - at) < weight ts + (length ts - from)
passed_by_falls ts new from to at is same up within = omega (arith, ap weight is, ap length is, same)

-- one turn more can't be left out
pub needed_more : (breaks : List Turn → Bool) (ts : List Turn) (from to : ℕ) → to ≡ from + 1 →
    breaks (left_out from to ts) ≡ false →
    ((k : ℕ) → k < from → breaks (left_out k (k + 1) ts) ≡ false) →
    (k : ℕ) → k < to → breaks (left_out k (k + 1) ts) ≡ false
needed_more breaks ts from to is here below k h =
    below_more (λ (j : ℕ). breaks (left_out j (j + 1) ts) ≡ false) from below
    (ap (λ (n : ℕ). breaks (left_out from n ts)) (sym is) ∙ here) k (omega arith)

-- a turn gets a lower count, and the turns break the claim
pub one_shorter : (breaks : List Turn → Bool) (before : List Turn) (had : Bool) (ts : List Turn) (changed : Bool)
    (us new : List Turn) (k n : ℕ) → us ≡ ts → IsPass breaks before had ts changed → new ≡ with_count k n ts →
    k < length ts → n < count_at k ts → breaks (with_count k n us) ≡ true → IsPass breaks before had new true
one_shorter breaks before had ts changed us new k n same p is within less h =
    one_step breaks before had ts changed new p
    (ap breaks is ∙ ap (λ (vs : List Turn). breaks (with_count k n vs)) (sym same) ∙ h)
    (rw is (with_count_no_larger ts k n within less))
    (omega (arith, ap weight is, with_count_lighter ts k n within less))

pub shorter_long : (ts new : List Turn) (k n m : ℕ) → new ≡ with_count k n ts → length ts ≡ m → length new ≡ m
shorter_long ts new k n m is long = ap length is ∙ with_count_long ts k n ∙ long

-- one turn more can't be shorter
pub shortest_more : (breaks : List Turn → Bool) (ts us : List Turn) (place n : ℕ) → us ≡ ts → n ≤ count_at place us →
    count_at place ts ≤ n → (1 < n → breaks (with_count place (n - 1) us) ≡ false) →
    ((k : ℕ) → k < place → 1 < count_at k ts → breaks (with_count k (count_at k ts - 1) ts) ≡ false) →
    (k : ℕ) → k < place + 1 → 1 < count_at k ts → breaks (with_count k (count_at k ts - 1) ts) ≡ false
shortest_more breaks ts us place n same most least here below =
    let is : n ≡ count_at place ts = omega (arith, ap (count_at place) same) in
    below_more (λ (k : ℕ). 1 < count_at k ts → breaks (with_count k (count_at k ts - 1) ts) ≡ false) place below
    (λ h. ap (λ (m : ℕ). breaks (with_count place (m - 1) ts)) (sym is)
    ∙ ap (λ (vs : List Turn). breaks (with_count place (n - 1) vs)) (sym same) ∙ here (omega arith))
