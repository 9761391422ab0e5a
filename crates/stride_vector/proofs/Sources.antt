-- Which position has a given target.
use Rattle.std.proofs.Common.{◌≡◌, ◌≢◌, ℕ, zero, suc, ◌+◌, ◌*◌, ◌/◌, ◌%◌, ◌<◌, ◌≤◌, sym, ap, ◌∙◌, arith}
use Rattle.std.specs.List.{range_with_len}
use Rattle.std.proofs.Math.Nat.{mul-mod_left, mul-le-mul_left}
use Rattle.std.proofs.lemmas.Nat.{div-mul-add}
use Rattle.std.proofs.lemmas.List.{length-map}
use Rattle.std.proofs.lemmas.List.FromFn.{length-range_with_len, get_or-map-range_with_len}
use Rattle.stride_vector.specs.Vectors.{position_of, EdgesPlaced, PositionsRise}

-- without a rise it is the first
pub at_first : (n sa sb k : ℕ) → k < n → (1 < n → 1 ≤ sb) → k * sb ≡ 0 → k * sa ≡ 0
at_first n sa sb zero below rises is = omega arith
at_first n sa sb (suc k) below rises is = absurd (let some : 1 ≤ sb = rises (omega arith) in omega arith)

-- with a rise it isn't the only one
pub not_one : (n sb k : ℕ) → n ≡ 1 → k < n → k * sb ≢ 0 → ⊥
not_one n sb zero one below other = other (omega arith)
not_one n sb (suc k) one below other = omega arith

-- its rise is a number of strides
pub whole : (sb k rise : ℕ) → k * sb ≡ rise → rise % sb ≡ 0
whole sb k rise is = ap (λ (r : ℕ). r % sb) (sym is) ∙ mul-mod_left k sb

-- that number is its place
pub place : (sb k rise : ℕ) → 1 ≤ sb → k * sb ≡ rise → rise / sb ≡ k
place sb k rise some is = let same : rise ≡ k * sb + 0 = omega arith in
    ap (λ (r : ℕ). r / sb) same ∙ div-mul-add k sb 0 (omega arith)

-- a later position is at least a stride further
further : (k m s : ℕ) → k < m → 1 ≤ s → k * s < m * s
further k m s before some =
    let more = mul-le-mul_left {m = k + 1} {n = m} s (omega arith) in
    omega arith

pub positions-rise : PositionsRise
positions-rise v k m vector before below =
    let a = further k m v.sa before (vector.source_rises (omega arith)) in
    let b = further k m v.sb before (vector.target_rises (omega arith)) in
    (omega arith, omega arith)

pub edges-placed : EdgesPlaced
edges-placed v = (
  length-map (range_with_len 0 v.n) (position_of v) ∙ length-range_with_len 0 v.n,
  λ k d below. get_or-map-range_with_len (position_of v) 0 v.n k k d below (omega arith),
)
