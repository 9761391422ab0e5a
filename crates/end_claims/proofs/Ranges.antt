-- The numbers of a range, by the first of them.
use Rattle.std.proofs.Common.{◌≡◌, ℕ, suc, ◌+◌, ◌-◌, ◌<◌, [], ◌∷◌, arith, ap}
use Rattle.std.specs.List.{range_with_len}

pub range_front : (a n : ℕ) → a < n → range_with_len a (n - a) ≡ a ∷ range_with_len (a + 1) (n - (a + 1))
range_front a n h =
    let more : n - a ≡ suc (n - (a + 1)) = omega arith in
    ap (λ (k : ℕ). range_with_len a k) more

pub range_end : (n : ℕ) → range_with_len n (n - n) ≡ []
range_end n = let none : n - n ≡ 0 = omega arith in ap (λ (k : ℕ). range_with_len n k) none
