-- What is left of a list behind its first elements.
use Rattle.std.proofs.Common.{◌≡◌, ◌↔◌, ℕ, ◌+◌, ◌≤◌, zero, suc, List, [], ◌∷◌, length, drop, Some, arith}
use Rattle.std.specs.List.{slice_get}

-- nothing is left where all came before
pub left_nil : {A : Type 0} (n : ℕ) (xs : List A) → n ≤ length xs → (drop n xs ≡ []) ↔ (n ≡ length xs)
left_nil zero [] within = grind arith
left_nil zero (x ∷ xs) within = grind arith
left_nil (suc n) [] within = grind arith
left_nil (suc n) (x ∷ xs) within = grind (arith, left_nil n xs)

-- the next element, and what is left behind it
pub left_next : {A : Type 0} (n : ℕ) (xs : List A) (x : A) → slice_get xs n ≡ Some x → drop n xs ≡ x ∷ drop (n + 1) xs
left_next n [] x at = grind arith
left_next zero (y ∷ xs) x at = grind arith
left_next (suc n) (y ∷ xs) x at = grind (arith, left_next n xs x)
