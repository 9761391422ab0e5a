-- Lists by their items.
use Rattle.std.proofs.Common.{◌≡◌, ◌∙◌, ℕ, zero, suc, ◌<◌, List, [], ◌∷◌, length, get_or, refl, ap, arith}
use Rattle.rtr_types.specs.Turns.{StandInTurn, stay}

-- lists that are as long and have the same item at each place are the same
pub same_items : {X : Type 0} (d : X) (xs ys : List X) → length xs ≡ length ys → ((i : ℕ) → i < length xs
    → get_or xs i d ≡ get_or ys i d) → xs ≡ ys
same_items d [] [] long each = refl
same_items d [] (y ∷ ys) long each = absurd (omega arith)
same_items d (x ∷ xs) [] long each = absurd (omega arith)
same_items d (x ∷ xs) (y ∷ ys) long each =
    ap (λ z. z ∷ xs) (each 0 (omega arith)) ∙ ap (λ l. y ∷ l) (same_items d xs ys (omega arith) (λ i lt. each (suc i)
    (omega arith)))

-- what stands whatever stands before it
pub each_stands : {X : Type 0} (P : X → Type 0) (xs : List X) → StandInTurn (λ (s : Unit {0}) x. P x) stay tt xs
    → (k : ℕ) (d : X) → k < length xs →
    P (get_or xs k d)
each_stands P [] h k d lt = absurd (omega arith)
each_stands P (x ∷ xs) h zero d lt = h.0
each_stands P (x ∷ xs) h (suc k) d lt = each_stands P xs h.1 k d (omega arith)
