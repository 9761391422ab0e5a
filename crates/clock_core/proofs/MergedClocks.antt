-- Merged counts, place by place.
use Rattle.std.proofs.Common.{◌≡◌, ℕ, zero, suc, ◌<◌, List, [], ◌∷◌, length, get_or, max, refl, sym, ◌∙◌, ap, arith}
use Rattle.std.proofs.lemmas.List.{ext_get_or}
use Rattle.clock_core.specs.Counts.{merged}

pub get_or-merged : (xs ys : List ℕ) (i : ℕ) → get_or (merged xs ys) i 0 ≡ max (get_or xs i 0) (get_or ys i 0)
get_or-merged [] ys i = grind arith
get_or-merged (x ∷ xs) [] i = grind arith
get_or-merged (x ∷ xs) (y ∷ ys) zero = refl
get_or-merged (x ∷ xs) (y ∷ ys) (suc i) = get_or-merged xs ys i

pub length-merged : (xs ys : List ℕ) → length xs ≡ length ys → length (merged xs ys) ≡ length xs
length-merged [] ys same = sym same
length-merged (x ∷ xs) [] same = refl
length-merged (x ∷ xs) (y ∷ ys) same = ap suc (length-merged xs ys (omega arith))

-- what has the greater count at each place is the merged clock
pub merged_is : (xs ys zs : List ℕ) → length xs ≡ length ys → length zs ≡ length xs →
    ((i : ℕ) → i < length zs → get_or zs i 0 ≡ max (get_or xs i 0) (get_or ys i 0)) → zs ≡ merged xs ys
merged_is xs ys zs same len each = ext_get_or 0 zs (merged xs ys) (len ∙ sym (length-merged xs ys same))
    (λ i lt. each i lt ∙ sym (get_or-merged xs ys i))
