-- A list whose elements are replaced one after the other, from its front, by one value.
use Rattle.std.proofs.Common.{◌≡◌, ◌<◌, ◌≤◌, ◌∷◌, ◌++◌, ◌+◌, ◌∙◌, ℕ, [], List, ap, length, refl, replicate, suc, zero}
use Rattle.std.proofs.Common.{drop, arith}
use Rattle.std.specs.Prelude.{slice_set}
use Rattle.std.proofs.lemmas.List.{append-nil, drop_all}

cleared_behind : {X : Type 0} (x : X) (xs : List X) (n : ℕ) → n < length xs
    → slice_set (replicate n x ++ drop n xs) n x ≡ replicate (suc n) x ++ drop (suc n) xs
cleared_behind x [] n lt = absurd (omega (arith, lt))
cleared_behind x (y ∷ ys) zero lt = refl
cleared_behind x (y ∷ ys) (suc n) lt = ap (λ zs. x ∷ zs) (cleared_behind x ys n (omega (arith, lt)))

-- the next one
pub cleared_next : {X : Type 0} (x : X) (xs : List X) (n : ℕ) → n < length xs
    → slice_set (replicate n x ++ drop n xs) n x ≡ replicate (n + 1) x ++ drop (n + 1) xs
cleared_next x xs n lt =
    let next : suc n ≡ n + 1 = omega arith in
    cleared_behind x xs n lt ∙ ap (λ m. replicate m x ++ drop m xs) next

-- once all were
pub cleared_all : {X : Type 0} (x : X) (xs old : List X) (n m : ℕ) → xs ≡ replicate n x ++ drop n old → n ≤ m → m ≤ n
    → length old ≡ m → xs ≡ replicate m x
cleared_all x xs old n m front below above long =
    let end : n ≡ m = omega (arith, below, above) in
    front ∙ ap (λ zs. replicate n x ++ zs) (drop_all n old (omega (arith, above, long)))
    ∙ append-nil (replicate n x) ∙ ap (λ k. replicate k x) end
