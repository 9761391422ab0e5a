-- Two lists that are equal begin alike and go on alike, and two options are of equal values; equal tests keep the same
-- of a list.
use Rattle.std.proofs.Common.{◌≡◌, refl, Bool, List, [], ◌∷◌, Some}
use Rattle.std.specs.Prelude.{filter}

pub cons-head : {X : Type 0} (x y : X) (xs ys : List X) → x ∷ xs ≡ y ∷ ys → x ≡ y
cons-head x y xs ys e = cc

pub cons-rest : {X : Type 0} (x y : X) (xs ys : List X) → x ∷ xs ≡ y ∷ ys → xs ≡ ys
cons-rest x y xs ys e = cc

pub filter_same : {X : Type 0} (f g : X → Bool) → ((x : X) → f x ≡ g x) → (xs : List X) → filter f xs ≡ filter g xs
filter_same f g same [] = refl
filter_same f g same (x ∷ xs) = rw (same x, filter_same f g same xs)

pub some_same : {X : Type 0} (x y : X) → Some x ≡ Some y → x ≡ y
some_same x y e = cc
