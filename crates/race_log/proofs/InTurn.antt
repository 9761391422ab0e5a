-- Facts of items that stand in turn.
use Rattle.std.proofs.Common.{◌≡◌, ℕ, zero, suc, ◌+◌, ◌<◌, List, [], ◌∷◌, length, get_or, drop}
use Rattle.std.proofs.Common.{Bool, true, refl}
use Rattle.std.proofs.Common.{subst, arith}
use Rattle.std.specs.Prelude.{All}
use Rattle.std.specs.List.{AllByRecursion}
use Rattle.std.proofs.lemmas.List.Elements.{All-from_recursion, recursion_from_All}
use Rattle.std.proofs.lemmas.List.{drop_more}
use Rattle.std.proofs.lemmas.Bool.{and_parts}
use Rattle.rtr_types.specs.Turns.{StandInTurn, stand_in_turn, stay, count_up}

-- ---- facts of each item

pub stand-map : {S X : Type 0} (P Q : S → X → Type 0) (next : S → X → S) → ((s : S) (x : X) → P s x → Q s x) →
    (s : S) (xs : List X) →
    StandInTurn P next s xs → StandInTurn Q next s xs
stand-map P Q next one s [] h = tt
stand-map P Q next one s (x ∷ xs) h = (one s x h.0, stand-map P Q next one (next s x) xs h.1)

-- a test of each item
pub stand-true : {S X : Type 0} (P : S → X → Type 0) (p : S → X → Bool) (next : S → X → S) →
    ((s : S) (x : X) → p s x ≡ true → P s x) → (s : S) (xs : List X) →
    stand_in_turn p next s xs ≡ true → StandInTurn P next s xs
stand-true P p next one s [] h = tt
stand-true P p next one s (x ∷ xs) h =
    let both = and_parts (p s x) (stand_in_turn p next (next s x) xs) h in
    (one s x both.0, stand-true P p next one (next s x) xs both.1)

pub true-stand : {S X : Type 0} (P : S → X → Type 0) (p : S → X → Bool) (next : S → X → S) →
    ((s : S) (x : X) → P s x → p s x ≡ true) → (s : S) (xs : List X) →
    StandInTurn P next s xs → stand_in_turn p next s xs ≡ true
true-stand P p next one s [] h = refl
true-stand P p next one s (x ∷ xs) h = rw (one s x h.0, true-stand P p next one (next s x) xs h.1) refl

-- what is left after the items before it
pub stand-drop : {S X : Type 0} (P : S → X → Type 0) (next : S → X → S) (s : S) (xs : List X) (i : ℕ) (d : X) →
    i < length xs →
    StandInTurn P next s (drop i xs) → P s (get_or xs i d) ×
    StandInTurn P next (next s (get_or xs i d)) (drop (i + 1) xs)
stand-drop P next s xs i d lt h = subst (StandInTurn P next s) (drop_more xs i d lt) h

-- ---- where the state is the place

-- the item at a place
pub stand-places : {X : Type 0} (P : ℕ → X → Type 0) (s : ℕ) (xs : List X) → StandInTurn P count_up s xs →
    (i : ℕ) (d : X) → i < length xs →
    P (s + i) (get_or xs i d)
stand-places P s [] h i d lt = absurd (omega arith)
stand-places P s (x ∷ xs) h zero d lt = let same : s ≡ s + 0 = omega arith in subst (λ (k : ℕ). P k x) same h.0
stand-places P s (x ∷ xs) h (suc i) d lt =
    let same : s + 1 + i ≡ s + suc i = omega arith in
    subst (λ (k : ℕ). P k (get_or xs i d)) same (stand-places P (s + 1) xs h.1 i d (omega arith))

pub places-stand : {X : Type 0} (P : ℕ → X → Type 0) (s : ℕ) (xs : List X) (d : X) →
    ((i : ℕ) → i < length xs → P (s + i) (get_or xs i d)) →
    StandInTurn P count_up s xs
places-stand P s [] d h = tt
places-stand P s (x ∷ xs) d h =
    let none : s + 0 ≡ s = omega arith in
    let first : P s x = subst (λ (k : ℕ). P k x) none (h 0 (omega arith)) in (
      first,
      places-stand P (s + 1) xs d (λ i lt. let same : s + suc i ≡ s + 1 + i = omega arith in
          subst (λ (k : ℕ). P k (get_or xs i d)) same (h (suc i) (omega arith))),
    )

-- ---- where nothing is kept from item to item

recursion-stand : {X : Type 0} (P : X → Type 0) (xs : List X) → AllByRecursion P xs →
    StandInTurn (λ (s : Unit {0}) x. P x) stay tt xs
recursion-stand P [] h = tt
recursion-stand P (x ∷ xs) h = (h.0, recursion-stand P xs h.1)

stand-recursion : {X : Type 0} (P : X → Type 0) (xs : List X) → StandInTurn (λ (s : Unit {0}) x. P x) stay tt xs →
    AllByRecursion P xs
stand-recursion P [] h = tt
stand-recursion P (x ∷ xs) h = (h.0, stand-recursion P xs h.1)

pub stand-all : {X : Type 0} (P : X → Type 0) (xs : List X) → StandInTurn (λ (s : Unit {0}) x. P x) stay tt xs →
    All P xs
stand-all P xs h = All-from_recursion P xs (stand-recursion P xs h)

pub all-stand : {X : Type 0} (P : X → Type 0) (xs : List X) → All P xs →
    StandInTurn (λ (s : Unit {0}) x. P x) stay tt xs
all-stand P xs h = recursion-stand P xs (recursion_from_All P xs h)
