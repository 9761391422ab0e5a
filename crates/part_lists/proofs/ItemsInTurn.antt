-- Items that are read and spelled alike, whatever stands before them.
use Rattle.std.proofs.Common.{◌≡◌, ℕ, zero, suc, List, [], ◌∷◌, ◌++◌, Result, Ok, Err, refl, ap}
use Rattle.std.specs.List.{flat_map}
use Rattle.log_codec.specs.Faults.{◌>>=◌}
use Rattle.log_codec.specs.Turns.{alike, read_in_turn, spelled_in_turn}

pub spelled_alike : {S X : Type 0} (text : X → List ℕ) (next : S → X → S) (s : S) (xs : List X) →
    flat_map text xs ≡ spelled_in_turn (alike text) next s xs
unfolding spelled_in_turn
spelled_alike text next s [] = refl
spelled_alike text next s (x ∷ xs) = ap (λ (l : List ℕ). text x ++ l) (spelled_alike text next (next s x) xs)

-- after each first item the others are read alike
others_alike : {Y Z : Type 0} (read : Result (Y × List ℕ) ℕ) (f g : Y × List ℕ → Result Z ℕ) →
    ((first : Y × List ℕ) → f first ≡ g first) → (read >>= f) ≡ (read >>= g)
others_alike (Ok first) f g alike_after = alike_after first
others_alike (Err e) f g alike_after = refl

-- so many items that are read alike in each state are read alike from each state on
pub read_alike : {S R X : Type 0} (item : List ℕ → Result (X × List ℕ) ℕ) (next : S → X → S) (step : R → X → R)
    (n : ℕ) (s : S) (r : R) (bytes : List ℕ) →
    read_in_turn (λ _. item) next n s bytes ≡ read_in_turn (λ _. item) step n r bytes
unfolding read_in_turn
read_alike item next step zero s r bytes = refl
read_alike {S} {R} {X} item next step (suc n) s r bytes =
    others_alike (item bytes) _ _
    (λ first. ap (λ (others : Result (List X × List ℕ) ℕ). others >>= λ o. Ok (first.0 ∷ o.0, o.1))
    (read_alike item next step n (next s first.0) (step r first.0) first.1))
