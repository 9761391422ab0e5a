-- A cache in which some line waits.
use Rattle.std.proofs.Common.{◌≡◌, ◌∙◌, ap, ℕ, ◌<◌, ◌||◌, Bool, true, List, [], ◌∷◌, zero, suc, length, arith}
use Rattle.std.specs.Prelude.{slice_set}
use Rattle.std.specs.List.{list_any}
use Rattle.std.proofs.Math.Bool.{or-true}

-- an element that passes the test was put into the list
pub any_put : {X : Type 0} (test : X → Bool) (xs : List X) (i : ℕ) (y : X) → i < length xs → test y ≡ true →
    list_any test (slice_set xs i y) ≡ true
any_put test [] i y within is = absurd (omega arith)
any_put test (x ∷ xs) zero y within is = ap (λ (b : Bool). b || list_any test xs) is
any_put test (x ∷ xs) (suc i) y within is = ap (λ (b : Bool). test x || b) (any_put test xs i y (omega arith) is)
    ∙ or-true (test x)
