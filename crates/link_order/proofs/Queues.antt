-- A queue with one item more behind it.
use Rattle.std.proofs.Common.{◌≡◌, refl, false, List, [], ◌∷◌, ◌++◌}
use Rattle.link_order.specs.Queue.{is_nil}

pub more_nil : {X : Type 0} (xs : List X) (x : X) → is_nil (xs ++ x ∷ []) ≡ false
more_nil [] x = refl
more_nil (y ∷ ys) x = refl
