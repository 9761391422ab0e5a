-- What the clerk that keeps accesses is told.
use Rattle.std.specs.Prelude.{◌≡◌, List, [], ◌∷◌, ◌++◌}
use Rattle.roomy_lists.specs.Lists.{Listed}
use Rattle.rtr_types.specs.declared.access.Access.{Access}

-- the clerk before and after it was told of what is no access
abbrev pub ToldNothing : (before after : Listed Access) → Type 0
ToldNothing before after = after.items ≡ before.items

-- the clerk and the rider before and after it was told of an access
pub record ToldTouch {R : Type 0} (before : Listed Access) (found : R) (a : Access) (after : Listed Access) (left : R) :
    Type 0 where
  pub kept : after.items ≡ before.items ++ a ∷ []
  pub rider : left ≡ found
