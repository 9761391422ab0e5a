-- What is told who hears whether a word changes.
use Rattle.std.specs.Prelude.{◌≡◌, ◌||◌}
use Rattle.rtr_types.specs.declared.access.Access.{Access}
use Rattle.hunt_runs.specs.PlainSeen.{writes_anew}
use Rattle.hunt_runs.specs.declared.changes.Changes.{Changes}

-- before and after it was told of an access
pub record ToldTouch {R : Type 0} (c : Changes) (before : R) (a : Access) (d : Changes) (after : R) : Type 0 where
  pub changed : d.changed ≡ (c.changed || writes_anew a)
  pub rider : after ≡ before
