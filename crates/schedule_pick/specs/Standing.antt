-- Where a machine stands in the run that a schedule makes.
use Rattle.std.specs.Prelude.{◌≡◌, ℕ, ◌+◌, ◌<◌, Bool, false}
use Rattle.schedule_pick.specs.Choices.{Choices, choice_at}

-- a machine in this state, with these choices left, stands t choices into the run, which hasn't ended before; and it
-- has as many cores as the run began with
pub record StandsIn {S : Type 0} (run : (choices : ℕ → ℕ) → (t : ℕ) → S) (has_ended : S → Bool) (cores_of : S → ℕ)
    (begun : ℕ) (schedule : Choices) (t : ℕ) (s : S) (rest : Choices) : Type 0 where
  pub state : s ≡ run (choice_at schedule) t
  pub cores : cores_of s ≡ begun
  pub rest_is : (u : ℕ) → choice_at rest u ≡ choice_at schedule (t + u)
  pub going : (u : ℕ) → u < t → has_ended (run (choice_at schedule) u) ≡ false
