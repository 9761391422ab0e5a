-- Rule: turns made small: IsSmall, IsSmallOfRun
-- Turns made small.
use Rattle.std.specs.Prelude.{◌≡◌, Bool, true, false, List, Option, Some, None}
use Rattle.turn_lists.specs.Turns.{IsLeastInSteps}
use Rattle.turn_lists.specs.declared.actor.Turn.{Turn}
use Rattle.small_turns.specs.Acts.{turns_made}
use Rattle.small_turns.specs.Passes.{IsNoLarger}
use Rattle.small_turns.specs.declared.acts.Act.{Act}

-- turns that are least in steps and no larger than the given ones, where those break the claim; none where they don't
abbrev pub IsSmall : (breaks : List Turn → Bool) → List Turn → Option (List Turn) → Type 0
IsSmall breaks turns None = breaks turns ≡ false
IsSmall breaks turns (Some least) = (breaks turns ≡ true) × IsLeastInSteps breaks least × IsNoLarger turns least

-- turns that are least in steps; none only where the turns in which the acts were made don't break the claim
abbrev pub IsSmallOfRun : (breaks : List Turn → Bool) → List Act → Option (List Turn) → Type 0
IsSmallOfRun breaks acts None = breaks (turns_made acts) ≡ false
IsSmallOfRun breaks acts (Some least) = IsLeastInSteps breaks least
