-- Counts of faults.
use Rattle.std.specs.Prelude.{◌≡◌, ℕ, ◌-◌, ◌^◌, ◌<◌, ◌⊎◌, Err, Result}

-- the last value of a count of faults
abbrev pub last_count : ℕ
last_count = 2 ^ 64 - 1

-- the count rose in a call; one that stands at its last value when the call ends is taken to have risen
abbrev pub HasRisen : ℕ → ℕ → Type 0
HasRisen old new = (old < new) ⊎ (new ≡ last_count)

-- the call answers this fault, or leaves the count as it was
abbrev pub IsUnlessFault : {A E : Type 0} → E → Result A E → ℕ → ℕ → Type 0
IsUnlessFault fault result old new = (result ≡ Err fault) ⊎ (new ≡ old)
