-- What a history of what is known holds.
use Rattle.std.specs.Prelude.{◌≡◌, ◌≢◌, ℕ, zero, suc, ◌+◌, ◌-◌, ◌≤◌, Bool, List, [], ◌∷◌, length, max, nat_lt}
use Rattle.std.specs.Prelude.{replicate, slice_index, slice_index_or, if◌then◌else◌}
use Rattle.rtr_types.specs.declared.instr.Instr.{Instr}
use Rattle.clock_core.specs.Counts.{no_counts}
use Rattle.clock_core.specs.declared.clock.Clock.{Clock}
use Rattle.know_history.specs.declared.known.Known.{Known}
use Rattle.know_history.specs.Knowledge.{count_in}

-- what was noted at each core's retirements, core 0 first: at each, the first one first, how many instructions of each
-- core were known
abbrev pub Notes : Type 0
Notes = List (List Clock)

-- and whether there is room for one more retirement of each
pub record NotesReady : Type 0 where
  pub notes : Notes
  pub ready : Bool

-- none is noted of so many cores
abbrev pub no_notes : (cores : ℕ) → Notes
no_notes cores = replicate cores []

-- of how many cores the retirements are noted
abbrev pub core_count : Notes → ℕ
core_count h = length h

-- how many retirements of the core are noted
abbrev pub noted_count : Notes → (core : ℕ) → ℕ
noted_count h core = length (slice_index_or h core [])

-- how many instructions of core `of` were noted as known at the core's retirement with this count; none before
-- the first
abbrev pub known_at : Notes → (core count of : ℕ) → ℕ
known_at h core count «of» = slice_index (slice_index_or (no_counts ∷ slice_index_or h core []) count no_counts) «of»

-- at how many of the first n counts the value is above that at the count before
abbrev pub rises : (value : ℕ → ℕ) → (n : ℕ) → ℕ
rises value zero = 0
rises value (suc n) = rises value n + (if nat_lt (value n) (value (suc n)) then 1 else 0)

-- at how many of the core's noted retirements more was known of core `of` than at the one before
abbrev pub change_count : Notes → (core of : ℕ) → ℕ
change_count h core «of» = rises (λ count. known_at h core count «of») (noted_count h core)

-- the retirement was noted with what is known at it of other cores
pub record IsNoted (old : Notes) (at : Instr) (known : Known) (new : Notes) : Type 0 where
  pub cores : core_count new ≡ core_count old
  pub count : noted_count new at.core ≡ at.count
  pub others : (core : ℕ) → core ≢ at.core → noted_count new core ≡ noted_count old core
  pub greater : (of : ℕ) → «of» ≢ at.core → known_at new at.core at.count «of»
      ≡ max (known_at old at.core (at.count - 1) «of») (count_in known «of»)
  pub kept : (core count of : ℕ) → «of» ≢ core → count ≤ noted_count old core → known_at new core count «of»
      ≡ known_at old core count «of»
