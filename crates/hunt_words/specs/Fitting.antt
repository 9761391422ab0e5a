-- The ranges of what is asked for.
use Rattle.std.specs.Prelude.{◌≡◌, ℕ, ◌≤◌, ◌%◌, Option, Some, None, true, false}
use Rattle.rtr_types.specs.Parameters.{Fits}
use Rattle.rtr_types.specs.declared.TheConstants.{BLOCK_WORDS}
use Rattle.rtr_types.specs.declared.params.TheConstants.{WORDS_MAX, WORDS_MIN}
use Rattle.turn_lists.specs.Texts.{are_turns}
use Rattle.turn_policies.specs.declared.named.Named.{Named}
use Rattle.turn_policies.specs.declared.named.Named.TheVariants.{Ranked}
use Rattle.end_claims.specs.declared.claim.Demand.{Demand}
use Rattle.end_claims.specs.Demands.{is_demanded_within}
use Rattle.end_claims.specs.Named.{are_within}
use Rattle.hunt_words.specs.declared.hunt.Hunt.{Hunt}
use Rattle.hunt_words.specs.declared.hunt.Hunt.TheVariants.{First, Table, Small, Words, Record}
use Rattle.hunt_words.specs.declared.hunt.RunName.{RunName}
use Rattle.hunt_words.specs.declared.hunt.RunName.TheVariants.{Numbered, Turns}
use Rattle.hunt_words.specs.declared.hunt.Runs.{Runs}
use Rattle.hunt_words.specs.declared.hunt.Setup.{Setup}
use Rattle.hunt_words.specs.declared.options.TheConstants.{HUNT_THREADS_MAX}
use Rattle.hunt_words.specs.declared.values.TheConstants.{DEPTH_MAX, RUN_MAX}

-- a memory has so many words: within the range, and of whole blocks
abbrev pub IsMemory : (words : ℕ) → Type 0
IsMemory words = (WORDS_MIN ≤ words) × (words ≤ WORDS_MAX) × (words % BLOCK_WORDS ≡ 0)

-- there is such a policy
abbrev pub IsPolicy : Named → Type 0
IsPolicy (Ranked depth) = (1 ≤ depth) × (depth ≤ DEPTH_MAX)
IsPolicy by = Unit {0}

-- the first run isn't behind the last
abbrev pub IsRange : (first last : ℕ) → Type 0
IsRange first last = (first ≤ last) × (last ≤ RUN_MAX)

abbrev pub AreFewThreads : Option ℕ → Type 0
AreFewThreads None = Unit {0}
AreFewThreads (Some n) = (1 ≤ n) × (n ≤ HUNT_THREADS_MAX)

-- the parameters lie in their ranges, and cores with store buffers run an image as it stands
pub record IsSetup (setup : Setup) : Type 0 where
  pub params : Fits setup.params
  pub flat : setup.tso ≡ true → setup.elf ≡ false

pub record AreRuns (runs : Runs) : Type 0 where
  pub policy : IsPolicy runs.by
  pub range : IsRange runs.first runs.last
  pub threads : AreFewThreads runs.threads

abbrev pub IsRunName : RunName → Type 0
IsRunName (Numbered by number) = IsPolicy by
IsRunName (Turns turns) = are_turns turns ≡ true

-- the machine has all that the demand names
abbrev pub IsDemand : Setup → Demand → Type 0
IsDemand setup demand = is_demanded_within setup.params.cores setup.params.words demand ≡ true

abbrev pub IsDemandOrNone : Setup → Option Demand → Type 0
IsDemandOrNone setup None = Unit {0}
IsDemandOrNone setup (Some demand) = IsDemand setup demand

-- what is asked for lies in its ranges
abbrev pub IsFitting : Hunt → Type 0
IsFitting (First setup runs demand plain) = IsSetup setup × AreRuns runs × IsDemand setup demand
IsFitting (Table setup runs places demand) =
    IsSetup setup × AreRuns runs × (are_within setup.params.cores setup.params.words places ≡ true)
    × IsDemandOrNone setup demand
IsFitting (Small setup run demand) = IsSetup setup × IsRunName run × IsDemand setup demand
IsFitting (Words setup run) = IsSetup setup × IsRunName run
IsFitting (Record setup run) = IsSetup setup × IsRunName run
