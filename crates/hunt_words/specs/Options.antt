-- What the options of a verb come to.
use Rattle.std.specs.Prelude.{ℕ, ◌*◌, ◌-◌, ◌^◌, nat_le, ◌&&◌, ◌||◌, Bool, List, Option, Some, None, codes}
use Rattle.std.specs.Prelude.{if◌then◌else◌}
use Rattle.std.specs.Option.{option_map}
use Rattle.rtr_types.specs.declared.TheConstants.{CORES_MAX}
use Rattle.rtr_types.specs.declared.params.Params.{Params}
use Rattle.rtr_types.specs.declared.params.TheConstants.{INSTRUCTIONS_MAX, LIMIT_MAX}
use Rattle.tool_words.specs.Numerals.{number_between}
use Rattle.tool_words.specs.Options.{cores_default, limit_default}
use Rattle.turn_policies.specs.declared.named.Named.{Named}
use Rattle.turn_policies.specs.declared.named.Named.TheVariants.{All}
use Rattle.end_claims.specs.declared.claim.Demand.{Demand}
use Rattle.end_claims.specs.declared.claim.Demand.TheVariants.{Expect, Never, Same}
use Rattle.end_claims.specs.declared.claim.Place.{Place}
use Rattle.end_claims.specs.Demands.{demand_places, is_demanded_within}
use Rattle.end_claims.specs.Named.{are_within}
use Rattle.end_claims.specs.Numbers.{◌>>=◌}
use Rattle.end_claims.specs.Reading.{claim_of, places_of}
use Rattle.hunt_words.specs.declared.hunt.RunName.{RunName}
use Rattle.hunt_words.specs.declared.hunt.RunName.TheVariants.{Numbered, Turns}
use Rattle.hunt_words.specs.declared.hunt.Runs.{Runs}
use Rattle.hunt_words.specs.declared.hunt.Setup.{Setup}
use Rattle.hunt_words.specs.declared.options.TheConstants.{HUNT_THREADS_MAX}
use Rattle.hunt_words.specs.Given.{Given, has_option, text_at}
use Rattle.hunt_words.specs.TurnTexts.{turns_named}
use Rattle.hunt_words.specs.Values.{number_or, policy_named, policy_or, range_or, words_or}

-- the value, where it passes
abbrev pub passing : {A : Type 0} → (A → Bool) → Option A → Option A
passing test value = value >>= λ a. if test a then Some a else None

-- ---- the machine

unfoldable pub params_of : List Given → Option Params
params_of given = do
  cores ← number_or (codes "--cores") 1 CORES_MAX cores_default given
  limit ← number_or (codes "--limit") 1 LIMIT_MAX limit_default given
  words ← words_or given
  if nat_le (cores * limit) INSTRUCTIONS_MAX
      then Some (record { cores = cores; limit = limit; words = words }) else None

-- cores with store buffers run an image as it stands, and no ELF file
unfoldable pub setup_of : List Given → Option Setup
setup_of given = do
  params ← params_of given
  if has_option (codes "--elf") given && has_option (codes "--tso") given then None
      else Some (record {
        params = params;
        elf = has_option (codes "--elf") given;
        tso = has_option (codes "--tso") given;
      })

-- ---- the runs

unfoldable pub threads_of : List Given → Option (Option ℕ)
threads_of given = elim (text_at (codes "--threads") given) [
  | Some text ↦ option_map (λ n. Some n) (number_between 1 HUNT_THREADS_MAX text)
  | None ↦ Some None
]

-- the runs that are tried, by the default policy where the options name none
unfoldable pub runs_of : (default : Named) → List Given → Option Runs
runs_of default given = do
  by ← policy_or default given
  range ← range_or given
  threads ← threads_of given
  Some (record { by = by; first = range.0; last = range.1; threads = threads })

unfoldable pub numbered : Option Named → (text : List ℕ) → Option RunName
numbered by text = do
  by ← by
  number ← number_between 0 (2 ^ 64 - 1) text
  Some (Numbered by number)

-- one run: by the texts of `--run` and of its policy, or by that of `--turns`
abbrev pub run_name_by : (run by turns : Option (List ℕ)) → Option RunName
run_name_by (Some run) None None = numbered (Some All) run
run_name_by (Some run) (Some by) None = numbered (policy_named by) run
run_name_by None None (Some turns) = option_map (λ ts. Turns ts) (turns_named turns)
run_name_by _ _ _ = None

unfoldable pub run_name_of : List Given → Option RunName
run_name_of given =
    run_name_by (text_at (codes "--run") given) (text_at (codes "--by") given) (text_at (codes "--turns") given)

-- ---- what is demanded

-- by the text of exactly one of `--expect`, `--never` and `--same`
abbrev pub demand_by : (cores : ℕ) → (expect never same : Option (List ℕ)) → Option Demand
demand_by cores (Some text) None None = option_map (λ claim. Expect claim) (claim_of text)
demand_by cores None (Some text) None = option_map (λ claim. Never claim) (claim_of text)
demand_by cores None None (Some text) = option_map (λ places. Same places) (places_of cores text)
demand_by cores _ _ _ = None

-- the demand, of which the machine has all that it names
unfoldable pub demand_of : Params → List Given → Option Demand
demand_of params given =
    passing (is_demanded_within params.cores params.words)
    (demand_by params.cores (text_at (codes "--expect") given) (text_at (codes "--never") given)
    (text_at (codes "--same") given))

-- ---- a table

-- a table may demand nothing
unfoldable pub table_demand : Params → List Given → Option (Option Demand)
table_demand params given =
    if has_option (codes "--expect") given || has_option (codes "--never") given
    then option_map (λ demand. Some demand) (demand_of params given) else Some None

-- the places that are seen: those of `--see`, else those of the demand
abbrev pub places_by : (cores : ℕ) → (see : Option (List ℕ)) → Option Demand → Option (List Place)
places_by cores (Some text) demand = places_of cores text
places_by cores None (Some demand) = Some (demand_places cores demand)
places_by cores None None = None

unfoldable pub table_places : Params → List Given → Option Demand → Option (List Place)
table_places params given demand =
    passing (are_within params.cores params.words) (places_by params.cores (text_at (codes "--see") given) demand)
