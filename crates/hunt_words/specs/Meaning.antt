-- Rule: what words ask `rtr_hunt` for: meaning
-- What words mean: they are cut into options, whose texts come to what is asked for.
use Rattle.std.specs.Prelude.{ℕ, List, [], ◌∷◌, Option, Some, None, codes}
use Rattle.std.specs.Option.{option_map}
use Rattle.turn_policies.specs.declared.named.Named.TheVariants.{All, Mixed}
use Rattle.end_claims.specs.Numbers.{◌>>=◌}
use Rattle.hunt_words.specs.declared.hunt.Hunt.{Hunt}
use Rattle.hunt_words.specs.declared.hunt.Hunt.TheVariants as asked
use Rattle.hunt_words.specs.declared.hunt.Setup.{Setup}
use Rattle.hunt_words.specs.declared.verbs.Verb.{Verb}
use Rattle.hunt_words.specs.declared.verbs.Verb.TheVariants.{First, Table, Small, Words, Record}
use Rattle.hunt_words.specs.Given.{Given, are_each_once, given_in, has_option}
use Rattle.hunt_words.specs.Options.{demand_of, passing, run_name_of, runs_of, setup_of, table_demand, table_places}
use Rattle.hunt_words.specs.Verbs.{verb_named}

-- the first run of a range that breaks a demand
unfoldable pub first_of : Setup → List Given → Option Hunt
first_of setup given = do
  runs ← runs_of All given
  demand ← demand_of setup.params given
  Some (asked.First setup runs demand (has_option (codes "--plain") given))

-- a table of a range of runs
unfoldable pub table_of : Setup → List Given → Option Hunt
table_of setup given = do
  runs ← runs_of Mixed given
  demand ← table_demand setup.params given
  places ← table_places setup.params given demand
  Some (asked.Table setup runs places demand)

-- one run made small
unfoldable pub small_of : Setup → List Given → Option Hunt
small_of setup given = do
  run ← run_name_of given
  demand ← demand_of setup.params given
  Some (asked.Small setup run demand)

abbrev pub asked_by : Verb → Setup → List Given → Option Hunt
asked_by First setup given = first_of setup given
asked_by Table setup given = table_of setup given
asked_by Small setup given = small_of setup given
asked_by Words setup given = option_map (λ run. asked.Words setup run) (run_name_of given)
asked_by Record setup given = option_map (λ run. asked.Record setup run) (run_name_of given)

-- what the verb asks for with these options
unfoldable pub hunt_of : Verb → List Given → Option Hunt
hunt_of verb given = do
  setup ← setup_of given
  asked_by verb setup given

-- what the words behind a verb ask for
unfoldable pub hunt_by : Verb → List (List ℕ) → Option Hunt
hunt_by verb words = do
  given ← passing are_each_once (given_in verb words)
  hunt_of verb given

-- what the words ask for
abbrev pub meaning : List (List ℕ) → Option Hunt
meaning [] = None
meaning (first ∷ rest) = do
  verb ← verb_named first
  hunt_by verb rest
