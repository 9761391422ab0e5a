-- What the texts of options mean.
use Rattle.std.specs.Prelude.{ℕ, nat_le, List, [], ◌∷◌, Option, Some, None, codes, if◌then◌else◌}
use Rattle.std.specs.Option.{option_or}
use Rattle.turn_policies.specs.declared.named.Named.{Named}
use Rattle.turn_policies.specs.declared.named.Named.TheVariants.{All, Few, Mixed, Ranked, Seed, Walk}
use Rattle.tool_words.specs.Names.{named_by}
use Rattle.tool_words.specs.Numerals.{number_between}
use Rattle.tool_words.specs.Options.{whole_blocks, words_default}
use Rattle.end_claims.specs.Numbers.{◌>>=◌, behind, parted}
use Rattle.hunt_words.specs.declared.values.TheConstants.{DEPTH_MAX, LAST_DEFAULT, RUN_MAX}
use Rattle.hunt_words.specs.Given.{Given, text_at}

-- what the option's text means, or the default where the option isn't given
abbrev pub meant_or : {A : Type 0} → (default : A) → (name : List ℕ) → (List ℕ → Option A) → List Given → Option A
meant_or default name means given = elim (text_at name given) [ Some text ↦ means text | None ↦ Some default ]

abbrev pub number_or : (name : List ℕ) → (least most default : ℕ) → List Given → Option ℕ
number_or name least most default given = meant_or default name (number_between least most) given

abbrev pub words_or : List Given → Option ℕ
words_or given = meant_or words_default (codes "--words") whole_blocks given

-- the policies by their words, but for those by ranks
abbrev pub policies : List (List ℕ × Named)
policies =
    (codes "seed", Seed) ∷ (codes "few", Few) ∷ (codes "walk", Walk) ∷ (codes "mixed", Mixed) ∷ (codes "all", All) ∷ []

-- `pct` and the depth of bugs that the policy is for
unfoldable pub ranked_named : List ℕ → Option Named
ranked_named text = do
  digits ← behind (codes "pc") 116 text
  depth ← number_between 1 DEPTH_MAX digits
  Some (Ranked depth)

unfoldable pub policy_named : List ℕ → Option Named
policy_named text = option_or (named_by policies text) (ranked_named text)

abbrev pub policy_or : (default : Named) → List Given → Option Named
policy_or default given = meant_or default (codes "--by") policy_named given

-- `A..B`: the numbers of the first and the last run, the first at most the last
unfoldable pub range_named : List ℕ → Option (ℕ × ℕ)
range_named text = do
  parts ← parted 46 text
  first ← number_between 0 RUN_MAX parts.0
  digits ← behind [] 46 parts.1
  last ← number_between 0 RUN_MAX digits
  if nat_le first last then Some (first, last) else None

abbrev pub range_or : List Given → Option (ℕ × ℕ)
range_or given = meant_or (0, LAST_DEFAULT) (codes "--runs") range_named given
