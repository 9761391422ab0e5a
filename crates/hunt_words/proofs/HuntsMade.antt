-- Of open options that lack nothing a hunt comes, where the machine is the one that suits.
use Rattle.std.proofs.Common.{◌≡◌, ℕ, ◌*◌, ◌≤◌, ◌^◌, Bool, true, false, cond, ◌&&◌, ◌||◌, List, [], ◌∷◌}
use Rattle.std.proofs.Common.{Option, Some, None, arith, refl, sym, ◌∙◌, ap, is_some, nat_le, eqb}
use Rattle.std.specs.Prelude.{◌-◌, codes, find}
use Rattle.std.specs.List.{list_all, list_any}
use Rattle.std.specs.Str.{bytes_eq}
use Rattle.std.specs.Option.{option_map}
use Rattle.std.proofs.lemmas.Bool.{and_parts, eqb-true, le-leb}
use Rattle.std.proofs.lemmas.Bool.Decides.{nat_tests}
use Rattle.rtr_types.specs.declared.TheConstants.{CORES_MAX}
use Rattle.rtr_types.specs.declared.params.Params.{Params}
use Rattle.rtr_types.specs.declared.params.TheConstants.{INSTRUCTIONS_MAX, LIMIT_MAX}
use Rattle.tool_words.specs.Numerals.{number_between}
use Rattle.tool_words.specs.Options.{cores_default, limit_default, whole_blocks, words_default}
use Rattle.turn_policies.specs.declared.named.Named.{Named}
use Rattle.turn_policies.specs.declared.named.Named.TheVariants as by_names
use Rattle.end_claims.specs.declared.claim.Demand.{Demand}
use Rattle.end_claims.specs.declared.claim.Demand.TheVariants as demands
use Rattle.end_claims.specs.declared.claim.Place.{Place}
use Rattle.end_claims.specs.Demands.{demand_places, is_demanded_within}
use Rattle.end_claims.specs.Named.{are_named_within, are_within}
use Rattle.end_claims.specs.Reading.{claim_of, places_of}
use Rattle.hunt_words.specs.declared.faults.Missing.{Missing}
use Rattle.hunt_words.specs.declared.faults.Missing.TheVariants as lacking
use Rattle.hunt_words.specs.declared.hunt.Hunt.{Hunt}
use Rattle.hunt_words.specs.declared.hunt.Hunt.TheVariants as asked
use Rattle.hunt_words.specs.declared.hunt.RunName.{RunName}
use Rattle.hunt_words.specs.declared.hunt.RunName.TheVariants as run_names
use Rattle.hunt_words.specs.declared.hunt.Runs.{Runs as RunsAsked}
use Rattle.hunt_words.specs.declared.hunt.Setup.{Setup}
use Rattle.hunt_words.specs.declared.names.Name.{Name}
use Rattle.hunt_words.specs.declared.names.Name.TheVariants.{Cores, Limit, Words, By, Runs, Threads, Run, Turns, Expect}
use Rattle.hunt_words.specs.declared.names.Name.TheVariants.{Never, Same, See, Elf, Tso}
use Rattle.hunt_words.specs.declared.options.TheConstants.{HUNT_THREADS_MAX}
use Rattle.hunt_words.specs.declared.values.TheConstants.{LAST_DEFAULT}
use Rattle.hunt_words.specs.declared.verbs.Verb.{Verb}
use Rattle.hunt_words.specs.declared.verbs.Verb.TheVariants as verbs
use Rattle.hunt_words.specs.Given.{Given, has_option}
use Rattle.hunt_words.specs.Meaning.{first_of, hunt_of, small_of, table_of}
use Rattle.hunt_words.specs.Names.{word_of}
use Rattle.hunt_words.specs.Open.{are_both, has, is_value, is_value_or, lacks, lacks_run, most_words, odd_pair, pairs}
use Rattle.hunt_words.specs.Open.{passes, suits, text_of, valued_of}
use Rattle.hunt_words.specs.Options.{demand_by, demand_of, numbered, params_of, passing, run_name_by}
use Rattle.hunt_words.specs.Options.{run_name_of, runs_of, setup_of, table_demand, table_places, threads_of}
use Rattle.hunt_words.specs.TurnTexts.{turns_named}
use Rattle.hunt_words.specs.Values.{number_or, policy_named, range_named, words_or}
use Rattle.hunt_words.proofs.OptionNames.{same-option}
use Rattle.hunt_words.proofs.PlacesWithin.{demanded-within}

-- ---- tests of lists

-- the option is in the list
abbrev is-among : Name → List Name → Bool
is-among name options = list_any (λ other. bytes_eq (word_of name) (word_of other)) options

-- a test that all options of a list pass, each of them passes
all-at : (p : Name → Bool) (option : Name) (options : List Name) → is-among option options ≡ true
    → list_all p options ≡ true → p option ≡ true
all-at p option [] among h = absurd (cc)
all-at p option (x ∷ xs) among h =
    let both = and_parts (p x) (list_all p xs) h in
    by (λ k. all-at p option xs k both.1) both.0 (bytes_eq (word_of option) (word_of x)) refl among
  where
    by : (is-among option xs ≡ true → p option ≡ true) → p x ≡ true → (b : Bool)
        → bytes_eq (word_of option) (word_of x) ≡ b → (b || is-among option xs) ≡ true → p option ≡ true
    by later here true is k = rw (same-option option x is) here
    by later here false is k = later k

-- no pair of several is given
pub no-first : {A : Type 0} (p : A → Bool) (x : A) (xs : List A) → is_some (find p (x ∷ xs)) ≡ false
    → (p x ≡ false) × (is_some (find p xs) ≡ false)
no-first p x xs h = by (p x) h
  where
    by : (b : Bool) → is_some (cond b (Some x) (find p xs)) ≡ false → (b ≡ false) × (is_some (find p xs) ≡ false)
    by true k = absurd (cc)
    by false k = (refl, k)

-- the two options are a pair of the list
abbrev is-pair : Name → Name → List (Name × Name) → Bool
is-pair a b xs = list_any (λ pair. bytes_eq (word_of a) (word_of pair.0) && bytes_eq (word_of b) (word_of pair.1)) xs

-- where no pair of a list is given, none of them is
none-at : (given : List Given) (a b : Name) (xs : List (Name × Name)) → is-pair a b xs ≡ true
    → is_some (find (are_both given) xs) ≡ false → (has a given && has b given) ≡ false
none-at given a b [] among h = absurd (cc)
none-at given a b (x ∷ xs) among h =
    let parts = no-first (are_both given) x xs h in
    by (λ k. none-at given a b xs k parts.1) parts.0
    (bytes_eq (word_of a) (word_of x.0) && bytes_eq (word_of b) (word_of x.1)) refl among
  where
    by : (is-pair a b xs ≡ true → (has a given && has b given) ≡ false) → are_both given x ≡ false → (c : Bool)
        → (bytes_eq (word_of a) (word_of x.0) && bytes_eq (word_of b) (word_of x.1)) ≡ c
        → (c || is-pair a b xs) ≡ true → (has a given && has b given) ≡ false
    by later here true is k =
        let same = and_parts (bytes_eq (word_of a) (word_of x.0)) (bytes_eq (word_of b) (word_of x.1)) is in
        rw (same-option a x.0 same.0, same-option b x.1 same.1) here
    by later here false is k = later k

some-value : {A : Type 0} (o : Option A) → is_some o ≡ true → (a : A) × (o ≡ Some a)
some-value None h = absurd (cc)
some-value (Some a) h = (a, refl)

passed : {A : Type 0} (p : A → Bool) (o : Option A) → passes p o ≡ true → (a : A) × (o ≡ Some a) × (p a ≡ true)
passed p None h = absurd (cc)
passed p (Some a) h = (a, refl, h)

named : {A : Type 0} (b : Bool) (a : A) → cond b None (Some a) ≡ None → b ≡ true
named true a h = refl
named false a h = absurd (cc)

-- ---- the machine

record Suited (given : List Given) (cores : ℕ) : Type 0 where
  low : 1 ≤ cores
  high : cores ≤ CORES_MAX
  cores_is : number_or (codes "--cores") 1 CORES_MAX cores_default given ≡ Some cores
  words_is : words_or given ≡ Some (most_words given)
  limit_value : is_value_or cores (most_words given) Limit (text_of Limit given) ≡ true
  apart : (has Elf given && has Tso given) ≡ false

limit-is : (cores words : ℕ) (o : Option (List ℕ)) → cores ≤ CORES_MAX → is_value_or cores words Limit o ≡ true
    → (l : ℕ)
    × (elim o as (λ _. Option ℕ) [ Some text ↦ number_between 1 LIMIT_MAX text | None ↦ Some limit_default ] ≡ Some l)
    × (nat_le (cores * l) INSTRUCTIONS_MAX ≡ true)
limit-is cores words None high h =
    (10000, refl, le-leb (cores * 10000) INSTRUCTIONS_MAX (omega (arith, high)))
limit-is cores words (Some text) high h =
    passed (λ n. nat_le (cores * n) INSTRUCTIONS_MAX) (number_between 1 LIMIT_MAX text) h

record Set-up (given : List Given) (cores words : ℕ) : Type 0 where
  setup : Setup
  is : setup_of given ≡ Some setup
  cores_are : setup.params.cores ≡ cores
  words_are : setup.params.words ≡ words

set-up : (given : List Given) (cores : ℕ) → Suited given cores → Set-up given cores (most_words given)
unfolding setup_of params_of
set-up given cores s =
    let l = limit-is cores (most_words given) (text_of Limit given) s.high s.limit_value in
    record {
      setup = record {
        params = record { cores = cores; limit = l.0; words = most_words given };
        elf = has Elf given;
        tso = has Tso given;
      };
      is = rw (s.cores_is, l.1, s.words_is, l.2, s.apart) refl;
      cores_are = refl;
      words_are = refl;
    }

-- ---- runs

by-read : (cores words : ℕ) (default : Named) (o : Option (List ℕ)) → is_value_or cores words By o ≡ true
    → (by : Named)
    × (elim o as (λ _. Option Named) [ Some text ↦ policy_named text | None ↦ Some default ] ≡ Some by)
by-read cores words default None h = (default, refl)
by-read cores words default (Some text) h = some-value (policy_named text) h

range-read : (cores words : ℕ) (o : Option (List ℕ)) → is_value_or cores words Runs o ≡ true
    → (range : ℕ × ℕ)
    × (elim o as (λ _. Option (ℕ × ℕ)) [ Some text ↦ range_named text | None ↦ Some (0, LAST_DEFAULT) ] ≡ Some range)
range-read cores words None h = ((0, LAST_DEFAULT), refl)
range-read cores words (Some text) h = some-value (range_named text) h

threads-read : (cores words : ℕ) (o : Option (List ℕ)) → is_value_or cores words Threads o ≡ true
    → (threads : Option ℕ)
    × (elim o as (λ _. Option (Option ℕ)) [
      | Some text ↦ option_map (λ n. Some n) (number_between 1 HUNT_THREADS_MAX text)
      | None ↦ Some None
    ] ≡ Some threads)
threads-read cores words None h = (None, refl)
threads-read cores words (Some text) h =
    let n = some-value (number_between 1 HUNT_THREADS_MAX text) h in
    (Some n.0, ap (option_map (λ n. Some n)) n.1)

runs-made : (cores words : ℕ) (default : Named) (given : List Given)
    → is_value_or cores words By (text_of By given) ≡ true → is_value_or cores words Runs (text_of Runs given) ≡ true
    → is_value_or cores words Threads (text_of Threads given) ≡ true
    → (runs : RunsAsked) × (runs_of default given ≡ Some runs)
unfolding runs_of threads_of
runs-made cores words default given b r t =
    let by = by-read cores words default (text_of By given) b in
    let range = range-read cores words (text_of Runs given) r in
    let threads = threads-read cores words (text_of Threads given) t in (
      record { by = by.0; first = range.0.0; last = range.0.1; threads = threads.0 },
      rw (by.1, range.1, threads.1) refl,
    )

numbered-by : (by : Named) (text : List ℕ) (n : ℕ) → number_between 0 (2 ^ 64 - 1) text ≡ Some n
    → numbered (Some by) text ≡ Some (run_names.Numbered by n)
unfolding numbered
numbered-by by text n h = rw h refl

run-made : (cores words : ℕ) (run by turns : Option (List ℕ)) → is_value_or cores words Run run ≡ true
    → is_value_or cores words By by ≡ true → is_value_or cores words Turns turns ≡ true
    → (is_some run && is_some turns) ≡ false → (is_some by && is_some turns) ≡ false
    → (is_some run || is_some turns) ≡ true → (name : RunName) × (run_name_by run by turns ≡ Some name)
run-made cores words (Some run) None None r b t rt bt some =
    let n = some-value (number_between 0 (2 ^ 64 - 1) run) r in
    (run_names.Numbered by_names.All n.0, numbered-by by_names.All run n.0 n.1)
run-made cores words (Some run) (Some by) None r b t rt bt some =
    let p = some-value (policy_named by) b in
    let n = some-value (number_between 0 (2 ^ 64 - 1) run) r in (
      run_names.Numbered p.0 n.0,
      ap (λ (o : Option Named). numbered o run) p.1 ∙ numbered-by p.0 run n.0 n.1,
    )
run-made cores words None None (Some turns) r b t rt bt some =
    let ts = some-value (turns_named turns) t in
    (run_names.Turns ts.0, ap (option_map (λ ts. run_names.Turns ts)) ts.1)
run-made cores words None (Some by) (Some turns) r b t rt bt some = absurd (cc)
run-made cores words (Some run) by (Some turns) r b t rt bt some = absurd (cc)
run-made cores words None by None r b t rt bt some = absurd (cc)

-- ---- what is demanded

demand-made : (cores words : ℕ) (expect never same : Option (List ℕ)) → is_value_or cores words Expect expect ≡ true
    → is_value_or cores words Never never ≡ true → is_value_or cores words Same same ≡ true
    → (is_some expect && is_some never) ≡ false → (is_some expect && is_some same) ≡ false
    → (is_some never && is_some same) ≡ false → (is_some expect || is_some never || is_some same) ≡ true
    → (demand : Demand) × (demand_by cores expect never same ≡ Some demand)
    × (is_demanded_within cores words demand ≡ true)
demand-made cores words (Some text) None None e n s en es ns some =
    let claim = passed (are_named_within cores words) (claim_of text) e in
    (demands.Expect claim.0, ap (option_map (λ c. demands.Expect c)) claim.1, claim.2)
demand-made cores words None (Some text) None e n s en es ns some =
    let claim = passed (are_named_within cores words) (claim_of text) n in
    (demands.Never claim.0, ap (option_map (λ c. demands.Never c)) claim.1, claim.2)
demand-made cores words None None (Some text) e n s en es ns some =
    let places = passed (are_within cores words) (places_of cores text) s in
    (demands.Same places.0, ap (option_map (λ ps. demands.Same ps)) places.1, places.2)
demand-made cores words None None None e n s en es ns some = absurd (cc)
demand-made cores words (Some a) (Some b) same e n s en es ns some = absurd (cc)
demand-made cores words (Some a) None (Some c) e n s en es ns some = absurd (cc)
demand-made cores words None (Some b) (Some c) e n s en es ns some = absurd (cc)

record Demanded (params : Params) (given : List Given) : Type 0 where
  demand : Demand
  is : demand_of params given ≡ Some demand
  within : is_demanded_within params.cores params.words demand ≡ true

passed-through : (test : Demand → Bool) (o : Option Demand) (d : Demand) → o ≡ Some d → test d ≡ true
    → passing test o ≡ Some d
passed-through test o d h k = rw (h, k) refl

demanded : (params : Params) (given : List Given)
    → is_value_or params.cores params.words Expect (text_of Expect given) ≡ true
    → is_value_or params.cores params.words Never (text_of Never given) ≡ true
    → is_value_or params.cores params.words Same (text_of Same given) ≡ true
    → (has Expect given && has Never given) ≡ false → (has Expect given && has Same given) ≡ false
    → (has Never given && has Same given) ≡ false → (has Expect given || has Never given || has Same given) ≡ true
    → Demanded params given
unfolding demand_of
demanded params given e n s en es ns some =
    let d = demand-made params.cores params.words (text_of Expect given) (text_of Never given) (text_of Same given)
    e n s en es ns some in
    record {
      demand = d.0;
      is = passed-through (is_demanded_within params.cores params.words) _ d.0 d.1 d.2;
      within = d.2;
    }

-- where a claim is given, places that all runs end alike at aren't
no-same : (cores words : ℕ) (expect never same : Option (List ℕ)) → (is_some expect && is_some same) ≡ false
    → (is_some never && is_some same) ≡ false → (is_some expect || is_some never) ≡ true
    → is_value_or cores words Same same ≡ true
no-same cores words expect never None es ns some = refl
no-same cores words (Some a) never (Some c) es ns some = absurd (cc)
no-same cores words None (Some b) (Some c) es ns some = absurd (cc)
no-same cores words None None (Some c) es ns some = absurd (cc)

wider : (a b c : Bool) → (a || b) ≡ true → (a || b || c) ≡ true
wider true b c h = refl
wider false true c h = refl
wider false false c h = absurd (cc)

-- ---- all

abbrev Makes : Verb → List Given → Type 0
Makes verb given = (hunt : Hunt) × (hunt_of verb given ≡ Some hunt)

abbrev value-at : List Given → (cores : ℕ) → Name → Bool
value-at given cores name = is_value_or cores (most_words given) name (text_of name given)

-- on a machine that suits, each option of the verb has a value
value-of : (verb : Verb) (given : List Given) (cores : ℕ) → suits verb given cores ≡ true → (name : Name)
    → is-among name (valued_of verb) ≡ true → value-at given cores name ≡ true
value-of verb given cores h name among = all-at (value-at given cores) name (valued_of verb) among h

-- where no odd pair is given, none of the pairs of the verb is
apart-of : (verb : Verb) (given : List Given) → is_some (odd_pair verb given) ≡ false → (a b : Name)
    → is-pair a b (pairs verb) ≡ true → (has a given && has b given) ≡ false
apart-of verb given h a b among = none-at given a b (pairs verb) among h

first-hunt : (given : List Given) (setup : Setup) (runs : RunsAsked) (demand : Demand) → setup_of given ≡ Some setup
    → runs_of by_names.All given ≡ Some runs → demand_of setup.params given ≡ Some demand
    → hunt_of verbs.First given ≡ Some (asked.First setup runs demand (has_option (codes "--plain") given))
unfolding hunt_of first_of
first-hunt given setup runs demand s r d = rw (s, r, d) refl

table-hunt : (given : List Given) (setup : Setup) (runs : RunsAsked) (demand : Option Demand) (places : List Place)
    → setup_of given ≡ Some setup → runs_of by_names.Mixed given ≡ Some runs
    → table_demand setup.params given ≡ Some demand → table_places setup.params given demand ≡ Some places
    → hunt_of verbs.Table given ≡ Some (asked.Table setup runs places demand)
unfolding hunt_of table_of
table-hunt given setup runs demand places s r d p = rw (s, r, d, p) refl

small-hunt : (given : List Given) (setup : Setup) (run : RunName) (demand : Demand) → setup_of given ≡ Some setup
    → run_name_of given ≡ Some run → demand_of setup.params given ≡ Some demand
    → hunt_of verbs.Small given ≡ Some (asked.Small setup run demand)
unfolding hunt_of small_of
small-hunt given setup run demand s r d = rw (s, r, d) refl

words-hunt : (given : List Given) (setup : Setup) (run : RunName) → setup_of given ≡ Some setup
    → run_name_of given ≡ Some run → hunt_of verbs.Words given ≡ Some (asked.Words setup run)
unfolding hunt_of
words-hunt given setup run s r = rw (s, r) refl

record-hunt : (given : List Given) (setup : Setup) (run : RunName) → setup_of given ≡ Some setup
    → run_name_of given ≡ Some run → hunt_of verbs.Record given ≡ Some (asked.Record setup run)
unfolding hunt_of
record-hunt given setup run s r = rw (s, r) refl

first-made : (given : List Given) (cores : ℕ) → Set-up given cores (most_words given)
    → is_some (odd_pair verbs.First given) ≡ false → suits verbs.First given cores ≡ true
    → lacks verbs.First given ≡ None → Makes verbs.First given
first-made given cores s apart suited whole =
    let p = s.setup.params in
    let value = value-of verbs.First given cores suited in
    let free = apart-of verbs.First given apart in
    let runs = runs-made cores (most_words given) by_names.All given (value By refl) (value Runs refl)
    (value Threads refl) in
    let demand = demanded p given (rw (s.cores_are, s.words_are) (value Expect refl))
    (rw (s.cores_are, s.words_are) (value Never refl)) (rw (s.cores_are, s.words_are) (value Same refl))
    (free Expect Never refl) (free Expect Same refl) (free Never Same refl)
    (named (has Expect given || has Never given || has Same given) _ whole) in (
      asked.First s.setup runs.0 demand.demand (has_option (codes "--plain") given),
      first-hunt given s.setup runs.0 demand.demand s.is runs.1 demand.is,
    )

-- what a table demands and shows
record Tabled (params : Params) (given : List Given) : Type 0 where
  demand : Option Demand
  places : List Place
  demand_is : table_demand params given ≡ Some demand
  places_are : table_places params given demand ≡ Some places

see-by : (params : Params) (given : List Given) (demand : Option Demand) (text : List ℕ) (places : List Place)
    → text_of See given ≡ Some text → places_of params.cores text ≡ Some places
    → are_within params.cores params.words places ≡ true → table_places params given demand ≡ Some places
unfolding table_places
see-by params given demand text places is e within = rw (is, e, within) refl

see-made : (params : Params) (given : List Given) (demand : Option Demand) (text : List ℕ)
    → text_of See given ≡ Some text → is_value params.cores params.words See text ≡ true
    → (places : List Place) × (table_places params given demand ≡ Some places)
see-made params given demand text is h =
    let places = passed (are_within params.cores params.words) (places_of params.cores text) h in
    (places.0, see-by params given demand text places.0 is places.1 places.2)

demanded-places : (params : Params) (given : List Given) (demand : Demand) → text_of See given ≡ None
    → is_demanded_within params.cores params.words demand ≡ true
    → table_places params given (Some demand) ≡ Some (demand_places params.cores demand)
unfolding table_places
demanded-places params given demand none within =
    rw (none, demanded-within params.cores params.words demand within) refl

tabled : (params : Params) (given : List Given)
    → is_value_or params.cores params.words Expect (text_of Expect given) ≡ true
    → is_value_or params.cores params.words Never (text_of Never given) ≡ true
    → is_value_or params.cores params.words See (text_of See given) ≡ true
    → (has Expect given && has Never given) ≡ false → (has Expect given && has Same given) ≡ false
    → (has Never given && has Same given) ≡ false → (has Expect given || has Never given || has See given) ≡ true
    → Tabled params given
unfolding table_demand
tabled params given e n s en es ns some = by (has Expect given || has Never given) (text_of See given) refl refl
  where
    no : (b : Bool) → (has Expect given || has Never given) ≡ false
        → (has Expect given || has Never given || has See given) ≡ true → has See given ≡ true
    no b h k = grind (arith, nat_tests)

    seen : (o : Option (List ℕ)) → text_of See given ≡ o → is_some o ≡ true
        → (text : List ℕ) × (text_of See given ≡ Some text)
    seen None is h = absurd (cc)
    seen (Some text) is h = (text, is)

    demand : (has Expect given || has Never given) ≡ true → Demanded params given
    demand is =
        demanded params given e n
        (no-same params.cores params.words (text_of Expect given) (text_of Never given) (text_of Same given) es ns is)
        en es ns (wider (has Expect given) (has Never given) (has Same given) is)

    by : (b : Bool) (o : Option (List ℕ)) → (has Expect given || has Never given) ≡ b → text_of See given ≡ o
        → Tabled params given
    by false o is see =
        let there = no false is some in
        let text = seen o see (rw (sym see) there) in
        let places = see-made params given None text.0 text.1 (rw (text.1) at s) in
        record {
          demand = None;
          places = places.0;
          demand_is = rw is refl;
          places_are = places.1;
        }
    by true (Some text) is see =
        let d = demand is in
        let places = see-made params given (Some d.demand) text see (rw (see) at s) in
        record {
          demand = Some d.demand;
          places = places.0;
          demand_is = rw (is, d.is) refl;
          places_are = places.1;
        }
    by true None is see =
        let d = demand is in
        record {
          demand = Some d.demand;
          places = demand_places params.cores d.demand;
          demand_is = rw (is, d.is) refl;
          places_are = demanded-places params given d.demand see d.within;
        }

table-made : (given : List Given) (cores : ℕ) → Set-up given cores (most_words given)
    → is_some (odd_pair verbs.Table given) ≡ false → suits verbs.Table given cores ≡ true
    → lacks verbs.Table given ≡ None → Makes verbs.Table given
table-made given cores s apart suited whole =
    let p = s.setup.params in
    let value = value-of verbs.Table given cores suited in
    let free = apart-of verbs.Table given apart in
    let runs = runs-made cores (most_words given) by_names.Mixed given (value By refl) (value Runs refl)
    (value Threads refl) in
    let t = tabled p given (rw (s.cores_are, s.words_are) (value Expect refl))
    (rw (s.cores_are, s.words_are) (value Never refl)) (rw (s.cores_are, s.words_are) (value See refl))
    (free Expect Never refl) (free Expect Same refl) (free Never Same refl)
    (named (has Expect given || has Never given || has See given) _ whole) in (
      asked.Table s.setup runs.0 t.places t.demand,
      table-hunt given s.setup runs.0 t.demand t.places s.is runs.1 t.demand_is t.places_are,
    )

-- options that lack no run name one
pub run-named : (given : List Given) → lacks_run given ≡ None → (has Run given || has Turns given) ≡ true
run-named given h = by (has Run given || has Turns given) (has By given) h
  where
    by : (b c : Bool) → cond b None (cond c (Some lacking.Number) (Some lacking.ARun)) ≡ None → b ≡ true
    by true c k = refl
    by false true k = absurd (cc)
    by false false k = absurd (cc)

-- the run that options name
one-run : (given : List Given) (cores : ℕ) → value-at given cores Run ≡ true → value-at given cores By ≡ true
    → value-at given cores Turns ≡ true → (has Run given && has Turns given) ≡ false
    → (has By given && has Turns given) ≡ false → lacks_run given ≡ None
    → (run : RunName) × (run_name_of given ≡ Some run)
unfolding run_name_of
one-run given cores r b t rt bt whole =
    run-made cores (most_words given) (text_of Run given) (text_of By given) (text_of Turns given) r b t rt bt
    (run-named given whole)

lacks-small : (given : List Given) → lacks verbs.Small given ≡ None
    → (lacks_run given ≡ None) × ((has Expect given || has Never given) ≡ true)
lacks-small given h = by (lacks_run given) (has Expect given || has Never given) h
  where
    by : (o : Option Missing) (b : Bool)
        → elim o as (λ _. Option Missing) [ Some missing ↦ Some missing | None ↦ cond b None (Some lacking.Demand) ]
        ≡ None → (o ≡ None) × (b ≡ true)
    by (Some m) b k = absurd (cc)
    by None true k = (refl, refl)
    by None false k = absurd (cc)

small-made : (given : List Given) (cores : ℕ) → Set-up given cores (most_words given)
    → is_some (odd_pair verbs.Small given) ≡ false → suits verbs.Small given cores ≡ true
    → lacks verbs.Small given ≡ None → Makes verbs.Small given
small-made given cores s apart suited whole =
    let p = s.setup.params in
    let value = value-of verbs.Small given cores suited in
    let free = apart-of verbs.Small given apart in
    let l = lacks-small given whole in
    let run = one-run given cores (value Run refl) (value By refl) (value Turns refl) (free Run Turns refl)
    (free By Turns refl) l.0 in
    let same = no-same p.cores p.words (text_of Expect given) (text_of Never given) (text_of Same given)
    (free Expect Same refl) (free Never Same refl) l.1 in
    let demand = demanded p given (rw (s.cores_are, s.words_are) (value Expect refl))
    (rw (s.cores_are, s.words_are) (value Never refl)) same (free Expect Never refl) (free Expect Same refl)
    (free Never Same refl) (wider (has Expect given) (has Never given) (has Same given) l.1) in (
      asked.Small s.setup run.0 demand.demand,
      small-hunt given s.setup run.0 demand.demand s.is run.1 demand.is,
    )

words-made : (given : List Given) (cores : ℕ) → Set-up given cores (most_words given)
    → is_some (odd_pair verbs.Words given) ≡ false → suits verbs.Words given cores ≡ true
    → lacks verbs.Words given ≡ None → Makes verbs.Words given
words-made given cores s apart suited whole =
    let value = value-of verbs.Words given cores suited in
    let free = apart-of verbs.Words given apart in
    let run = one-run given cores (value Run refl) (value By refl) (value Turns refl) (free Run Turns refl)
    (free By Turns refl) whole in
    (asked.Words s.setup run.0, words-hunt given s.setup run.0 s.is run.1)

record-made : (given : List Given) (cores : ℕ) → Set-up given cores (most_words given)
    → is_some (odd_pair verbs.Record given) ≡ false → suits verbs.Record given cores ≡ true
    → lacks verbs.Record given ≡ None → Makes verbs.Record given
record-made given cores s apart suited whole =
    let value = value-of verbs.Record given cores suited in
    let free = apart-of verbs.Record given apart in
    let run = one-run given cores (value Run refl) (value By refl) (value Turns refl) (free Run Turns refl)
    (free By Turns refl) whole in
    (asked.Record s.setup run.0, record-hunt given s.setup run.0 s.is run.1)

-- the options of the machine, of each verb
machine-options : (verb : Verb)
    → (is-among Cores (valued_of verb) ≡ true) × (is-among Limit (valued_of verb) ≡ true)
    × (is-among Words (valued_of verb) ≡ true) × (is-pair Elf Tso (pairs verb) ≡ true)
machine-options verbs.First = (refl, refl, refl, refl)
machine-options verbs.Table = (refl, refl, refl, refl)
machine-options verbs.Small = (refl, refl, refl, refl)
machine-options verbs.Words = (refl, refl, refl, refl)
machine-options verbs.Record = (refl, refl, refl, refl)

pub hunt-made : (verb : Verb) (given : List Given) (cores : ℕ) → 1 ≤ cores → cores ≤ CORES_MAX
    → number_or (codes "--cores") 1 CORES_MAX cores_default given ≡ Some cores
    → words_or given ≡ Some (most_words given) → is_some (odd_pair verb given) ≡ false → suits verb given cores ≡ true
    → lacks verb given ≡ None → (hunt : Hunt) × (hunt_of verb given ≡ Some hunt)
hunt-made verb given cores low high cores_is words_is apart suited whole =
    by verb apart suited whole
    (set-up given cores (record {
      low = low;
      high = high;
      cores_is = cores_is;
      words_is = words_is;
      limit_value = value-of verb given cores suited Limit (machine-options verb).1;
      apart = apart-of verb given apart Elf Tso (machine-options verb).3;
    }))
  where
    by : (verb : Verb) → is_some (odd_pair verb given) ≡ false → suits verb given cores ≡ true
        → lacks verb given ≡ None → Set-up given cores (most_words given) → Makes verb given
    by verbs.First a t w s = first-made given cores s a t w
    by verbs.Table a t w s = table-made given cores s a t w
    by verbs.Small a t w s = small-made given cores s a t w
    by verbs.Words a t w s = words-made given cores s a t w
    by verbs.Record a t w s = record-made given cores s a t w

-- of options with cores and words of their own
cores-given : (given : List Given) (cores words : ℕ) (o : Option (List ℕ)) → is_some o ≡ true
    → is_value_or cores words Cores o ≡ true
    → elim o as (λ _. Option ℕ) [ Some text ↦ number_between 1 CORES_MAX text | None ↦ Some cores_default ] ≡ Some cores
cores-given given cores words None there h = absurd (cc)
cores-given given cores words (Some text) there h =
    let n = passed (λ n. eqb n cores) (number_between 1 CORES_MAX text) h in
    rw (← eqb-true n.0 cores n.2) n.1

words-given : (cores words : ℕ) (o : Option (List ℕ)) → is_some o ≡ true → is_value_or cores words Words o ≡ true
    → elim o as (λ _. Option ℕ) [ Some text ↦ whole_blocks text | None ↦ Some words_default ] ≡ Some words
words-given cores words None there h = absurd (cc)
words-given cores words (Some text) there h =
    let n = passed (λ n. eqb n words) (whole_blocks text) h in
    rw (← eqb-true n.0 words n.2) n.1

pub cores-named : (verb : Verb) (given : List Given) (cores : ℕ) → suits verb given cores ≡ true
    → has Cores given ≡ true
    → number_or (codes "--cores") 1 CORES_MAX cores_default given ≡ Some cores
cores-named verb given cores h there =
    cores-given given cores (most_words given) (text_of Cores given) there
    (value-of verb given cores h Cores (machine-options verb).0)

pub words-named : (verb : Verb) (given : List Given) (cores : ℕ) → suits verb given cores ≡ true
    → has Words given ≡ true
    → words_or given ≡ Some (most_words given)
words-named verb given cores h there =
    words-given cores (most_words given) (text_of Words given) there
    (value-of verb given cores h Words (machine-options verb).2)
