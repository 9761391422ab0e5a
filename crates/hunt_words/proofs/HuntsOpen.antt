-- Options that make a hunt are open.
use Rattle.std.proofs.Common.{◌≡◌, ℕ, ◌*◌, ◌≤◌, ◌^◌, Bool, true, false, cond, not, ◌&&◌, ◌||◌, List}
use Rattle.std.proofs.Common.{Option, Some, None, arith, refl, sym, ◌∙◌, ap, is_some, nat_le}
use Rattle.std.specs.Prelude.{◌-◌, codes}
use Rattle.std.specs.Option.{option_map}
use Rattle.std.proofs.lemmas.Bool.{and_from, eq-eqb}
use Rattle.rtr_types.specs.declared.TheConstants.{CORES_MAX}
use Rattle.rtr_types.specs.declared.params.Params.{Params}
use Rattle.rtr_types.specs.declared.params.TheConstants.{INSTRUCTIONS_MAX, LIMIT_MAX}
use Rattle.tool_words.specs.Numerals.{number_between}
use Rattle.tool_words.specs.Options.{cores_default, limit_default, whole_blocks, words_default}
use Rattle.tool_words.proofs.Chains.{if-none, if-some}
use Rattle.turn_policies.specs.declared.named.Named.{Named}
use Rattle.turn_policies.specs.declared.named.Named.TheVariants as by_names
use Rattle.end_claims.specs.declared.claim.Demand.{Demand}
use Rattle.end_claims.specs.declared.claim.Demand.TheVariants as demands
use Rattle.end_claims.specs.declared.claim.Place.{Place}
use Rattle.end_claims.specs.Demands.{is_demanded_within}
use Rattle.end_claims.specs.Named.{are_within}
use Rattle.end_claims.specs.Reading.{claim_of, places_of}
use Rattle.hunt_words.specs.declared.hunt.Hunt.{Hunt}
use Rattle.hunt_words.specs.declared.hunt.RunName.{RunName}
use Rattle.hunt_words.specs.declared.hunt.Runs.{Runs as RunsAsked}
use Rattle.hunt_words.specs.declared.hunt.Setup.{Setup}
use Rattle.hunt_words.specs.declared.names.Name.{Name}
use Rattle.hunt_words.specs.declared.names.Name.TheVariants.{Cores, Limit, Words, By, Runs, Threads, Run, Turns, Expect}
use Rattle.hunt_words.specs.declared.names.Name.TheVariants.{Never, Same, See, Elf, Tso}
use Rattle.hunt_words.specs.declared.options.TheConstants.{HUNT_THREADS_MAX}
use Rattle.hunt_words.specs.declared.verbs.Verb.{Verb}
use Rattle.hunt_words.specs.declared.verbs.Verb.TheVariants as verbs
use Rattle.hunt_words.specs.Given.{Given}
use Rattle.hunt_words.specs.Meaning.{asked_by, first_of, hunt_of, small_of, table_of}
use Rattle.hunt_words.specs.Open.{has, is_open, is_value, is_value_or, most_words, odd_pair, passes, suits, text_of}
use Rattle.hunt_words.specs.Options.{demand_by, demand_of, numbered, params_of, passing, places_by, run_name_by}
use Rattle.hunt_words.specs.Options.{run_name_of, runs_of, setup_of, table_demand, table_places, threads_of}
use Rattle.hunt_words.specs.TurnTexts.{turns_named}
use Rattle.hunt_words.specs.Values.{number_or, policy_named, policy_or, range_named, range_or, words_or}
use Rattle.hunt_words.proofs.OptionLists.{bind-some, mapped-some, passes-range, some-inj}
use Rattle.hunt_words.proofs.SuitedMachines.{is-words, value-lifts, words-by}
use Rattle.hunt_words.proofs.TurnsRead.{number-is}

-- ---- the machine

pub record IsMachine (given : List Given) (setup : Setup) : Type 0 where
  pub limit : ℕ
  pub cores_is : number_or (codes "--cores") 1 CORES_MAX cores_default given ≡ Some setup.params.cores
  pub limit_is : number_or (codes "--limit") 1 LIMIT_MAX limit_default given ≡ Some limit
  pub words_is : words_or given ≡ Some setup.params.words
  pub few : nat_le (setup.params.cores * limit) INSTRUCTIONS_MAX ≡ true
  pub apart : (has Elf given && has Tso given) ≡ false

machine-of : (given : List Given) (setup : Setup) → setup_of given ≡ Some setup → IsMachine given setup
unfolding setup_of params_of
machine-of given setup h =
    let p = bind-some (params_of given) _ setup h in
    let c = bind-some (number_or (codes "--cores") 1 CORES_MAX cores_default given) _ p.0 p.1 in
    let l = bind-some (number_or (codes "--limit") 1 LIMIT_MAX limit_default given) _ p.0 c.2 in
    let w = bind-some (words_or given) _ p.0 l.2 in
    let params = if-some (nat_le (c.0 * l.0) INSTRUCTIONS_MAX) _ p.0 w.2 in
    let all = if-none (has Elf given && has Tso given) _ setup p.2 in
    made p.0 c.0 l.0 w.0 c.1 l.1 w.1 params.0 params.1 all.0 all.1
  where
    made : (params : Params) (c l w : ℕ) → number_or (codes "--cores") 1 CORES_MAX cores_default given ≡ Some c
        → number_or (codes "--limit") 1 LIMIT_MAX limit_default given ≡ Some l → words_or given ≡ Some w
        → nat_le (c * l) INSTRUCTIONS_MAX ≡ true → Some (record { cores = c; limit = l; words = w }) ≡ Some params
        → (has Elf given && has Tso given) ≡ false
        → Some (record { params = params; elf = has Elf given; tso = has Tso given }) ≡ Some setup
        → IsMachine given setup
    made params c l w cores limit words few p apart s =
        let own : record { cores = c; limit = l; words = w } ≡ params = some-inj _ _ p in
        let whole : record { params = params; elf = has Elf given; tso = has Tso given } ≡ setup = some-inj _ _ s in
        let cores_same : c ≡ setup.params.cores =
        ap (λ (q : Params). q.cores) own ∙ ap (λ (q : Setup). q.params.cores) whole in
        let words_same : w ≡ setup.params.words =
        ap (λ (q : Params). q.words) own ∙ ap (λ (q : Setup). q.params.words) whole in
        record {
          limit = l;
          cores_is = cores ∙ ap (λ (n : ℕ). Some n) cores_same;
          limit_is = limit;
          words_is = words ∙ ap (λ (n : ℕ). Some n) words_same;
          few = ap (λ (n : ℕ). nat_le (n * l) INSTRUCTIONS_MAX) (sym cores_same) ∙ few;
          apart = apart;
        }

pub record SuitsAll (given : List Given) (cores words : ℕ) : Type 0 where
  pub low : 1 ≤ cores
  pub high : cores ≤ CORES_MAX
  pub cores_value : is_value_or cores (most_words given) Cores (text_of Cores given) ≡ true
  pub limit_value : is_value_or cores (most_words given) Limit (text_of Limit given) ≡ true
  pub words_value : is_value_or cores (most_words given) Words (text_of Words given) ≡ true
  pub fewer : words ≤ most_words given

suits-all : (given : List Given) (setup : Setup) → IsMachine given setup
    → SuitsAll given setup.params.cores setup.params.words
suits-all given setup m = record {
  low = range.0;
  high = range.1;
  cores_value = cores-value (text_of Cores given) m.cores_is;
  limit_value = limit-value (text_of Limit given) m.limit_is;
  words_value = words-value (text_of Words given) m.words_is;
  fewer = fewer (text_of Words given) m.words_is;
}
  where
    c : ℕ
    c = setup.params.cores

    w : ℕ
    w = setup.params.words

    in-range : (o : Option (List ℕ))
        → elim o as (λ _. Option ℕ) [ Some text ↦ number_between 1 CORES_MAX text | None ↦ Some cores_default ] ≡ Some c
        → (1 ≤ c) × (c ≤ CORES_MAX)
    in-range None h = let one : 1 ≡ c = cc in (omega arith, omega arith)
    in-range (Some text) h = let n = number-is 1 CORES_MAX c text (omega arith) h in (n.low, n.high)

    range : (1 ≤ c) × (c ≤ CORES_MAX)
    range = in-range (text_of Cores given) m.cores_is

    cores-value : (o : Option (List ℕ))
        → elim o as (λ _. Option ℕ) [ Some text ↦ number_between 1 CORES_MAX text | None ↦ Some cores_default ] ≡ Some c
        → is_value_or c (most_words given) Cores o ≡ true
    cores-value None h = refl
    cores-value (Some text) h = rw h (eq-eqb c c refl)

    limit-value : (o : Option (List ℕ))
        → elim o as (λ _. Option ℕ) [ Some text ↦ number_between 1 LIMIT_MAX text | None ↦ Some limit_default ]
        ≡ Some m.limit
        → is_value_or c (most_words given) Limit o ≡ true
    limit-value None h = refl
    limit-value (Some text) h = rw h m.few

    words-value : (o : Option (List ℕ))
        → elim o as (λ _. Option ℕ) [ Some text ↦ whole_blocks text | None ↦ Some words_default ] ≡ Some w
        → is_value_or c (words-by o) Words o ≡ true
    words-value None h = refl
    words-value (Some text) h = rw h (eq-eqb w w refl)

    fewer : (o : Option (List ℕ))
        → elim o as (λ _. Option ℕ) [ Some text ↦ whole_blocks text | None ↦ Some words_default ] ≡ Some w
        → w ≤ words-by o
    fewer None h = let is : words_default ≡ w = cc in omega arith
    fewer (Some text) h = rw h (omega arith)

-- ---- runs

-- a text that is read is a value
read-value : {A : Type 0} (f : List ℕ → Option A) (d a : A) (o : Option (List ℕ))
    → elim o as (λ _. Option A) [ Some text ↦ f text | None ↦ Some d ] ≡ Some a
    → elim o as (λ _. Bool) [ None ↦ true | Some text ↦ is_some (f text) ] ≡ true
read-value f d a None h = refl
read-value f d a (Some text) h = rw h refl

by-value : (cores words : ℕ) (o : Option (List ℕ))
    → elim o as (λ _. Bool) [ None ↦ true | Some text ↦ is_some (policy_named text) ] ≡ true
    → is_value_or cores words By o ≡ true
by-value cores words None h = refl
by-value cores words (Some text) h = h

runs-value : (cores words : ℕ) (o : Option (List ℕ))
    → elim o as (λ _. Bool) [ None ↦ true | Some text ↦ is_some (range_named text) ] ≡ true
    → is_value_or cores words Runs o ≡ true
runs-value cores words None h = refl
runs-value cores words (Some text) h = h

threads-value : (cores words : ℕ) (o : Option (List ℕ)) (t : Option ℕ)
    → elim o as (λ _. Option (Option ℕ)) [
      | Some text ↦ option_map (λ n. Some n) (number_between 1 HUNT_THREADS_MAX text)
      | None ↦ Some None
    ] ≡ Some t → is_value_or cores words Threads o ≡ true
threads-value cores words None t h = refl
threads-value cores words (Some text) t h = by (number_between 1 HUNT_THREADS_MAX text) h
  where
    by : (o : Option ℕ) → option_map (λ n. Some n) o ≡ Some t → is_some o ≡ true
    by None h = absurd (cc)
    by (Some n) h = refl

pub record RunsAre (given : List Given) (cores words : ℕ) : Type 0 where
  pub policy : is_value_or cores words By (text_of By given) ≡ true
  pub range : is_value_or cores words Runs (text_of Runs given) ≡ true
  pub threads : is_value_or cores words Threads (text_of Threads given) ≡ true

runs-are : (cores words : ℕ) (default : Named) (given : List Given) (runs : RunsAsked)
    → runs_of default given ≡ Some runs
    → RunsAre given cores words
unfolding runs_of threads_of
runs-are cores words default given runs h =
    let b = bind-some (policy_or default given) _ runs h in
    let r = bind-some (range_or given) _ runs b.2 in
    let t = bind-some (threads_of given) _ runs r.2 in
    record {
      policy = by-value cores words (text_of By given) (read-value policy_named default b.0 (text_of By given) b.1);
      range = runs-value cores words (text_of Runs given) (read-value range_named _ r.0 (text_of Runs given) r.1);
      threads = threads-value cores words (text_of Threads given) t.0 t.1;
    }

pub record RunIs (cores words : ℕ) (run by turns : Option (List ℕ)) : Type 0 where
  pub number : is_value_or cores words Run run ≡ true
  pub policy : is_value_or cores words By by ≡ true
  pub turns_value : is_value_or cores words Turns turns ≡ true
  pub run_or_turns : (is_some run && is_some turns) ≡ false
  pub by_or_turns : (is_some by && is_some turns) ≡ false

run-is : (cores words : ℕ) (run by turns : Option (List ℕ)) (name : RunName) → run_name_by run by turns ≡ Some name
    → RunIs cores words run by turns
unfolding numbered
run-is cores words (Some run) None None name h =
    let n = bind-some (number_between 0 (2 ^ 64 - 1) run) _ name h in
    record {
      number = rw n.1 refl;
      policy = refl;
      turns_value = refl;
      run_or_turns = refl;
      by_or_turns = refl;
    }
run-is cores words (Some run) (Some by) None name h =
    let b = bind-some (policy_named by) _ name h in
    let n = bind-some (number_between 0 (2 ^ 64 - 1) run) _ name b.2 in
    record {
      number = rw n.1 refl;
      policy = rw b.1 refl;
      turns_value = refl;
      run_or_turns = refl;
      by_or_turns = refl;
    }
run-is cores words None None (Some turns) name h = record {
  number = refl;
  policy = refl;
  turns_value = mapped-some _ name (turns_named turns) h;
  run_or_turns = refl;
  by_or_turns = refl;
}
run-is cores words None None None name h = absurd (cc)
run-is cores words None (Some by) None name h = absurd (cc)
run-is cores words None (Some by) (Some turns) name h = absurd (cc)
run-is cores words (Some run) None (Some turns) name h = absurd (cc)
run-is cores words (Some run) (Some by) (Some turns) name h = absurd (cc)

-- ---- what is demanded

pub record DemandIs (cores words : ℕ) (expect never same : Option (List ℕ)) : Type 0 where
  pub expect_value : is_value_or cores words Expect expect ≡ true
  pub never_value : is_value_or cores words Never never ≡ true
  pub same_value : is_value_or cores words Same same ≡ true
  pub expect_never : (is_some expect && is_some never) ≡ false
  pub expect_same : (is_some expect && is_some same) ≡ false
  pub never_same : (is_some never && is_some same) ≡ false

-- what a passing value comes of passes
passes-by : {A B : Type 0} (test : B → Bool) (f : A → B) (b : B) (o : Option A) → passing test (option_map f o) ≡ Some b
    → passes (λ a. test (f a)) o ≡ true
passes-by test f b None h = absurd (cc)
passes-by test f b (Some a) h = (if-some (test (f a)) _ b h).0

pub demand-is : (cores words : ℕ) (expect never same : Option (List ℕ)) (demand : Demand)
    → passing (is_demanded_within cores words) (demand_by cores expect never same) ≡ Some demand
    → DemandIs cores words expect never same
demand-is cores words (Some text) None None demand h = record {
  expect_value = passes-by (is_demanded_within cores words) (λ claim. demands.Expect claim) demand (claim_of text) h;
  never_value = refl;
  same_value = refl;
  expect_never = refl;
  expect_same = refl;
  never_same = refl;
}
demand-is cores words None (Some text) None demand h = record {
  expect_value = refl;
  never_value = passes-by (is_demanded_within cores words) (λ claim. demands.Never claim) demand (claim_of text) h;
  same_value = refl;
  expect_never = refl;
  expect_same = refl;
  never_same = refl;
}
demand-is cores words None None (Some text) demand h = record {
  expect_value = refl;
  never_value = refl;
  same_value = passes-by (is_demanded_within cores words) (λ ps. demands.Same ps) demand (places_of cores text) h;
  expect_never = refl;
  expect_same = refl;
  never_same = refl;
}
demand-is cores words None None None demand h = absurd (cc)
demand-is cores words None (Some b) (Some c) demand h = absurd (cc)
demand-is cores words (Some a) None (Some c) demand h = absurd (cc)
demand-is cores words (Some a) (Some b) None demand h = absurd (cc)
demand-is cores words (Some a) (Some b) (Some c) demand h = absurd (cc)

-- ---- a table

pub record TableIs (cores words : ℕ) (expect never same : Option (List ℕ)) : Type 0 where
  pub expect_value : is_value_or cores words Expect expect ≡ true
  pub never_value : is_value_or cores words Never never ≡ true
  pub expect_never : (is_some expect && is_some never) ≡ false
  pub expect_same : (is_some expect && is_some same) ≡ false
  pub never_same : (is_some never && is_some same) ≡ false

-- ---- all

-- a value on a machine is one on a machine with the most words
lifted : (given : List Given) (cores words : ℕ) → words ≤ most_words given → (name : Name) → (o : Option (List ℕ))
    → ((text : List ℕ) → is_value cores words name text ≡ true → is_value cores (most_words given) name text ≡ true)
    → is_value_or cores words name o ≡ true → is_value_or cores (most_words given) name o ≡ true
lifted given cores words fewer name None lifts h = refl
lifted given cores words fewer name (Some text) lifts h = lifts text h

lifted-named : (given : List Given) (cores words : ℕ) → words ≤ most_words given → (name : Name) → is-words name ≡ false
    → is_value_or cores words name (text_of name given) ≡ true
    → is_value_or cores (most_words given) name (text_of name given) ≡ true
lifted-named given cores words fewer name other h =
    lifted given cores words fewer name (text_of name given)
    (value-lifts cores words (most_words given) fewer name other) h

open-from : (verb : Verb) (given : List Given) (cores : ℕ) → 1 ≤ cores → cores ≤ CORES_MAX
    → is_some (odd_pair verb given) ≡ false → suits verb given cores ≡ true → is_open verb given ≡ true
open-from verb given cores low high apart suited =
    and_from _ _ (ap not apart)
    (passes-range (suits verb given) 1 CORES_MAX cores low (omega (arith, high)) suited)

first-open : (given : List Given) (hunt : Hunt) → hunt_of verbs.First given ≡ Some hunt
    → is_open verbs.First given ≡ true
unfolding hunt_of first_of demand_of
first-open given hunt h =
    let s = bind-some (setup_of given) (λ setup. asked_by verbs.First setup given) hunt h in
    let m = machine-of given s.0 s.1 in
    let all = suits-all given s.0 m in
    let c : ℕ = s.0.params.cores in
    let w : ℕ = s.0.params.words in
    let W : ℕ = most_words given in
    let r = bind-some (runs_of by_names.All given) _ hunt s.2 in
    let runs = runs-are c W by_names.All given r.0 r.1 in
    let d = bind-some (demand_of s.0.params given) _ hunt r.2 in
    let demand = demand-is c w (text_of Expect given) (text_of Never given) (text_of Same given) d.0 d.1 in
    open-from verbs.First given c all.low all.high
    (rw (m.apart, demand.expect_never, demand.expect_same, demand.never_same) refl)
    (rw (
      all.cores_value,
      all.limit_value,
      all.words_value,
      runs.policy,
      runs.range,
      runs.threads,
      lifted-named given c w all.fewer Expect refl demand.expect_value,
      lifted-named given c w all.fewer Never refl demand.never_value,
      lifted-named given c w all.fewer Same refl demand.same_value,
    ) refl)

table-is : (params : Params) (given : List Given) (demand : Option Demand) → table_demand params given ≡ Some demand
    → TableIs params.cores params.words (text_of Expect given) (text_of Never given) (text_of Same given)
unfolding table_demand demand_of
table-is params given demand h = by (text_of Expect given) (text_of Never given) (text_of Same given) h
  where
    c : ℕ
    c = params.cores

    w : ℕ
    w = params.words

    from : (e n s : Option (List ℕ)) → DemandIs c w e n s → TableIs c w e n s
    from e n s d = record {
      expect_value = d.expect_value;
      never_value = d.never_value;
      expect_never = d.expect_never;
      expect_same = d.expect_same;
      never_same = d.never_same;
    }

    some-demand : (e n s : Option (List ℕ))
        → option_map (λ d. Some d) (passing (is_demanded_within c w) (demand_by c e n s)) ≡ Some demand
        → TableIs c w e n s
    some-demand e n s k = inner (passing (is_demanded_within c w) (demand_by c e n s)) refl k
      where
        inner : (o : Option Demand) → passing (is_demanded_within c w) (demand_by c e n s) ≡ o
            → option_map (λ d. Some d) o ≡ Some demand → TableIs c w e n s
        inner None is k = absurd (cc)
        inner (Some d) is k = from e n s (demand-is c w e n s d is)

    by : (e n s : Option (List ℕ))
        → cond (is_some e || is_some n)
        (option_map (λ d. Some d) (passing (is_demanded_within c w) (demand_by c e n s))) (Some None)
        ≡ Some demand → TableIs c w e n s
    by None None s k = record {
      expect_value = refl;
      never_value = refl;
      expect_never = refl;
      expect_same = refl;
      never_same = refl;
    }
    by (Some e) n s k = some-demand (Some e) n s k
    by None (Some n) s k = some-demand None (Some n) s k

see-is : (params : Params) (given : List Given) (demand : Option Demand) (places : List Place)
    → table_places params given demand ≡ Some places
    → is_value_or params.cores params.words See (text_of See given) ≡ true
unfolding table_places
see-is params given demand places h = by (text_of See given) h
  where
    by : (o : Option (List ℕ))
        → passing (are_within params.cores params.words) (places_by params.cores o demand) ≡ Some places
        → is_value_or params.cores params.words See o ≡ true
    by None k = refl
    by (Some text) k = inner (places_of params.cores text) k
      where
        inner : (o : Option (List Place)) → passing (are_within params.cores params.words) o ≡ Some places
            → passes (are_within params.cores params.words) o ≡ true
        inner None k = absurd (cc)
        inner (Some ps) k = (if-some (are_within params.cores params.words ps) _ places k).0

table-open : (given : List Given) (hunt : Hunt) → hunt_of verbs.Table given ≡ Some hunt
    → is_open verbs.Table given ≡ true
unfolding hunt_of table_of
table-open given hunt h =
    let s = bind-some (setup_of given) (λ setup. asked_by verbs.Table setup given) hunt h in
    let m = machine-of given s.0 s.1 in
    let all = suits-all given s.0 m in
    let c : ℕ = s.0.params.cores in
    let w : ℕ = s.0.params.words in
    let W : ℕ = most_words given in
    let r = bind-some (runs_of by_names.Mixed given) _ hunt s.2 in
    let runs = runs-are c W by_names.Mixed given r.0 r.1 in
    let d = bind-some (table_demand s.0.params given) _ hunt r.2 in
    let demand = table-is s.0.params given d.0 d.1 in
    let p = bind-some (table_places s.0.params given d.0) _ hunt d.2 in
    let see = see-is s.0.params given d.0 p.0 p.1 in
    open-from verbs.Table given c all.low all.high
    (rw (m.apart, demand.expect_never, demand.expect_same, demand.never_same) refl)
    (rw (
      all.cores_value,
      all.limit_value,
      all.words_value,
      runs.policy,
      runs.range,
      runs.threads,
      lifted-named given c w all.fewer Expect refl demand.expect_value,
      lifted-named given c w all.fewer Never refl demand.never_value,
      lifted-named given c w all.fewer See refl see,
    ) refl)

small-open : (given : List Given) (hunt : Hunt) → hunt_of verbs.Small given ≡ Some hunt
    → is_open verbs.Small given ≡ true
unfolding hunt_of small_of run_name_of demand_of
small-open given hunt h =
    let s = bind-some (setup_of given) (λ setup. asked_by verbs.Small setup given) hunt h in
    let m = machine-of given s.0 s.1 in
    let all = suits-all given s.0 m in
    let c : ℕ = s.0.params.cores in
    let w : ℕ = s.0.params.words in
    let W : ℕ = most_words given in
    let r = bind-some (run_name_of given) _ hunt s.2 in
    let run = run-is c W (text_of Run given) (text_of By given) (text_of Turns given) r.0 r.1 in
    let d = bind-some (demand_of s.0.params given) _ hunt r.2 in
    let demand = demand-is c w (text_of Expect given) (text_of Never given) (text_of Same given) d.0 d.1 in
    open-from verbs.Small given c all.low all.high
    (rw (
      m.apart,
      demand.expect_never,
      demand.expect_same,
      demand.never_same,
      run.run_or_turns,
      run.by_or_turns,
    ) refl)
    (rw (
      all.cores_value,
      all.limit_value,
      all.words_value,
      run.policy,
      run.number,
      run.turns_value,
      lifted-named given c w all.fewer Expect refl demand.expect_value,
      lifted-named given c w all.fewer Never refl demand.never_value,
    ) refl)

some-name : {B : Type 0} (f : RunName → B) (o : Option RunName) (b : B) → option_map f o ≡ Some b
    → (name : RunName) × (o ≡ Some name)
some-name f None b h = absurd (cc)
some-name f (Some name) b h = (name, refl)

-- options that name a machine and one run, of the verbs that ask for no more
run-open : (given : List Given) (setup : Setup) (name : RunName) → setup_of given ≡ Some setup
    → run_name_of given ≡ Some name → is_open verbs.Words given ≡ true
unfolding run_name_of
run-open given setup name s r =
    let m = machine-of given setup s in
    let all = suits-all given setup m in
    let run = run-is setup.params.cores (most_words given) (text_of Run given) (text_of By given) (text_of Turns given)
    name r in
    open-from verbs.Words given setup.params.cores all.low all.high
    (rw (m.apart, run.run_or_turns, run.by_or_turns) refl)
    (rw (
      all.cores_value,
      all.limit_value,
      all.words_value,
      run.policy,
      run.number,
      run.turns_value,
    ) refl)

words-open : (given : List Given) (hunt : Hunt) → hunt_of verbs.Words given ≡ Some hunt
    → is_open verbs.Words given ≡ true
unfolding hunt_of
words-open given hunt h =
    let s = bind-some (setup_of given) (λ setup. asked_by verbs.Words setup given) hunt h in
    let r = some-name _ (run_name_of given) hunt s.2 in
    run-open given s.0 r.0 s.1 r.1

record-open : (given : List Given) (hunt : Hunt) → hunt_of verbs.Record given ≡ Some hunt
    → is_open verbs.Record given ≡ true
unfolding hunt_of
record-open given hunt h =
    let s = bind-some (setup_of given) (λ setup. asked_by verbs.Record setup given) hunt h in
    let r = some-name _ (run_name_of given) hunt s.2 in
    run-open given s.0 r.0 s.1 r.1

pub hunt-open : (verb : Verb) (given : List Given) (hunt : Hunt) → hunt_of verb given ≡ Some hunt
    → is_open verb given ≡ true
hunt-open verbs.First = first-open
hunt-open verbs.Table = table-open
hunt-open verbs.Small = small-open
hunt-open verbs.Words = words-open
hunt-open verbs.Record = record-open
