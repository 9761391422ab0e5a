-- Words whose options are open go on to a hunt.
use Rattle.std.proofs.Common.{◌≡◌, ℕ, ◌*◌, ◌≤◌, Bool, true, false, cond, not, ◌&&◌, ◌||◌, List, [], ◌∷◌, ◌++◌, Option}
use Rattle.std.proofs.Common.{Some, None, arith, refl, sym, ◌∙◌, ap, is_some, append_assoc}
use Rattle.std.specs.Prelude.{codes, decimal, find}
use Rattle.std.specs.Option.{option_or}
use Rattle.std.specs.Str.{bytes_eq}
use Rattle.std.proofs.lemmas.Bool.{and_from, and_parts, eq-eqb, false_from_ne_true, le-leb, lt-ltb}
use Rattle.std.proofs.lemmas.Bool.{not-true, true≢false}
use Rattle.std.proofs.lemmas.Slice.Eq.{bytes_eq-Decides}
use Rattle.std.proofs.lemmas.List.{append-nil}
use Rattle.rtr_types.specs.declared.TheConstants.{CORES_MAX}
use Rattle.rtr_types.specs.declared.params.TheConstants.{INSTRUCTIONS_MAX, WORDS_MAX}
use Rattle.tool_words.specs.Numerals.{number_between}
use Rattle.end_claims.specs.Reading.{alternative_of, atom_of, claim_of, ending_of, places_of, sides_of}
use Rattle.end_claims.specs.Reading.{ended_place, places_part, register_place, value_place, word_place}
use Rattle.end_claims.specs.Named.{each_once}
use Rattle.end_claims.specs.Numbers.{behind}
use Rattle.hunt_words.specs.declared.faults.Missing.{Missing}
use Rattle.hunt_words.specs.declared.faults.Missing.TheVariants as lacking
use Rattle.hunt_words.specs.declared.hunt.Hunt.{Hunt}
use Rattle.hunt_words.specs.declared.names.Name.{Name}
use Rattle.hunt_words.specs.declared.names.Name.TheVariants.{Cores, Limit, Words, By, Runs, Threads, Run, Turns, Expect}
use Rattle.hunt_words.specs.declared.names.Name.TheVariants.{Never, Same, See, Elf, Tso, Plain}
use Rattle.hunt_words.specs.declared.verbs.Verb.{Verb}
use Rattle.hunt_words.specs.declared.verbs.Verb.TheVariants as verbs
use Rattle.hunt_words.specs.Given.{Given, alone, are_each_once, flag, given_in, has_option, prepend, valued}
use Rattle.tool_words.specs.Reading.{is_equals}
use Rattle.tool_words.specs.Stops.{joined_value}
use Rattle.std.specs.List.{before_first}
use Rattle.std.proofs.Math.Bool.{or-true}
use Rattle.hunt_words.specs.Meaning.{hunt_by}
use Rattle.hunt_words.specs.Names.{word_of}
use Rattle.hunt_words.specs.Open.{are_both, demanding_pairs, has, has_machine, is_open, is_value, is_value_or, lacks}
use Rattle.hunt_words.specs.Open.{lacks_run, most_words, odd_pair, one, pairs, run_pairs, suits, text_of, valued_of}
use Rattle.hunt_words.specs.Stops.{GoesOn, IsCut}
use Rattle.hunt_words.specs.TurnTexts.{turns_named}
use Rattle.hunt_words.specs.Values.{policy_named, range_named}
use Rattle.hunt_words.specs.Verbs.{is_flag, takes_value}
use Rattle.hunt_words.proofs.GivenCuts.{given-append, prepended}
use Rattle.hunt_words.proofs.GivenTexts.{has-front, has-last, once-more, text_at-append}
use Rattle.hunt_words.proofs.HuntsMade.{cores-named, hunt-made, no-first, run-named, words-named}
use Rattle.hunt_words.proofs.NumberLines.{between-decimal}
use Rattle.hunt_words.proofs.OptionLists.{all-mono, range-passes}
use Rattle.hunt_words.proofs.OptionNames.{same-option}
use Rattle.hunt_words.proofs.SuitedMachines.{words-by}

-- ---- a value for each option

abbrev filler : (cores : ℕ) → Name → List ℕ
filler cores Cores = decimal cores
filler cores Limit = codes "1"
filler cores Words = codes "262144"
filler cores By = codes "all"
filler cores Runs = codes "0..0"
filler cores Threads = codes "1"
filler cores Run = codes "0"
filler cores Turns = codes "-"
filler cores Expect = codes "all:exit"
filler cores Never = codes "all:exit"
filler cores Same = codes "0:stop"
filler cores See = codes "0:stop"
filler cores flag = []

filler-value : (cores words : ℕ) (name : Name) → 1 ≤ cores → cores ≤ CORES_MAX → (name ≡ Words → words ≡ WORDS_MAX)
    → is_value cores words name (filler cores name) ≡ true
unfolding claim_of alternative_of atom_of sides_of ending_of places_of places_part value_place word_place register_place
    ended_place each_once behind turns_named policy_named range_named number_between
filler-value cores words Cores low high is =
    rw (between-decimal 1 CORES_MAX cores low high (omega (arith, high))) (eq-eqb cores cores refl)
filler-value cores words Limit low high is = le-leb (cores * 1) INSTRUCTIONS_MAX (omega (arith, high))
filler-value cores words Words low high is = eq-eqb 262144 words (sym (is refl))
filler-value cores words By low high is = refl
filler-value cores words Runs low high is = refl
filler-value cores words Threads low high is = refl
filler-value cores words Run low high is = refl
filler-value cores words Turns low high is = refl
filler-value cores words Expect low high is = refl
filler-value cores words Never low high is = refl
filler-value cores words Same low high is = and_from _ _ (lt-ltb 0 cores (omega (arith, low))) refl
filler-value cores words See low high is = and_from _ _ (lt-ltb 0 cores (omega (arith, low))) refl
filler-value cores words Elf low high is = refl
filler-value cores words Tso low high is = refl
filler-value cores words Plain low high is = refl

-- ---- one option more

-- the text of an option that has joined others
abbrev joined : (name : Name) (text : List ℕ) → Name → Option (List ℕ) → Option (List ℕ)
joined name text other o = option_or o (cond (bytes_eq (word_of name) (word_of other)) (Some text) None)

text-more : (given : List Given) (name : Name) (text : List ℕ) (other : Name)
    → text_of other (given ++ one name text ∷ []) ≡ joined name text other (text_of other given)
text-more given name text other = text_at-append (word_of other) given (one name text ∷ [])

words-more : (given : List Given) (name : Name) (cores : ℕ) → has name given ≡ false
    → most_words (given ++ one name (filler cores name) ∷ []) ≡ most_words given
unfolding number_between
words-more given name cores new =
    ap words-by (text-more given name (filler cores name) Words)
    ∙ by (text_of Words given) (bytes_eq (word_of name) (word_of Words)) refl refl
  where
    by : (o : Option (List ℕ)) (b : Bool) → text_of Words given ≡ o → bytes_eq (word_of name) (word_of Words) ≡ b
        → words-by (option_or o (cond b (Some (filler cores name)) None)) ≡ words-by o
    by (Some text) b is same = refl
    by None false is same = refl
    by None true is same = rw (same-option name Words same) (filled)
      where
        filled : words-by (Some (filler cores Words)) ≡ WORDS_MAX
        filled = refl

more-suits : (verb : Verb) (given : List Given) (cores : ℕ) (name : Name) → 1 ≤ cores → cores ≤ CORES_MAX
    → has name given ≡ false → suits verb given cores ≡ true
    → suits verb (given ++ one name (filler cores name) ∷ []) cores ≡ true
more-suits verb given cores name low high new h =
    all-mono (λ other. is_value_or cores (most_words given) other (text_of other given))
    (λ other. is_value_or cores (most_words longer) other (text_of other longer)) each (valued_of verb) h
  where
    longer : List Given
    longer = given ++ one name (filler cores name) ∷ []

    fits : (name ≡ Words) → most_words given ≡ WORDS_MAX
    fits is = by (text_of Words given) (rw (is) at new)
      where
        by : (o : Option (List ℕ)) → is_some o ≡ false → words-by o ≡ WORDS_MAX
        by None h = refl
        by (Some t) h = absurd (cc)

    each : (other : Name) → is_value_or cores (most_words given) other (text_of other given) ≡ true
        → is_value_or cores (most_words longer) other (text_of other longer) ≡ true
    each other k =
        rw (words-more given name cores new, text-more given name (filler cores name) other)
        (by (text_of other given) (bytes_eq (word_of name) (word_of other)) refl k)
      where
        by : (o : Option (List ℕ)) (b : Bool) → bytes_eq (word_of name) (word_of other) ≡ b
            → is_value_or cores (most_words given) other o ≡ true
            → is_value_or cores (most_words given) other (option_or o (cond b (Some (filler cores name)) None)) ≡ true
        by (Some text) b same k = k
        by None false same k = refl
        by None true same k =
            rw (← same-option name other same) (filler-value cores (most_words given) name low high fits)

-- ---- pairs

find-same : {A : Type 0} (p q : A → Bool) → ((a : A) → p a ≡ q a) → (xs : List A) → find p xs ≡ find q xs
find-same p q each [] = refl
find-same p q each (x ∷ xs) = rw (each x, find-same p q each xs) refl

-- whether an option is given doesn't depend on its text
has-text : (given : List Given) (name other : Name) (a b : List ℕ)
    → has other (given ++ one name a ∷ []) ≡ has other (given ++ one name b ∷ [])
has-text given name other a b =
    ap is_some (text-more given name a other) ∙ by (text_of other given) (bytes_eq (word_of name) (word_of other))
    ∙ ap is_some (sym (text-more given name b other))
  where
    by : (o : Option (List ℕ)) (same : Bool) → is_some (option_or o (cond same (Some a) None))
        ≡ is_some (option_or o (cond same (Some b) None))
    by (Some t) same = refl
    by None true = refl
    by None false = refl

pub pair-text : (verb : Verb) (given : List Given) (name : Name) (a b : List ℕ)
    → odd_pair verb (given ++ one name a ∷ []) ≡ odd_pair verb (given ++ one name b ∷ [])
pair-text verb given name a b =
    find-same (are_both (given ++ one name a ∷ [])) (are_both (given ++ one name b ∷ []))
    (λ pair. rw (has-text given name pair.0 a b, has-text given name pair.1 a b) refl) (pairs verb)

has-other : (given : List Given) (name other : Name) (text : List ℕ) → bytes_eq (word_of name) (word_of other) ≡ false
    → has other (given ++ one name text ∷ []) ≡ has other given
has-other given name other text apart =
    ap is_some (text-more given name text other) ∙ rw apart (by (text_of other given))
  where
    by : (o : Option (List ℕ)) → is_some (option_or o None) ≡ is_some o
    by (Some t) = refl
    by None = refl

-- the option is in none of the pairs
abbrev stands-apart : Name → List (Name × Name) → Bool
stands-apart name [] = true
stands-apart name (pair ∷ rest) =
    not (bytes_eq (word_of name) (word_of pair.0)) && not (bytes_eq (word_of name) (word_of pair.1))
    && stands-apart name rest

apart-more : (given : List Given) (name : Name) (text : List ℕ) (xs : List (Name × Name)) → stands-apart name xs ≡ true
    → find (are_both (given ++ one name text ∷ [])) xs ≡ find (are_both given) xs
apart-more given name text [] h = refl
apart-more given name text (pair ∷ rest) h =
    let a = and_parts
    (not (bytes_eq (word_of name) (word_of pair.0)) && not (bytes_eq (word_of name) (word_of pair.1)))
    (stands-apart name rest) h in
    let b = and_parts (not (bytes_eq (word_of name) (word_of pair.0)))
    (not (bytes_eq (word_of name) (word_of pair.1))) a.0 in
    rw (
      has-other given name pair.0 text (not-true _ b.0),
      has-other given name pair.1 text (not-true _ b.1),
      apart-more given name text rest a.1,
    ) refl

-- ---- words that are options, on a machine that suits

record Whole (verb : Verb) (words : List (List ℕ)) (given : List Given) (cores : ℕ) : Type 0 where
  gives : given_in verb words ≡ Some given
  once : are_each_once given ≡ true
  apart : is_some (odd_pair verb given) ≡ false
  suited : suits verb given cores ≡ true
  low : 1 ≤ cores
  high : cores ≤ CORES_MAX

-- a name and a value that follow
record Pairs (verb : Verb) (name : Name) : Type 0 where
  alone_none : alone verb (word_of name) ≡ None
  takes : takes_value verb (word_of name) ≡ true

added : (verb : Verb) (words : List (List ℕ)) (given : List Given) (cores : ℕ) (name : Name)
    → Whole verb words given cores → Pairs verb name → has name given ≡ false
    → is_some (odd_pair verb (given ++ one name (filler cores name) ∷ [])) ≡ false
    → Whole verb (words ++ word_of name ∷ filler cores name ∷ []) (given ++ one name (filler cores name) ∷ []) cores
unfolding given_in
added verb words given cores name w p new apart = record {
  gives =
      given-append verb words (word_of name ∷ filler cores name ∷ []) given w.gives
      ∙ rw (p.alone_none, p.takes) refl;
  once = once-more (word_of name) (filler cores name) given w.once new;
  apart = apart;
  suited = more-suits verb given cores name w.low w.high new w.suited;
  low = w.low;
  high = w.high;
}

-- words that go on to options with these
record Grown (verb : Verb) (words : List (List ℕ)) (given : List Given) (cores : ℕ) (name : Name) : Type 0 where
  more : List (List ℕ)
  longer : List Given
  whole : Whole verb (words ++ more) longer cores
  has_it : has name longer ≡ true
  keeps : (other : Name) → has other given ≡ true → has other longer ≡ true

grown : (verb : Verb) (words : List (List ℕ)) (given : List Given) (cores : ℕ) (name : Name)
    → Whole verb words given cores → Pairs verb name
    → (has name given ≡ false → is_some (odd_pair verb (given ++ one name (filler cores name) ∷ [])) ≡ false)
    → Grown verb words given cores name
grown verb words given cores name w p apart = by (has name given) refl
  where
    by : (b : Bool) → has name given ≡ b → Grown verb words given cores name
    by true is = record {
      more = [];
      longer = given;
      whole = rw (append-nil words) w;
      has_it = is;
      keeps = λ other h. h;
    }
    by false is = record {
      more = word_of name ∷ filler cores name ∷ [];
      longer = given ++ one name (filler cores name) ∷ [];
      whole = added verb words given cores name w p is (apart is);
      has_it = has-last (word_of name) (filler cores name) given [];
      keeps = λ other h. has-front (word_of other) given (one name (filler cores name) ∷ []) h;
    }

pair : {verb : Verb} {name : Name} → alone verb (word_of name) ≡ None → takes_value verb (word_of name) ≡ true
    → Pairs verb name
pair none takes = record { alone_none = none; takes = takes }

-- the cores and the words of the machine have values and are at odds with nothing
machine-pairs : (verb : Verb) → Pairs verb Cores × Pairs verb Words × (stands-apart Cores (pairs verb) ≡ true)
    × (stands-apart Words (pairs verb) ≡ true)
machine-pairs verbs.First = (pair refl refl, pair refl refl, refl, refl)
machine-pairs verbs.Table = (pair refl refl, pair refl refl, refl, refl)
machine-pairs verbs.Small = (pair refl refl, pair refl refl, refl, refl)
machine-pairs verbs.Words = (pair refl refl, pair refl refl, refl, refl)
machine-pairs verbs.Record = (pair refl refl, pair refl refl, refl, refl)

-- an option in no pair
free : (verb : Verb) (given : List Given) (name : Name) (text : List ℕ) → stands-apart name (pairs verb) ≡ true
    → is_some (odd_pair verb given) ≡ false → is_some (odd_pair verb (given ++ one name text ∷ [])) ≡ false
free verb given name text h apart = ap is_some (apart-more given name text (pairs verb) h) ∙ apart

-- with the machine given
record Based (verb : Verb) (words : List (List ℕ)) (given : List Given) (cores : ℕ) : Type 0 where
  more : List (List ℕ)
  longer : List Given
  whole : Whole verb (words ++ more) longer cores
  has_cores : has Cores longer ≡ true
  has_words : has Words longer ≡ true

based : (verb : Verb) (words : List (List ℕ)) (given : List Given) (cores : ℕ) → Whole verb words given cores
    → Based verb words given cores
based verb words given cores w =
    let p = machine-pairs verb in
    let c = grown verb words given cores Cores w p.0
    (λ _. free verb given Cores (filler cores Cores) p.2 w.apart) in
    let m = grown verb (words ++ c.more) c.longer cores Words c.whole p.1
    (λ _. free verb c.longer Words (filler cores Words) p.3 c.whole.apart) in
    record {
      more = c.more ++ m.more;
      longer = m.longer;
      whole = rw (sym (append_assoc words c.more m.more)) m.whole;
      has_cores = m.keeps Cores c.has_it;
      has_words = m.has_it;
    }

-- ---- all that a verb needs

ended : (verb : Verb) (words : List (List ℕ)) (given : List Given) (cores : ℕ) → Whole verb words given cores
    → has Cores given ≡ true → has Words given ≡ true → lacks verb given ≡ None
    → (hunt : Hunt) × (hunt_by verb words ≡ Some hunt)
unfolding hunt_by
ended verb words given cores w c m whole =
    let hunt = hunt-made verb given cores w.low w.high (cores-named verb given cores w.suited c)
    (words-named verb given cores w.suited m) w.apart w.suited whole in
    (hunt.0, rw (w.gives, w.once, hunt.1) refl)

-- ---- options that aren't a verb's

either-way : (verb : Verb) (one : Given) (name : List ℕ) → takes_value verb name ≡ false → is_flag verb name ≡ false
    → (takes_value verb one.name || is_flag verb one.name) ≡ true → bytes_eq one.name name ≡ false
either-way verb one name t f h = false_from_ne_true (bytes_eq one.name name) (λ same.
    clash one.name name ((bytes_eq-Decides one.name name).0 same) h t f)
  where
    clash : (a b : List ℕ) → a ≡ b → (takes_value verb a || is_flag verb a) ≡ true → takes_value verb b ≡ false
        → is_flag verb b ≡ false → ⊥
    clash a b same h t f =
        let no : (takes_value verb b || is_flag verb b) ≡ false = rw (t, f) refl in
        true≢false (sym (rw (← same) h) ∙ no)

valued-taken : (verb : Verb) (name text : List ℕ) (one : Given) → valued verb name text ≡ Some one
    → (takes_value verb one.name || is_flag verb one.name) ≡ true
valued-taken verb name text one h = by (takes_value verb name) refl h
  where
    by : (b : Bool) → takes_value verb name ≡ b → cond b (Some (record { name = name; text = text })) None ≡ Some one
        → (takes_value verb one.name || is_flag verb one.name) ≡ true
    by true is k = let same : name ≡ one.name = cc in rw (← same, is) refl
    by false is k = absurd (cc)

flag-taken : (verb : Verb) (name : List ℕ) (one : Given) → flag verb name ≡ Some one
    → (takes_value verb one.name || is_flag verb one.name) ≡ true
flag-taken verb name one h = by (is_flag verb name) refl h
  where
    by : (b : Bool) → is_flag verb name ≡ b → cond b (Some (record { name = name; text = [] })) None ≡ Some one
        → (takes_value verb one.name || is_flag verb one.name) ≡ true
    by true is k = let same : name ≡ one.name = cc in rw (← same, is) (or-true (takes_value verb name))
    by false is k = absurd (cc)

alone-taken : (verb : Verb) (word : List ℕ) (one : Given) → alone verb word ≡ Some one
    → (takes_value verb one.name || is_flag verb one.name) ≡ true
alone-taken verb word one h = by (joined_value word) h
  where
    by : (o : Option (List ℕ)) → elim o as (λ _. Option Given) [
      | Some text ↦ valued verb (before_first is_equals word) text
      | None ↦ flag verb (before_first is_equals word)
    ] ≡ Some one → (takes_value verb one.name || is_flag verb one.name) ≡ true
    by (Some text) k = valued-taken verb (before_first is_equals word) text one k
    by None k = flag-taken verb (before_first is_equals word) one k

not-here : (verb : Verb) (one : Given) (given : List Given) (name : List ℕ) → takes_value verb name ≡ false
    → is_flag verb name ≡ false → (takes_value verb one.name || is_flag verb one.name) ≡ true
    → has_option name given ≡ false → has_option name (one ∷ given) ≡ false
not-here verb one given name t f taken rest = rw (either-way verb one name t f taken) rest

not-given : (verb : Verb) (name : List ℕ) (words : List (List ℕ)) (given : List Given) → takes_value verb name ≡ false
    → is_flag verb name ≡ false → given_in verb words ≡ Some given → has_option name given ≡ false
unfolding given_in
not-given verb name [] given t f h = let none : [] ≡ given = cc in rw (← none) refl
not-given verb name (word ∷ []) given t f h =
    let p = prepended (alone verb word) (Some []) given h in
    let none : [] ≡ p.1 = cc in
    rw (← p.4, ← none) (not-here verb p.0 [] name t f (alone-taken verb word p.0 p.2) refl)
not-given verb name (word ∷ next ∷ rest) given t f h =
    by (λ g. not-given verb name rest g t f) (λ g. not-given verb name (next ∷ rest) g t f) (alone verb word) refl h
  where
    by : ((g : List Given) → given_in verb rest ≡ Some g → has_option name g ≡ false)
        → ((g : List Given) → given_in verb (next ∷ rest) ≡ Some g → has_option name g ≡ false) → (o : Option Given)
        → alone verb word ≡ o
        → cond (is_some o) (prepend o (given_in verb (next ∷ rest)))
        (prepend (valued verb word next) (given_in verb rest)) ≡ Some given → has_option name given ≡ false
    by two one-more None is k =
        let p = prepended (valued verb word next) (given_in verb rest) given k in
        rw (← p.4) (not-here verb p.0 p.1 name t f (valued-taken verb word next p.0 p.2)
        (two p.1 p.3))
    by two one-more (Some o) is k =
        let p = prepended (Some o) (given_in verb (next ∷ rest)) given k in
        rw (← p.4) (not-here verb p.0 p.1 name t f (alone-taken verb word p.0 (is ∙ p.2))
        (one-more p.1 p.3))

-- ---- pairs of which none is given

none-cons : {A : Type 0} (p : A → Bool) (x : A) (xs : List A) → p x ≡ false → is_some (find p xs) ≡ false
    → is_some (find p (x ∷ xs)) ≡ false
none-cons p x xs h k = rw h k

none-append : {A : Type 0} (p : A → Bool) (xs ys : List A) → is_some (find p xs) ≡ false → is_some (find p ys) ≡ false
    → is_some (find p (xs ++ ys)) ≡ false
none-append p [] ys h k = k
none-append p (x ∷ xs) ys h k =
    let n = no-first p x xs h in
    rw n.0 (none-append p xs ys n.1 k)

none-parts : {A : Type 0} (p : A → Bool) (xs ys : List A) → is_some (find p (xs ++ ys)) ≡ false
    → (is_some (find p xs) ≡ false) × (is_some (find p ys) ≡ false)
none-parts p [] ys h = (refl, h)
none-parts p (x ∷ xs) ys h =
    let n = no-first p x (xs ++ ys) h in
    let parts = none-parts p xs ys n.1 in
    (rw n.0 parts.0, parts.1)

and-false : (a b : Bool) → b ≡ false → (a && b) ≡ false
and-false true b h = h
and-false false b h = refl

front-false : (a b : Bool) → a ≡ false → (a && b) ≡ false
front-false true b h = absurd (cc)
front-false false b h = refl

abbrev demanding : List (Name × Name)
demanding = (Elf, Tso) ∷ (Expect, Never) ∷ (Expect, Same) ∷ (Never, Same) ∷ []

-- a claim where nothing is demanded
expect-apart : (given : List Given) (text : List ℕ) → is_some (find (are_both given) demanding) ≡ false
    → has Never given ≡ false → has Same given ≡ false
    → is_some (find (are_both (given ++ one Expect text ∷ [])) demanding) ≡ false
expect-apart given text apart never same =
    let P : Name × Name → Bool = are_both (given ++ one Expect text ∷ []) in
    let n = has-other given Expect Never text refl in
    let s = has-other given Expect Same text refl in
    let flags = no-first (are_both given) (Elf, Tso) demanding_pairs apart in
    none-cons P (Elf, Tso) demanding_pairs
    (rw (has-other given Expect Elf text refl, has-other given Expect Tso text refl) flags.0)
    (none-cons P (Expect, Never) ((Expect, Same) ∷ (Never, Same) ∷ []) (and-false _ _ (n ∙ never))
    (none-cons P (Expect, Same) ((Never, Same) ∷ []) (and-false _ _ (s ∙ same))
    (none-cons P (Never, Same) [] (front-false _ _ (n ∙ never)) refl)))

-- a run where none is named
run-apart : (given : List Given) (text : List ℕ) → has Turns given ≡ false
    → is_some (find (are_both (given ++ one Run text ∷ [])) run_pairs) ≡ false
run-apart given text turns =
    let P : Name × Name → Bool = are_both (given ++ one Run text ∷ []) in
    let t = has-other given Run Turns text refl in
    none-cons P (Run, Turns) ((By, Turns) ∷ []) (and-false _ _ (t ∙ turns))
    (none-cons P (By, Turns) [] (and-false _ _ (t ∙ turns)) refl)

or-parts : (a b : Bool) → (a || b) ≡ false → (a ≡ false) × (b ≡ false)
or-parts true b h = absurd (cc)
or-parts false b h = (refl, h)

-- ---- all that a verb needs

record Filled (verb : Verb) (words : List (List ℕ)) (given : List Given) (cores : ℕ) : Type 0 where
  more : List (List ℕ)
  longer : List Given
  whole : Whole verb (words ++ more) longer cores
  lacks_none : lacks verb longer ≡ None
  keeps : (other : Name) → has other given ≡ true → has other longer ≡ true

-- with an option that a verb needs
filled-by : (verb : Verb) (words : List (List ℕ)) (given : List Given) (cores : ℕ) (name : Name)
    → (g : Grown verb words given cores name) → lacks verb g.longer ≡ None → Filled verb words given cores
filled-by verb words given cores name g h = record {
  more = g.more;
  longer = g.longer;
  whole = g.whole;
  lacks_none = h;
  keeps = g.keeps;
}

filled-already : (verb : Verb) (words : List (List ℕ)) (given : List Given) (cores : ℕ) → Whole verb words given cores
    → lacks verb given ≡ None → Filled verb words given cores
filled-already verb words given cores w h = record {
  more = [];
  longer = given;
  whole = rw (append-nil words) w;
  lacks_none = h;
  keeps = λ other k. k;
}

first-filled : (words : List (List ℕ)) (given : List Given) (cores : ℕ) → Whole verbs.First words given cores
    → Filled verbs.First words given cores
first-filled words given cores w = by (has Expect given || has Never given || has Same given) refl
  where
    by : (b : Bool) → (has Expect given || has Never given || has Same given) ≡ b → Filled verbs.First words given cores
    by true is = filled-already verbs.First words given cores w (rw is refl)
    by false is =
        let e = or-parts (has Expect given || has Never given) (has Same given) is in
        let n = or-parts (has Expect given) (has Never given) e.0 in
        let g = grown verbs.First words given cores Expect w (pair refl refl)
        (λ _. expect-apart given (filler cores Expect) w.apart n.1 e.1) in
        filled-by verbs.First words given cores Expect g (rw g.has_it refl)

table-filled : (words : List (List ℕ)) (given : List Given) (cores : ℕ) → Whole verbs.Table words given cores
    → Filled verbs.Table words given cores
table-filled words given cores w =
    let g = grown verbs.Table words given cores See w (pair refl refl)
    (λ _. free verbs.Table given See (filler cores See) refl w.apart) in
    filled-by verbs.Table words given cores See g
    (rw (seen (has Expect g.longer) (has Never g.longer) (has See g.longer) g.has_it) refl)
  where
    seen : (a b c : Bool) → c ≡ true → (a || b || c) ≡ true
    seen true b c h = refl
    seen false true c h = refl
    seen false false c h = h

-- the run
record RunGiven (verb : Verb) (words : List (List ℕ)) (given : List Given) (cores : ℕ) : Type 0 where
  more : List (List ℕ)
  longer : List Given
  whole : Whole verb (words ++ more) longer cores
  named : lacks_run longer ≡ None
  keeps : (other : Name) → has other given ≡ true → has other longer ≡ true

run-given : (verb : Verb) (words : List (List ℕ)) (given : List Given) (cores : ℕ) → Whole verb words given cores
    → Pairs verb Run
    → (has Turns given ≡ false → is_some (odd_pair verb (given ++ one Run (filler cores Run) ∷ [])) ≡ false)
    → RunGiven verb words given cores
run-given verb words given cores w p apart = by (has Run given || has Turns given) refl
  where
    by : (b : Bool) → (has Run given || has Turns given) ≡ b → RunGiven verb words given cores
    by true is = record {
      more = [];
      longer = given;
      whole = rw (append-nil words) w;
      named = rw is refl;
      keeps = λ other k. k;
    }
    by false is =
        let r = or-parts (has Run given) (has Turns given) is in
        let g = grown verb words given cores Run w p (λ _. apart r.1) in
        record {
          more = g.more;
          longer = g.longer;
          whole = g.whole;
          named = rw g.has_it refl;
          keeps = g.keeps;
        }

run-filled : (verb : Verb) (words : List (List ℕ)) (given : List Given) (cores : ℕ) → RunGiven verb words given cores
    → ((g : List Given) → lacks_run g ≡ None → lacks verb g ≡ None) → Filled verb words given cores
run-filled verb words given cores r same = record {
  more = r.more;
  longer = r.longer;
  whole = r.whole;
  lacks_none = same r.longer r.named;
  keeps = r.keeps;
}

words-run : (given : List Given) (text : List ℕ) → is_some (find (are_both given) ((Elf, Tso) ∷ run_pairs)) ≡ false
    → has Turns given ≡ false → is_some (find (are_both (given ++ one Run text ∷ [])) ((Elf, Tso) ∷ run_pairs)) ≡ false
words-run given text apart turns =
    let flags = no-first (are_both given) (Elf, Tso) run_pairs apart in
    none-cons (are_both (given ++ one Run text ∷ [])) (Elf, Tso) run_pairs
    (rw (has-other given Run Elf text refl, has-other given Run Tso text refl) flags.0) (run-apart given text turns)

words-filled : (words : List (List ℕ)) (given : List Given) (cores : ℕ) → Whole verbs.Words words given cores
    → Filled verbs.Words words given cores
words-filled words given cores w =
    run-filled verbs.Words words given cores
    (run-given verbs.Words words given cores w (pair refl refl)
    (λ turns. words-run given (filler cores Run) w.apart turns)) (λ g h. h)

record-filled : (words : List (List ℕ)) (given : List Given) (cores : ℕ) → Whole verbs.Record words given cores
    → Filled verbs.Record words given cores
record-filled words given cores w =
    run-filled verbs.Record words given cores
    (run-given verbs.Record words given cores w (pair refl refl)
    (λ turns. words-run given (filler cores Run) w.apart turns)) (λ g h. h)

small-whole : (given : List Given) → lacks_run given ≡ None → (has Expect given || has Never given) ≡ true
    → lacks verbs.Small given ≡ None
small-whole given n e = by (lacks_run given) (has Expect given || has Never given) n e
  where
    by : (o : Option Missing) (b : Bool) → o ≡ None → b ≡ true
        → elim o as (λ _. Option Missing) [ Some missing ↦ Some missing | None ↦ cond b None (Some lacking.Demand) ]
        ≡ None
    by (Some m) b n e = absurd (cc)
    by None true n e = refl
    by None false n e = absurd (cc)

small-filled : (words : List (List ℕ)) (given : List Given) (cores : ℕ) → Whole verbs.Small words given cores
    → Filled verbs.Small words given cores
small-filled words given cores w =
    let r = run-given verbs.Small words given cores w (pair refl refl)
    (λ turns. let parts = none-parts (are_both given) demanding run_pairs w.apart in
    none-append (are_both (given ++ one Run (filler cores Run) ∷ [])) demanding run_pairs
    (ap is_some (apart-more given Run (filler cores Run) demanding refl) ∙ parts.0)
    (run-apart given (filler cores Run) turns)) in
    by r (has Expect r.longer || has Never r.longer) refl
  where
    by : (r : RunGiven verbs.Small words given cores) (b : Bool) → (has Expect r.longer || has Never r.longer) ≡ b
        → Filled verbs.Small words given cores
    by r true is = record {
      more = r.more;
      longer = r.longer;
      whole = r.whole;
      lacks_none = small-whole r.longer r.named is;
      keeps = r.keeps;
    }
    by r false is =
        let e = or-parts (has Expect r.longer) (has Never r.longer) is in
        let same : has Same r.longer ≡ false =
        not-given verbs.Small (codes "--same") (words ++ r.more) r.longer refl refl r.whole.gives in
        let parts = none-parts (are_both r.longer) demanding run_pairs r.whole.apart in
        let g = grown verbs.Small (words ++ r.more) r.longer cores Expect r.whole
        (pair refl refl)
        (λ _. none-append (are_both (r.longer ++ one Expect (filler cores Expect) ∷ [])) demanding run_pairs
        (expect-apart r.longer (filler cores Expect) parts.0 e.1 same)
        (ap is_some (apart-more r.longer Expect (filler cores Expect) run_pairs refl) ∙ parts.1)) in
        record {
          more = r.more ++ g.more;
          longer = g.longer;
          whole = rw (sym (append_assoc words r.more g.more)) g.whole;
          lacks_none = small-whole g.longer (still-named r.longer g.longer g.keeps r.named) (rw g.has_it refl);
          keeps = λ other k. g.keeps other (r.keeps other k);
        }
      where
        still-named : (a b : List Given) → ((other : Name) → has other a ≡ true → has other b ≡ true)
            → lacks_run a ≡ None
            → lacks_run b ≡ None
        still-named a b keeps h = from (has Run a) (has Turns a) refl refl (run-named a h)
          where
            from : (x y : Bool) → has Run a ≡ x → has Turns a ≡ y → (has Run a || has Turns a) ≡ true
                → lacks_run b ≡ None
            from true y r t k = rw (keeps Run r) refl
            from false true r t k = rw (keeps Turns t, or-true (has Run b)) refl
            from false false r t k = absurd (no (rw (r, t) at k))
              where
                no : (false || false) ≡ true → ⊥
                no h = cc

filled : (verb : Verb) (words : List (List ℕ)) (given : List Given) (cores : ℕ) → Whole verb words given cores
    → Filled verb words given cores
filled verbs.First = first-filled
filled verbs.Table = table-filled
filled verbs.Small = small-filled
filled verbs.Words = words-filled
filled verbs.Record = record-filled

whole-goes-on : (verb : Verb) (words : List (List ℕ)) (given : List Given) (cores : ℕ) → Whole verb words given cores
    → GoesOn verb words
whole-goes-on verb words given cores w =
    let b = based verb words given cores w in
    let f = filled verb (words ++ b.more) b.longer cores b.whole in
    let hunt = ended verb ((words ++ b.more) ++ f.more) f.longer cores f.whole (f.keeps Cores b.has_cores)
    (f.keeps Words b.has_words) f.lacks_none in
    (b.more ++ f.more, hunt.0, rw (← append_assoc words b.more f.more) hunt.1)

-- ---- what goes on

pub open-parts : (verb : Verb) (given : List Given) → is_open verb given ≡ true
    → (is_some (odd_pair verb given) ≡ false) × (has_machine verb given ≡ true)
open-parts verb given h =
    let both = and_parts (not (is_some (odd_pair verb given))) (has_machine verb given) h in
    (not-true (is_some (odd_pair verb given)) both.0, both.1)

whole-from : (verb : Verb) (words : List (List ℕ)) (given : List Given) → IsCut verb words given
    → (cores : ℕ) × Whole verb words given cores
whole-from verb words given c =
    let both = open-parts verb given c.may_go_on in
    let m = range-passes (suits verb given) 1 CORES_MAX both.1 in (
      m.0,
      record {
        gives = c.gives;
        once = c.once;
        apart = both.0;
        suited = m.3;
        low = m.1;
        high = omega (arith, m.2);
      },
    )

pub cut-goes-on : (verb : Verb) (words : List (List ℕ)) (given : List Given) → IsCut verb words given
    → GoesOn verb words
cut-goes-on verb words given c =
    let w = whole-from verb words given c in
    whole-goes-on verb words given w.0 w.1

-- and so does the name of an option more
pub name-goes-on : (verb : Verb) (words : List (List ℕ)) (given : List Given) (word : List ℕ) (name : Name)
    → IsCut verb words given → word ≡ word_of name → alone verb word ≡ None → takes_value verb word ≡ true
    → has name given ≡ false → is_some (odd_pair verb (given ++ one name [] ∷ [])) ≡ false
    → GoesOn verb (words ++ word ∷ [])
name-goes-on verb words given word name c is alone_none takes new apart =
    let w = whole-from verb words given c in
    let text : List ℕ = filler w.0 name in
    let longer = added verb words given w.0 name w.1 (pair (rw (← is) alone_none) (rw (← is) takes)) new
    (ap is_some (pair-text verb given name text []) ∙ apart) in
    let on = whole-goes-on verb (words ++ word_of name ∷ text ∷ []) (given ++ one name text ∷ []) w.0 longer in (
      text ∷ on.0,
      on.1,
      rw (is, append_assoc words (word_of name ∷ []) (text ∷ on.0))
          (rw (append_assoc words (word_of name ∷ text ∷ []) on.0) at on.2),
    )
