-- What the first words of some do after settings: they set an option, or they stop.
use Rattle.std.proofs.Common.{◌≡◌, ◌≤◌, ◌+◌, ◌-◌, ℕ, Bool, true, false, List, [], ◌∷◌, Option, Some, None, Result, Ok, Err, refl}
use Rattle.std.proofs.Common.{sym, ap, ◌∙◌, arith, cond, length, take, subst, not, nat_lt}
use Rattle.std.specs.List.{after_first, before_first}
use Rattle.std.proofs.lemmas.Bool.Decides.{nat_tests}
use Rattle.tool_words.specs.declared.command.Verb.{Verb}
use Rattle.tool_words.specs.declared.options.Name.{Name}
use Rattle.tool_words.specs.declared.faults.Why.{Why}
use Rattle.tool_words.specs.declared.faults.Why.TheVariants.{NotAnOption, Twice, FlagWithValue, OutOfRange, NoNumber}
use Rattle.tool_words.specs.declared.faults.Why.TheVariants.{NoSuchValue, TooMany, NoImage, NoValue, Lacks}
use Rattle.tool_words.specs.Settings.{Settings}
use Rattle.tool_words.specs.Numerals.{is_numeral}
use Rattle.tool_words.specs.Options.{is_set, option_of, put_new, takes_value}
use Rattle.tool_words.specs.Reading.{is_equals, settings}
use Rattle.tool_words.specs.Faults.{Explains, IsOpen, Refuses, has_value, option_in, range, refusal}
use Rattle.tool_words.specs.Stops.{Sets, Stops, is_at_end, joined_value, unset, value_of}
use Rattle.tool_words.proofs.OpenSettings.{put-in}
use Rattle.tool_words.proofs.WordCuts.{setting, sets-apart, sets-flag, sets-joined, sets-setting, whole-word}

-- a word is at fault, and not the end
is-word : (word : List ℕ) (following : List (List ℕ)) → not (nat_lt 0 (length (word ∷ following))) ≡ false
is-word word following = let below : nat_lt 0 (length (word ∷ following)) ≡ true = grind (arith, nat_tests) in rw below refl

-- ---- the name

-- the name is an option's, which isn't set
pub unset-ok : (verb : Verb) (s : Settings) (word : List ℕ) (name : Name) → unset verb s word ≡ Ok name →
    (option_of verb word ≡ Some name) × (is_set s name ≡ false)
unset-ok verb s word name h = by (option_of verb word) h
  where
    by : (o : Option Name) →
        (elim o as (λ _. Result Name Why) [ None ↦ Err NotAnOption | Some n ↦ cond (is_set s n) (Err (Twice n)) (Ok n) ])
        ≡ Ok name → (o ≡ Some name) × (is_set s name ≡ false)
    by None k = absurd (cc)
    by (Some n) k = by-test (is_set s n) refl k
      where
        by-test : (b : Bool) → is_set s n ≡ b → cond b (Err (Twice n)) (Ok n) ≡ Ok name →
            (Some n ≡ Some name) × (is_set s name ≡ false)
        by-test true is e = absurd (cc)
        by-test false is e = let same : n ≡ name = cc in (ap (λ m. Some m) same, rw (← same) is)

-- or the words stop at it
pub unset-err : (verb : Verb) (s : Settings) (word : List ℕ) (following : List (List ℕ)) (why : Why)
    → unset verb s (before_first is_equals word) ≡ Err why → Stops verb s (word ∷ following) 0 why
unset-err verb s word following why h = by (option_of verb (before_first is_equals word)) refl h
  where
    stops : (w : Why) → is_at_end w ≡ false → Explains verb s (word ∷ []) w → Stops verb s (word ∷ following) 0 w
    stops w inside told = record { within = omega arith; end = is-word word following ∙ sym inside; told = told }

    by : (o : Option Name) → option_of verb (before_first is_equals word) ≡ o →
        (elim o as (λ _. Result Name Why) [ None ↦ Err NotAnOption | Some n ↦ cond (is_set s n) (Err (Twice n)) (Ok n) ])
        ≡ Err why → Stops verb s (word ∷ following) 0 why
    by None is k =
        let same : NotAnOption ≡ why = cc in
        subst (λ (w : Why). Stops verb s (word ∷ following) 0 w) same (stops NotAnOption refl (word, refl, is))
    by (Some n) is k = by-test (is_set s n) refl k
      where
        by-test : (b : Bool) → is_set s n ≡ b → cond b (Err (Twice n)) (Ok n) ≡ Err why
            → Stops verb s (word ∷ following) 0 why
        by-test true set e =
            let same : Twice n ≡ why = cc in
            subst (λ (w : Why). Stops verb s (word ∷ following) 0 w) same (stops (Twice n) refl (word, refl, is, set))
        by-test false set e = absurd (cc)

-- ---- the value

-- the first words are this setting
pub record Offers (verb : Verb) (words : List (List ℕ)) (name : Name) (text : List ℕ) (used : ℕ) : Type 0 where
  pub some : 1 ≤ used
  pub within : used ≤ length words
  pub cut : settings verb (take used words) ≡ Some (setting name text ∷ [])

-- the value that a word and those that follow it give, by cases
of-value : (P : Result (List ℕ × ℕ) (ℕ × Why) → Type 0) (name : Name) (word : List ℕ) (following : List (List ℕ)) →
    (takes_value name ≡ true → has_value word ≡ true → P (Ok (after_first is_equals word, 1))) →
    (takes_value name ≡ true → has_value word ≡ false → following ≡ [] → P (Err (1, NoValue name))) →
    ((text : List ℕ) (rest : List (List ℕ)) → takes_value name ≡ true → has_value word ≡ false
    → following ≡ text ∷ rest → P (Ok (text, 2))) →
    (takes_value name ≡ false → has_value word ≡ false → P (Ok ([], 1))) →
    (takes_value name ≡ false → has_value word ≡ true → P (Err (0, FlagWithValue name))) →
    P (value_of name (joined_value word) following)
of-value P name word following joined lacking next flag wrong =
    by (takes_value name) (has_value word) following refl refl refl
  where
    by : (b c : Bool) (list : List (List ℕ)) → takes_value name ≡ b → has_value word ≡ c → following ≡ list →
        P (elim b as (λ _. Result (List ℕ × ℕ) (ℕ × Why)) [
          | true ↦ elim (cond c (Some (after_first is_equals word)) None) as (λ _. Result (List ℕ × ℕ) (ℕ × Why)) [
            | Some text ↦ Ok (text, 1)
            | None ↦ elim list as (λ _. Result (List ℕ × ℕ) (ℕ × Why)) [
              | [] ↦ Err (1, NoValue name)
              | text ∷ rest ↦ Ok (text, 2)
            ]
          ]
          | false ↦ elim (cond c (Some (after_first is_equals word)) None) as (λ _. Result (List ℕ × ℕ) (ℕ × Why)) [
            | None ↦ Ok ([], 1)
            | Some text ↦ Err (0, FlagWithValue name)
          ]
        ])
    by true true list takes has is = joined takes has
    by true false [] takes has is = lacking takes has is
    by true false (text ∷ rest) takes has is = next text rest takes has is
    by false false list takes has is = flag takes has
    by false true list takes has is = wrong takes has

-- where there is a value, the words that it takes are the setting
IfValue : Verb → (word : List ℕ) → (following : List (List ℕ)) → Name → Result (List ℕ × ℕ) (ℕ × Why) → Type 0
IfValue verb word following name (Ok value) = Offers verb (word ∷ following) name value.0 value.1
IfValue verb word following name (Err stop) = Unit {0}

if-value : (verb : Verb) (word : List ℕ) (following : List (List ℕ)) (name : Name) → option_in verb word ≡ Some name
    → IfValue verb word following name (value_of name (joined_value word) following)
unfolding IfValue
if-value verb word following name h =
    of-value (λ r. IfValue verb word following name r) name word following
    (λ takes has. record { some = omega arith; within = omega arith; cut = sets-joined verb word name h has takes })
    (λ takes has is. tt)
    (λ text rest takes has is. two text rest is (whole-word verb word (Some name) has h) takes)
    (λ takes has. record { some = omega arith; within = omega arith; cut = sets-flag verb word name h has takes })
    (λ takes has. tt)
  where
    two : (text : List ℕ) (rest : List (List ℕ)) → following ≡ text ∷ rest → option_of verb word ≡ Some name
        → takes_value name ≡ true → Offers verb (word ∷ following) name text 2
    two text rest is named takes =
        rw is (record { some = omega arith; within = omega arith; cut = sets-apart verb word text name named takes })

pub value-ok : (verb : Verb) (word : List ℕ) (following : List (List ℕ)) (name : Name) (text : List ℕ) (used : ℕ)
    → option_in verb word ≡ Some name → value_of name (joined_value word) following ≡ Ok (text, used)
    → Offers verb (word ∷ following) name text used
unfolding IfValue
value-ok verb word following name text used h is =
    subst (λ (r : Result (List ℕ × ℕ) (ℕ × Why)). IfValue verb word following name r) is
    (if-value verb word following name h)

-- where there is none, the words stop
IfStop : Verb → Settings → (words : List (List ℕ)) → Result (List ℕ × ℕ) (ℕ × Why) → Type 0
IfStop verb s words (Ok value) = Unit {0}
IfStop verb s words (Err stop) = Stops verb s words stop.0 stop.1

if-stop : (verb : Verb) (s : Settings) (word : List ℕ) (following : List (List ℕ)) (name : Name)
    → option_in verb word ≡ Some name → is_set s name ≡ false
    → IfStop verb s (word ∷ following) (value_of name (joined_value word) following)
unfolding IfStop
if-stop verb s word following name h unset =
    of-value (λ r. IfStop verb s (word ∷ following) r) name word following
    (λ takes has. tt)
    (λ takes has is. rw is (record {
      within = omega arith;
      end = refl;
      told = (word, refl, whole-word verb word (Some name) has h, takes, unset);
    }))
    (λ text rest takes has is. tt)
    (λ takes has. tt)
    (λ takes has. record { within = omega arith; end = is-word word following; told = (word, refl, h, takes, has) })

pub value-err : (verb : Verb) (s : Settings) (word : List ℕ) (following : List (List ℕ)) (name : Name) (place : ℕ)
    (why : Why) → option_in verb word ≡ Some name → is_set s name ≡ false
    → value_of name (joined_value word) following ≡ Err (place, why) → Stops verb s (word ∷ following) place why
unfolding IfStop
value-err verb s word following name place why h unset is =
    subst (λ (r : Result (List ℕ × ℕ) (ℕ × Why)). IfStop verb s (word ∷ following) r) is
    (if-stop verb s word following name h unset)

-- ---- the setting

pub setting-ok : (verb : Verb) (s t : Settings) (words : List (List ℕ)) (name : Name) (text : List ℕ) (used : ℕ)
    → is_set s name ≡ false → Offers verb words name text used → put_new s name text ≡ Some t → IsOpen t
    → Sets verb s words t used
setting-ok verb s t words name text used unset offers is is_open = record {
  some = offers.some;
  within = offers.within;
  set = sets-setting verb s t (take used words) (setting name text) offers.cut (put-in s t name text unset is);
  may_go_on = is_open;
}

-- the reasons why a text is no value
abbrev is_of_value : Why → Bool
is_of_value (OutOfRange name least most) = true
is_of_value (NoNumber name) = true
is_of_value (NoSuchValue name) = true
is_of_value why = false

refusal-is : (name : Name) (text : List ℕ) → is_of_value (refusal name text) ≡ true
refusal-is name text = by (range name)
  where
    by-test : (b : Bool) (r : ℕ × ℕ) → is_of_value (cond b (OutOfRange name r.0 r.1) (NoNumber name)) ≡ true
    by-test true r = refl
    by-test false r = refl

    by : (o : Option (ℕ × ℕ)) →
        is_of_value (elim o as (λ _. Why) [ None ↦ NoSuchValue name | Some r ↦ cond (is_numeral text) (OutOfRange name r.0 r.1) (NoNumber name) ])
        ≡ true
    by None = refl
    by (Some r) = by-test (is_numeral text) r

-- a setting that is refused
refused : (verb : Verb) (s : Settings) (words : List (List ℕ)) (name : Name) (text : List ℕ) (used : ℕ) (why : Why)
    → is_set s name ≡ false → settings verb (take used words) ≡ Some (setting name text ∷ [])
    → Refuses s name text why → Explains verb s (take used words) why × (is_at_end why ≡ false)
refused verb s words name text used TooMany unset cut against = ((setting name text, cut, unset, against), refl)
refused verb s words name text used NoImage unset cut against = ((setting name text, cut, unset, against), refl)
refused verb s words name text used (OutOfRange n least most) unset cut against = ((setting name text, cut, unset, against), refl)
refused verb s words name text used (NoNumber n) unset cut against = ((setting name text, cut, unset, against), refl)
refused verb s words name text used (NoSuchValue n) unset cut against = ((setting name text, cut, unset, against), refl)
refused verb s words name text used NotAnOption unset cut against =
    let is = refusal-is name text in let same = ap is_of_value against.1 in absurd (cc)
refused verb s words name text used (Twice n) unset cut against =
    let is = refusal-is name text in let same = ap is_of_value against.1 in absurd (cc)
refused verb s words name text used (FlagWithValue n) unset cut against =
    let is = refusal-is name text in let same = ap is_of_value against.1 in absurd (cc)
refused verb s words name text used (NoValue n) unset cut against =
    let is = refusal-is name text in let same = ap is_of_value against.1 in absurd (cc)
refused verb s words name text used (Lacks n) unset cut against =
    let is = refusal-is name text in let same = ap is_of_value against.1 in absurd (cc)

pub setting-err : (verb : Verb) (s : Settings) (words : List (List ℕ)) (name : Name) (text : List ℕ) (used : ℕ) (why : Why)
    → is_set s name ≡ false → Offers verb words name text used → Refuses s name text why
    → Stops verb s words (used - 1) why
setting-err verb s words name text used why unset offers against =
    let told = refused verb s words name text used why unset offers.cut against in
    let some = offers.some in
    let within = offers.within in
    let same : used - 1 + 1 ≡ used = omega arith in
    record {
      within = omega arith;
      end = let below : nat_lt (used - 1) (length words) ≡ true = grind (arith, nat_tests) in rw below (sym told.1);
      told = rw same told.0;
    }

-- ---- words that are known to begin so

named-so : (verb : Verb) (s : Settings) (text word option : List ℕ) (r : Result Name Why) → word ≡ text
    → option ≡ before_first is_equals word → r ≡ unset verb s option → unset verb s (before_first is_equals text) ≡ r
named-so verb s text word option r same name is = rw (← same, ← name) (sym is)

valued-so : (name : Name) (text word : List ℕ) (joined : Option (List ℕ)) (following : List (List ℕ))
    (r : Result (List ℕ × ℕ) (ℕ × Why)) → word ≡ text → joined ≡ joined_value word
    → value_of name joined following ≡ r → value_of name (joined_value text) following ≡ r
valued-so name text word joined following r same value is = rw (← same, ← value) is

pub at-name : (verb : Verb) (s : Settings) (words following : List (List ℕ)) (text word option : List ℕ) (why : Why)
    → words ≡ text ∷ following → word ≡ text → option ≡ before_first is_equals word → Err why ≡ unset verb s option
    → Stops verb s words 0 why
at-name verb s words following text word option why are same name is =
    rw are (unset-err verb s text following why (named-so verb s text word option (Err why) same name is))

pub at-value : (verb : Verb) (s : Settings) (words following : List (List ℕ)) (text word option : List ℕ)
    (joined : Option (List ℕ)) (name : Name) (place : ℕ) (why : Why) → words ≡ text ∷ following → word ≡ text
    → option ≡ before_first is_equals word → Ok name ≡ unset verb s option → joined ≡ joined_value word
    → value_of name joined following ≡ Err (place, why) → Stops verb s words place why
at-value verb s words following text word option joined name place why are same option_is is value stop =
    let named = unset-ok verb s (before_first is_equals text) name (named-so verb s text word option (Ok name) same
    option_is is) in
    rw are (value-err verb s text following name place why named.0 named.1
    (valued-so name text word joined following (Err (place, why)) same value stop))

-- a name that isn't set, and its value
pub record IsOffered (verb : Verb) (s : Settings) (words : List (List ℕ)) (name : Name) (value : List ℕ) (used : ℕ) :
    Type 0 where
  pub unset : is_set s name ≡ false
  pub offers : Offers verb words name value used

pub offered : (verb : Verb) (s : Settings) (words following : List (List ℕ)) (text word option : List ℕ)
    (joined : Option (List ℕ)) (name : Name) (value : List ℕ) (used : ℕ) → words ≡ text ∷ following → word ≡ text
    → option ≡ before_first is_equals word → Ok name ≡ unset verb s option → joined ≡ joined_value word
    → value_of name joined following ≡ Ok (value, used) → IsOffered verb s words name value used
offered verb s words following text word option joined name value used are same option_is is joined_is given =
    let named = unset-ok verb s (before_first is_equals text) name (named-so verb s text word option (Ok name) same
    option_is is) in
    rw are (record {
      unset = named.1;
      offers =
          value-ok verb text following name value used named.0
          (valued-so name text word joined following (Ok (value, used)) same joined_is given);
    })
