-- Words are cut into settings from the front: what a word that names an option begins, and what words after words that
-- are cut come to.
use Rattle.std.proofs.Common.{◌≡◌, ℕ, Bool, true, false, List, [], ◌∷◌, ◌++◌, Option, Some, None, refl, sym, ap, ◌∙◌}
use Rattle.std.proofs.Common.{arith, cond, is_some, length, not}
use Rattle.std.specs.List.{after_first, before_first, position_or_len}
use Rattle.std.specs.Option.{option_and_then}
use Rattle.std.proofs.Math.Seq.{take-length}
use Rattle.std.proofs.lemmas.Bool.Decides.{nat_tests}
use Rattle.std.proofs.lemmas.List.Sums.{prefix_len-le-length}
use Rattle.tool_words.specs.declared.command.Verb.{Verb}
use Rattle.tool_words.specs.declared.options.Name.{Name}
use Rattle.tool_words.specs.Settings.{Settings}
use Rattle.tool_words.specs.Options.{is_set, option_named, option_of, put, takes, takes_value}
use Rattle.tool_words.specs.Reading.{Set, alone, flag, is_equals, prepend, settings, settled, settled_by, valued}
use Rattle.tool_words.specs.Faults.{has_value, option_in}
use Rattle.tool_words.proofs.Chains.{prepend-none, prepend_all, prepended}
use Rattle.tool_words.proofs.FittingLemmas.{and_then-some}
use Rattle.tool_words.proofs.Plain.{names-are-plain}
use Rattle.tool_words.proofs.ReadingLemmas.{put_then, settings-alone, settled_by-alone, settled_by-last, settled_by-pair}
use Rattle.tool_words.proofs.ReadingLemmas.{settled_by-unknown}

-- ---- one word

abbrev pub setting : Name → List ℕ → Set
setting name text = record { name = name; text = text }

-- a word without `=` is a name, all of it
bare : (word : List ℕ) → has_value word ≡ false → before_first is_equals word ≡ word
bare word h =
    let most = prefix_len-le-length (λ b. not (is_equals b)) word in
    let all : position_or_len is_equals word ≡ length word = grind (arith, nat_tests) in
    rw all (take-length word)

-- a word with `=` isn't the name of an option
no-name : (word : List ℕ) → has_value word ≡ true → option_named word ≡ None
no-name word h = by (option_named word) refl
  where
    by : (o : Option Name) → option_named word ≡ o → o ≡ None
    by None is = refl
    by (Some name) is = let plain = names-are-plain word (ap is_some is) in absurd (grind (arith, nat_tests))

no-option : (verb : Verb) (word : List ℕ) → has_value word ≡ true → option_of verb word ≡ None
no-option verb word h = rw (no-name word h) refl

pub whole-word : (verb : Verb) (word : List ℕ) (o : Option Name) → has_value word ≡ false → option_in verb word ≡ o
    → option_of verb word ≡ o
whole-word verb word o h is = ap (λ w. option_of verb w) (sym (bare word h)) ∙ is

-- what makes no setting, alone or with the next word
record Stuck (verb : Verb) (word : List ℕ) : Type 0 where
  alone_none : alone verb word ≡ None
  valued_none : (text : List ℕ) → valued verb word text ≡ None

-- what makes none alone, and one of this option with the next word
record Pairs (verb : Verb) (word : List ℕ) (name : Name) : Type 0 where
  alone_none : alone verb word ≡ None
  valued_some : (text : List ℕ) → valued verb word text ≡ Some (setting name text)

stuck-words : (verb : Verb) (s : Settings) (word : List ℕ) (rest : List (List ℕ)) → Stuck verb word
    → settled_by verb s (word ∷ rest) ≡ None
stuck-words verb s word [] stuck = settled_by-last verb s word stuck.alone_none
stuck-words verb s word (next ∷ rest) stuck =
    settled_by-unknown verb s word next rest stuck.alone_none (stuck.valued_none next)

unnamed : (verb : Verb) (word : List ℕ) → option_in verb word ≡ None → Stuck verb word
unnamed verb word h = by (has_value word) refl
  where
    by : (b : Bool) → has_value word ≡ b → Stuck verb word
    by true is = record {
      alone_none = rw (is, h) refl;
      valued_none = λ text. rw (no-option verb word is) refl;
    }
    by false is = record {
      alone_none = rw (is, whole-word verb word None is h) refl;
      valued_none = λ text. rw (whole-word verb word None is h) refl;
    }

flag-alone : (verb : Verb) (word : List ℕ) (name : Name) → option_in verb word ≡ Some name → has_value word ≡ false
    → takes_value name ≡ false → alone verb word ≡ Some (setting name [])
flag-alone verb word name h is takes = rw (is, whole-word verb word (Some name) is h, takes) refl

joined-alone : (verb : Verb) (word : List ℕ) (name : Name) → option_in verb word ≡ Some name → has_value word ≡ true
    → takes_value name ≡ true → alone verb word ≡ Some (setting name (after_first is_equals word))
joined-alone verb word name h is takes = rw (is, h, takes) refl

flag-valued : (verb : Verb) (word : List ℕ) (name : Name) → option_in verb word ≡ Some name → has_value word ≡ true
    → takes_value name ≡ false → Stuck verb word
flag-valued verb word name h is takes = record {
  alone_none = rw (is, h, takes) refl;
  valued_none = λ text. rw (no-option verb word is) refl;
}

pairs : (verb : Verb) (word : List ℕ) (name : Name) → option_of verb word ≡ Some name → takes_value name ≡ true
    → Pairs verb word name
pairs verb word name h takes = by (has_value word) refl
  where
    by : (b : Bool) → has_value word ≡ b → Pairs verb word name
    by true is = let none = no-option verb word is in absurd (cc)
    by false is = record {
      alone_none = rw (is, h, takes) refl;
      valued_some = λ text. rw (h, takes) refl;
    }

-- ---- words that stop

pub stops-unnamed : (verb : Verb) (s : Settings) (word : List ℕ) (rest : List (List ℕ)) → option_in verb word ≡ None
    → settled_by verb s (word ∷ rest) ≡ None
stops-unnamed verb s word rest h = stuck-words verb s word rest (unnamed verb word h)

pub stops-flag : (verb : Verb) (s : Settings) (word : List ℕ) (rest : List (List ℕ)) (name : Name)
    → option_in verb word ≡ Some name → takes_value name ≡ false → has_value word ≡ true
    → settled_by verb s (word ∷ rest) ≡ None
stops-flag verb s word rest name h takes is = stuck-words verb s word rest (flag-valued verb word name h is takes)

-- an option that is set
set-then : (verb : Verb) (s : Settings) (name : Name) (text : List ℕ) (rest : List (List ℕ)) → is_set s name ≡ true
    → put_then verb s (setting name text) rest ≡ None
set-then verb s name text rest set = rw set refl

pub stops-twice : (verb : Verb) (s : Settings) (word : List ℕ) (rest : List (List ℕ)) (name : Name)
    → option_in verb word ≡ Some name → is_set s name ≡ true → settled_by verb s (word ∷ rest) ≡ None
stops-twice verb s word rest name h set = by (has_value word) (takes_value name) refl refl
  where
    paired : (rest : List (List ℕ)) → Pairs verb word name → settled_by verb s (word ∷ rest) ≡ None
    paired [] p = settled_by-last verb s word p.alone_none
    paired (next ∷ rest) p =
        settled_by-pair verb s word next rest (setting name next) p.alone_none (p.valued_some next)
        ∙ set-then verb s name next rest set

    by : (b c : Bool) → has_value word ≡ b → takes_value name ≡ c → settled_by verb s (word ∷ rest) ≡ None
    by true true is takes =
        settled_by-alone verb s word rest (setting name (after_first is_equals word)) (joined-alone verb word name h is takes)
        ∙ set-then verb s name (after_first is_equals word) rest set
    by true false is takes = stops-flag verb s word rest name h takes is
    by false true is takes = paired rest (pairs verb word name (whole-word verb word (Some name) is h) takes)
    by false false is takes =
        settled_by-alone verb s word rest (setting name []) (flag-alone verb word name h is takes)
        ∙ set-then verb s name [] rest set

-- ---- words that set an option

pub sets-flag : (verb : Verb) (word : List ℕ) (name : Name) → option_in verb word ≡ Some name
    → has_value word ≡ false → takes_value name ≡ false → settings verb (word ∷ []) ≡ Some (setting name [] ∷ [])
unfolding settings
sets-flag verb word name h is takes = settings-alone verb word [] (setting name []) (flag-alone verb word name h is takes)

pub sets-joined : (verb : Verb) (word : List ℕ) (name : Name) → option_in verb word ≡ Some name
    → has_value word ≡ true → takes_value name ≡ true
    → settings verb (word ∷ []) ≡ Some (setting name (after_first is_equals word) ∷ [])
unfolding settings
sets-joined verb word name h is takes =
    settings-alone verb word [] (setting name (after_first is_equals word)) (joined-alone verb word name h is takes)

pub sets-apart : (verb : Verb) (word text : List ℕ) (name : Name) → option_of verb word ≡ Some name
    → takes_value name ≡ true → settings verb (word ∷ text ∷ []) ≡ Some (setting name text ∷ [])
unfolding settings
sets-apart verb word text name h takes =
    let p = pairs verb word name h takes in rw (p.alone_none, p.valued_some text) refl

-- a name alone is the front of a name and a value
pub name-last : (verb : Verb) (s : Settings) (word : List ℕ) (name : Name) → option_of verb word ≡ Some name
    → takes_value name ≡ true → settled_by verb s (word ∷ []) ≡ None
name-last verb s word name h takes = settled_by-last verb s word (pairs verb word name h takes).alone_none

pub name-and-value : (verb : Verb) (s t : Settings) (word text : List ℕ) (rest : List (List ℕ)) (name : Name)
    → option_of verb word ≡ Some name → takes_value name ≡ true → put s name text ≡ Some t
    → settled_by verb s (word ∷ text ∷ rest) ≡ settled_by verb t rest
name-and-value verb s t word text rest name h takes is =
    let p = pairs verb word name h takes in
    settled_by-pair verb s word text rest (setting name text) p.alone_none (p.valued_some text) ∙ rw is refl

-- words are cut into some setting
none-cut : (verb : Verb) (words : List (List ℕ)) → settings verb words ≡ Some [] → words ≡ []
unfolding settings
none-cut verb [] h = refl
none-cut verb (word ∷ []) h = let p = prepended (alone verb word) (Some []) [] h in let e = p.4 in absurd (cc)
none-cut verb (word ∷ next ∷ rest) h = by (is_some (alone verb word)) h
  where
    by : (b : Bool) →
        cond b (prepend (alone verb word) (settings verb (next ∷ rest)))
        (prepend (valued verb word next) (settings verb rest)) ≡ Some [] → word ∷ next ∷ rest ≡ []
    by true k = let p = prepended (alone verb word) (settings verb (next ∷ rest)) [] k in let e = p.4 in absurd (cc)
    by false k = let p = prepended (valued verb word next) (settings verb rest) [] k in let e = p.4 in absurd (cc)

valued-name : (verb : Verb) (word text : List ℕ) (set : Set) → valued verb word text ≡ Some set →
    (option_of verb word ≡ Some set.name) × (takes_value set.name ≡ true)
valued-name verb word text set h = named (option_of verb word) h
  where
    named : (o : Option Name) → option_and_then
        (λ name. cond (takes_value name) (Some (setting name text)) None) o ≡ Some set →
        (o ≡ Some set.name) × (takes_value set.name ≡ true)
    named None k = absurd (cc)
    named (Some name) k = by-test (takes_value name) refl k
      where
        by-test : (b : Bool) → takes_value name ≡ b → cond b (Some (setting name text)) None ≡ Some set →
            (Some name ≡ Some set.name) × (takes_value set.name ≡ true)
        by-test false is e = absurd (cc)
        by-test true is e =
            let same : setting name text ≡ set = cc in
            let names : name ≡ set.name = ap (λ (u : Set). u.name) same in
            (ap (λ n. Some n) names, rw (← names) is)

-- the words of one setting: one word, or a name and its value
pub data OneSetting (verb : Verb) (piece : List (List ℕ)) (set : Set) : Type 0 where
  one-word : (word : List ℕ) → piece ≡ word ∷ [] → OneSetting verb piece set
  two-words : (word text : List ℕ) → piece ≡ word ∷ text ∷ [] → option_of verb word ≡ Some set.name
      → takes_value set.name ≡ true → OneSetting verb piece set

pub one-setting : (verb : Verb) (piece : List (List ℕ)) (set : Set) → settings verb piece ≡ Some (set ∷ [])
    → OneSetting verb piece set
unfolding settings
one-setting verb [] set h = absurd (cc)
one-setting verb (word ∷ []) set h = one-word word refl
one-setting verb (word ∷ next ∷ rest) set h = by (is_some (alone verb word)) h
  where
    by : (b : Bool) →
        cond b (prepend (alone verb word) (settings verb (next ∷ rest)))
        (prepend (valued verb word next) (settings verb rest)) ≡ Some (set ∷ []) →
        OneSetting verb (word ∷ next ∷ rest) set
    by true k =
        let p = prepended (alone verb word) (settings verb (next ∷ rest)) (set ∷ []) k in
        let none : p.1 ≡ [] = let e = p.4 in cc in
        let empty = none-cut verb (next ∷ rest) (p.3 ∙ ap (λ l. Some l) none) in absurd (cc)
    by false k =
        let p = prepended (valued verb word next) (settings verb rest) (set ∷ []) k in
        let none : p.1 ≡ [] = let e = p.4 in cc in
        let same : p.0 ≡ set = let e = p.4 in cc in
        let named = valued-name verb word next set (p.2 ∙ ap (λ u. Some u) same) in
        let empty = none-cut verb rest (p.3 ∙ ap (λ l. Some l) none) in
        two-words word next (ap (λ l. word ∷ next ∷ l) empty) named.0 named.1

-- the command takes the option of a setting
named-option : (verb : Verb) (word : List ℕ) (name : Name) → option_of verb word ≡ Some name → takes verb name ≡ true
named-option verb word name h = by (option_named word) h
  where
    by : (o : Option Name) → option_and_then (λ n. cond (takes verb n) (Some n) None) o ≡ Some name
        → takes verb name ≡ true
    by None k = absurd (cc)
    by (Some n) k = by-test (takes verb n) refl k
      where
        by-test : (b : Bool) → takes verb n ≡ b → cond b (Some n) None ≡ Some name → takes verb name ≡ true
        by-test true is e = let same : n ≡ name = cc in rw (← same) is
        by-test false is e = absurd (cc)

flag-name : (verb : Verb) (word : List ℕ) (set : Set) → flag verb word ≡ Some set
    → option_of verb word ≡ Some set.name
flag-name verb word set h = by (option_of verb word) h
  where
    by : (o : Option Name) → option_and_then
        (λ name. cond (takes_value name) None (Some (setting name []))) o ≡ Some set → o ≡ Some set.name
    by None k = absurd (cc)
    by (Some name) k = by-test (takes_value name) k
      where
        by-test : (b : Bool) → cond b None (Some (setting name [])) ≡ Some set → Some name ≡ Some set.name
        by-test true e = absurd (cc)
        by-test false e = let same : setting name [] ≡ set = cc in ap (λ (u : Set). Some u.name) same

alone-option : (verb : Verb) (word : List ℕ) (set : Set) → alone verb word ≡ Some set → takes verb set.name ≡ true
alone-option verb word set h = by (has_value word) h
  where
    by : (b : Bool) →
        cond b (valued verb (before_first is_equals word) (after_first is_equals word)) (flag verb word) ≡ Some set
        → takes verb set.name ≡ true
    by true k =
        named-option verb (before_first is_equals word) set.name
        (valued-name verb (before_first is_equals word) (after_first is_equals word) set k).0
    by false k = named-option verb word set.name (flag-name verb word set k)

pub setting-option : (verb : Verb) (piece : List (List ℕ)) (set : Set) → settings verb piece ≡ Some (set ∷ [])
    → takes verb set.name ≡ true
unfolding settings
setting-option verb [] set h = absurd (cc)
setting-option verb (word ∷ []) set h =
    let p = prepended (alone verb word) (Some []) (set ∷ []) h in
    let same : p.0 ≡ set = let e = p.4 in cc in
    alone-option verb word set (p.2 ∙ ap (λ u. Some u) same)
setting-option verb (word ∷ next ∷ rest) set h = by (is_some (alone verb word)) h
  where
    by : (b : Bool) →
        cond b (prepend (alone verb word) (settings verb (next ∷ rest)))
        (prepend (valued verb word next) (settings verb rest)) ≡ Some (set ∷ []) → takes verb set.name ≡ true
    by true k =
        let p = prepended (alone verb word) (settings verb (next ∷ rest)) (set ∷ []) k in
        let same : p.0 ≡ set = let e = p.4 in cc in
        alone-option verb word set (p.2 ∙ ap (λ u. Some u) same)
    by false k =
        let p = prepended (valued verb word next) (settings verb rest) (set ∷ []) k in
        let same : p.0 ≡ set = let e = p.4 in cc in
        named-option verb word set.name (valued-name verb word next set (p.2 ∙ ap (λ u. Some u) same)).0

-- ---- words after words

one-more : (set : Set) (o : Option (List Set)) → prepend (Some set) o ≡ prepend_all (set ∷ []) o
one-more set None = refl
one-more set (Some rest) = refl

more-after : (set : Set) (sets : List Set) (o : Option (List Set)) → prepend (Some set) (prepend_all sets o)
    ≡ prepend_all (set ∷ sets) o
more-after set sets None = refl
more-after set sets (Some rest) = refl

settings-pair : (verb : Verb) (word next : List ℕ) (rest : List (List ℕ)) (set : Set) → alone verb word ≡ None
    → valued verb word next ≡ Some set → settings verb (word ∷ next ∷ rest) ≡ prepend (Some set) (settings verb rest)
unfolding settings
settings-pair verb word next rest set none some = rw (none, some) refl

settings-append : (verb : Verb) (before after : List (List ℕ)) (sets : List Set) → settings verb before ≡ Some sets
    → settings verb (before ++ after) ≡ prepend_all sets (settings verb after)
unfolding settings
settings-append verb [] after sets h =
    let none : [] ≡ sets = cc in rw (← none) (sym (prepend-none (settings verb after)))
settings-append verb (word ∷ []) after sets h =
    let p = prepended (alone verb word) (Some []) sets h in
    let one : p.0 ∷ [] ≡ sets = let e = p.3 in let f = p.4 in cc in
    settings-alone verb word after p.0 p.2 ∙ one-more p.0 (settings verb after)
    ∙ ap (λ l. prepend_all l (settings verb after)) one
settings-append verb (word ∷ next ∷ rest) after sets h =
    by (alone verb word) refl h (λ s k. settings-append verb (next ∷ rest) after s k)
    (λ s k. settings-append verb rest after s k)
  where
    by : (o : Option Set) → alone verb word ≡ o →
        cond (is_some o) (prepend o (settings verb (next ∷ rest)))
        (prepend (valued verb word next) (settings verb rest)) ≡ Some sets →
        ((s : List Set) → settings verb (next ∷ rest) ≡ Some s
        → settings verb ((next ∷ rest) ++ after) ≡ prepend_all s (settings verb after)) →
        ((s : List Set) → settings verb rest ≡ Some s
        → settings verb (rest ++ after) ≡ prepend_all s (settings verb after)) →
        settings verb ((word ∷ next ∷ rest) ++ after) ≡ prepend_all sets (settings verb after)
    by (Some set) is k longer shorter =
        let p = prepended (Some set) (settings verb (next ∷ rest)) sets k in
        settings-alone verb word ((next ∷ rest) ++ after) p.0 (is ∙ p.2)
        ∙ ap (λ o. prepend (Some p.0) o) (longer p.1 p.3) ∙ more-after p.0 p.1 (settings verb after)
        ∙ ap (λ l. prepend_all l (settings verb after)) p.4
    by None is k longer shorter =
        let p = prepended (valued verb word next) (settings verb rest) sets k in
        settings-pair verb word next (rest ++ after) p.0 is p.2
        ∙ ap (λ o. prepend (Some p.0) o) (shorter p.1 p.3) ∙ more-after p.0 p.1 (settings verb after)
        ∙ ap (λ l. prepend_all l (settings verb after)) p.4

pub settled-append : (s : Settings) (sets more : List Set) → settled s (sets ++ more) ≡ option_and_then
    (λ t. settled t more) (settled s sets)
settled-append s [] more = refl
settled-append s (set ∷ sets) more = each (put s set.name set.text) (λ t. settled-append t sets more)
  where
    each : (o : Option Settings) →
        ((t : Settings) → settled t (sets ++ more) ≡ option_and_then (λ u. settled u more) (settled t sets)) →
        option_and_then (λ t. settled t (sets ++ more)) o ≡ option_and_then (λ u. settled u more)
        (option_and_then (λ t. settled t sets) o)
    each None later = refl
    each (Some t) later = later t

settle-all : (s t : Settings) (sets : List Set) (o : Option (List Set)) → settled s sets ≡ Some t
    → option_and_then (settled s) (prepend_all sets o) ≡ option_and_then (settled t) o
settle-all s t sets None h = refl
settle-all s t sets (Some more) h = settled-append s sets more ∙ rw h refl

-- what words come to after words that come to t is what they come to after t
pub settled_by-append : (verb : Verb) (s t : Settings) (before after : List (List ℕ)) → settled_by verb s before ≡ Some t
    → settled_by verb s (before ++ after) ≡ settled_by verb t after
unfolding settled_by
settled_by-append verb s t before after h =
    let cut = and_then-some (settled s) (settings verb before) t h in
    ap (λ o. option_and_then (settled s) o) (settings-append verb before after cut.0 cut.1)
    ∙ settle-all s t cut.0 (settings verb after) cut.2

-- words that are cut into one setting, which can't be put in
pub stops-setting : (verb : Verb) (s : Settings) (piece rest : List (List ℕ)) (set : Set)
    → settings verb piece ≡ Some (set ∷ []) → put s set.name set.text ≡ None → settled_by verb s (piece ++ rest) ≡ None
unfolding settled_by
stops-setting verb s piece rest set cut none =
    ap (λ o. option_and_then (settled s) o) (settings-append verb piece rest (set ∷ []) cut) ∙ by (settings verb rest)
  where
    by : (o : Option (List Set)) → option_and_then (settled s) (prepend_all (set ∷ []) o) ≡ None
    by None = refl
    by (Some more) = rw none refl

-- and which can
pub sets-setting : (verb : Verb) (s t : Settings) (piece : List (List ℕ)) (set : Set)
    → settings verb piece ≡ Some (set ∷ []) → put s set.name set.text ≡ Some t → settled_by verb s piece ≡ Some t
unfolding settled_by
sets-setting verb s t piece set cut is = rw (cut, is) refl
