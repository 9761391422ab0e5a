-- A machine that suits options suits fewer of them, and with the most words too.
use Rattle.std.proofs.Common.{◌≡◌, ℕ, ◌≤◌, Bool, true, false, List, ◌++◌, Option, Some}
use Rattle.std.proofs.Common.{None, arith, refl, sym, ◌∙◌, ap, is_some}
use Rattle.std.specs.Prelude.{unwrap_or}
use Rattle.std.specs.List.{list_all, range_with_len}
use Rattle.std.specs.Option.{option_or}
use Rattle.std.proofs.lemmas.Bool.{and_from, and_parts}
use Rattle.std.proofs.lemmas.Bool.Decides.{nat_tests}
use Rattle.rtr_types.specs.declared.TheConstants.{CORES_MAX}
use Rattle.rtr_types.specs.declared.params.TheConstants.{WORDS_MAX}
use Rattle.tool_words.specs.Options.{whole_blocks}
use Rattle.end_claims.specs.declared.claim.Atom.{Atom}
use Rattle.end_claims.specs.declared.claim.Atom.TheVariants.{Compares, Ends, AllEnd}
use Rattle.end_claims.specs.declared.claim.Place.{Place}
use Rattle.end_claims.specs.declared.claim.Place.TheVariants.{Word, Register, Ended}
use Rattle.end_claims.specs.declared.claim.Right.{Right}
use Rattle.end_claims.specs.declared.claim.Right.TheVariants.{Number, At}
use Rattle.end_claims.specs.Named.{are_named_within, are_within, is_within, right_within, within}
use Rattle.end_claims.specs.Reading.{claim_of, places_of}
use Rattle.hunt_words.specs.declared.names.Name.{Name}
use Rattle.hunt_words.specs.declared.names.Name.TheVariants.{Cores, Limit, Words, By, Runs, Threads, Run, Turns, Expect}
use Rattle.hunt_words.specs.declared.names.Name.TheVariants.{Never, Same, See, Elf, Tso, Plain}
use Rattle.hunt_words.specs.declared.verbs.Verb.{Verb}
use Rattle.hunt_words.specs.Given.{Given}
use Rattle.hunt_words.specs.Names.{word_of}
use Rattle.hunt_words.specs.Open.{are_both, has, has_machine, is_value, is_value_or, most_words, odd_pair}
use Rattle.hunt_words.specs.Open.{pairs, passes, suits, text_of, valued_of}
use Rattle.hunt_words.proofs.GivenTexts.{has-front, text_at-append}
use Rattle.hunt_words.proofs.Memories.{whole_fits}
use Rattle.hunt_words.proofs.OptionLists.{all-mono, any-mono, find-none}

-- ---- more words of memory

place-lifts : (cores words more : ℕ) → words ≤ more → (place : Place) → is_within cores words place ≡ true
    → is_within cores more place ≡ true
place-lifts cores words more fewer (Word word) h = grind (arith, nat_tests)
place-lifts cores words more fewer (Register core number) h = h
place-lifts cores words more fewer (Ended core) h = h

right-lifts : (cores words more : ℕ) → words ≤ more → (right : Right) → right_within cores words right ≡ true
    → right_within cores more right ≡ true
right-lifts cores words more fewer (Number number) h = refl
right-lifts cores words more fewer (At place) h = place-lifts cores words more fewer place h

atom-lifts : (cores words more : ℕ) → words ≤ more → (atom : Atom) → within cores words atom ≡ true
    → within cores more atom ≡ true
atom-lifts cores words more fewer (Compares left by right) h =
    let both = and_parts (is_within cores words left) (right_within cores words right) h in
    and_from _ _ (place-lifts cores words more fewer left both.0) (right-lifts cores words more fewer right both.1)
atom-lifts cores words more fewer (Ends core stop) h = h
atom-lifts cores words more fewer (AllEnd stop) h = refl

claim-lifts : (cores words more : ℕ) → words ≤ more → (claim : List (List Atom))
    → are_named_within cores words claim ≡ true
    → are_named_within cores more claim ≡ true
claim-lifts cores words more fewer claim h =
    all-mono (list_all (within cores words)) (list_all (within cores more))
    (λ atoms k. all-mono (within cores words) (within cores more) (atom-lifts cores words more fewer) atoms k) claim h

places-lift : (cores words more : ℕ) → words ≤ more → (places : List Place) → are_within cores words places ≡ true
    → are_within cores more places ≡ true
places-lift cores words more fewer places h =
    all-mono (is_within cores words) (is_within cores more) (place-lifts cores words more fewer) places h

passes-lift : {A : Type 0} (p q : A → Bool) → ((a : A) → p a ≡ true → q a ≡ true) → (o : Option A) → passes p o ≡ true
    → passes q o ≡ true
passes-lift p q each None h = h
passes-lift p q each (Some a) h = each a h

-- a value but the words themselves
abbrev pub is-words : Name → Bool
is-words Words = true
is-words name = false

pub value-lifts : (cores words more : ℕ) → words ≤ more → (name : Name) → is-words name ≡ false → (text : List ℕ)
    → is_value cores words name text ≡ true → is_value cores more name text ≡ true
value-lifts cores words more fewer Expect other text h =
    passes-lift (are_named_within cores words) (are_named_within cores more) (claim-lifts cores words more fewer)
    (claim_of text) h
value-lifts cores words more fewer Never other text h =
    passes-lift (are_named_within cores words) (are_named_within cores more) (claim-lifts cores words more fewer)
    (claim_of text) h
value-lifts cores words more fewer Same text-is text h =
    passes-lift (are_within cores words) (are_within cores more) (places-lift cores words more fewer)
    (places_of cores text) h
value-lifts cores words more fewer See text-is text h =
    passes-lift (are_within cores words) (are_within cores more) (places-lift cores words more fewer)
    (places_of cores text) h
value-lifts cores words more fewer Words other text h = absurd (cc)
value-lifts cores words more fewer Cores other text h = h
value-lifts cores words more fewer Limit other text h = h
value-lifts cores words more fewer By other text h = h
value-lifts cores words more fewer Runs other text h = h
value-lifts cores words more fewer Threads other text h = h
value-lifts cores words more fewer Run other text h = h
value-lifts cores words more fewer Turns other text h = h
value-lifts cores words more fewer Elf other text h = refl
value-lifts cores words more fewer Tso other text h = refl
value-lifts cores words more fewer Plain other text h = refl

-- ---- fewer options

-- the words of memory by the text of their option
abbrev pub words-by : Option (List ℕ) → ℕ
words-by o = elim o as (λ _. ℕ) [ None ↦ WORDS_MAX | Some text ↦ unwrap_or (whole_blocks text) WORDS_MAX ]

few-words : (o : Option (List ℕ)) → words-by o ≤ WORDS_MAX
few-words None = omega arith
few-words (Some text) = by (whole_blocks text) refl
  where
    by : (o : Option ℕ) → whole_blocks text ≡ o → unwrap_or o WORDS_MAX ≤ WORDS_MAX
    by None is = omega arith
    by (Some n) is = let fits = whole_fits text n is in omega (arith, fits.1)

-- one option, where others follow those that are given
front-value : (cores : ℕ) (name : Name) (here behind words-here words-behind : Option (List ℕ))
    → (is-words name ≡ true → here ≡ words-here)
    → is_value_or cores (words-by (option_or words-here words-behind)) name (option_or here behind) ≡ true
    → is_value_or cores (words-by words-here) name here ≡ true
front-value cores name None behind words-here words-behind same h = refl
front-value cores name (Some text) behind (Some t) words-behind same h = h
front-value cores name (Some text) behind None words-behind same h = by (is-words name) refl
  where
    by : (b : Bool) → is-words name ≡ b → is_value cores WORDS_MAX name text ≡ true
    by true is = let no = same is in absurd (cc)
    by false is = value-lifts cores (words-by words-behind) WORDS_MAX (few-words words-behind) name is text h

words-same : (name : Name) (given : List Given) → is-words name ≡ true → text_of name given ≡ text_of Words given
words-same Words given h = refl
words-same Cores given h = absurd (cc)
words-same Limit given h = absurd (cc)
words-same By given h = absurd (cc)
words-same Runs given h = absurd (cc)
words-same Threads given h = absurd (cc)
words-same Run given h = absurd (cc)
words-same Turns given h = absurd (cc)
words-same Expect given h = absurd (cc)
words-same Never given h = absurd (cc)
words-same Same given h = absurd (cc)
words-same See given h = absurd (cc)
words-same Elf given h = absurd (cc)
words-same Tso given h = absurd (cc)
words-same Plain given h = absurd (cc)

front-suits : (verb : Verb) (given more : List Given) (cores : ℕ) → suits verb (given ++ more) cores ≡ true
    → suits verb given cores ≡ true
front-suits verb given more cores h =
    all-mono (λ name. is_value_or cores (most_words (given ++ more)) name (text_of name (given ++ more)))
    (λ name. is_value_or cores (most_words given) name (text_of name given)) each (valued_of verb) h
  where
    each : (name : Name) → is_value_or cores (most_words (given ++ more)) name (text_of name (given ++ more)) ≡ true
        → is_value_or cores (most_words given) name (text_of name given) ≡ true
    each name k =
        front-value cores name (text_of name given) (text_of name more) (text_of Words given) (text_of Words more)
        (λ is. words-same name given is)
        (ap (λ (o : Option (List ℕ)).
        is_value_or cores (words-by (option_or (text_of Words given) (text_of Words more))) name o)
        (sym (text_at-append (word_of name) given more))
        ∙ ap (λ (w : ℕ). is_value_or cores w name (text_of name (given ++ more)))
        (sym (ap words-by (text_at-append (word_of Words) given more))) ∙ k)

pub front-apart : (verb : Verb) (given more : List Given) → is_some (odd_pair verb (given ++ more)) ≡ false
    → is_some (odd_pair verb given) ≡ false
front-apart verb given more h =
    find-none (are_both (given ++ more)) (are_both given) each (pairs verb) h
  where
    each : (pair : Name × Name) → are_both given pair ≡ true → are_both (given ++ more) pair ≡ true
    each pair k =
        let both = and_parts (has pair.0 given) (has pair.1 given) k in
        and_from _ _ (has-front (word_of pair.0) given more both.0) (has-front (word_of pair.1) given more both.1)

pub front-machine : (verb : Verb) (given more : List Given) → has_machine verb (given ++ more) ≡ true
    → has_machine verb given ≡ true
front-machine verb given more h =
    any-mono (suits verb (given ++ more)) (suits verb given) (front-suits verb given more)
    (range_with_len 1 CORES_MAX) h
