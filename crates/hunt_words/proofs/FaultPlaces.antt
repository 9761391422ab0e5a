-- Where words stop, no list of words that asks for something goes on; and up to there some does.
use Rattle.std.proofs.Common.{◌≡◌, ◌≢◌, ◌⊎◌, ◌≤◌, ◌<◌, ◌+◌, ◌-◌, ℕ, Bool, true, false, List, [], ◌∷◌, ◌++◌, Option}
use Rattle.std.proofs.Common.{Some, None, refl, sym, ap, ◌∙◌, arith, append_assoc, codes, length, take, drop, not}
use Rattle.std.proofs.Common.{nat_lt, suc, zero, take-append-drop, length-drop, take_all, add-one, cond}
use Rattle.std.proofs.Common.{is_some, inl, inr}
use Rattle.std.proofs.Math.Seq.{take-add, take-length}
use Rattle.std.proofs.Math.ListN.{drop_of_length-le}
use Rattle.std.proofs.lemmas.List.{append-nil}
use Rattle.std.proofs.lemmas.Bool.{and_from, false_from_ne_true, true≢false}
use Rattle.std.proofs.lemmas.Bool.Decides.{nat_tests}
use Rattle.rtr_types.specs.declared.TheConstants.{CORES_MAX}
use Rattle.tool_words.specs.Numerals.{is_numeral, number_between}
use Rattle.tool_words.specs.Options.{cores_default}
use Rattle.hunt_words.specs.declared.faults.Fault.TheVariants.{InOptions}
use Rattle.hunt_words.specs.declared.faults.Missing.{Missing}
use Rattle.hunt_words.specs.declared.faults.Why.{Why}
use Rattle.hunt_words.specs.declared.faults.Why.TheVariants.{NotAnOption, FlagWithValue, Twice, AtOdds, NoValue}
use Rattle.hunt_words.specs.declared.faults.Why.TheVariants.{OutOfRange, NoNumber, NoSuchValue}
use Rattle.hunt_words.specs.declared.faults.Why.TheVariants.{TooMany, NoMachine, Lacks}
use Rattle.hunt_words.specs.declared.hunt.Hunt.{Hunt}
use Rattle.hunt_words.specs.declared.names.Name.{Name}
use Rattle.hunt_words.specs.declared.names.Name.TheVariants as named
use Rattle.hunt_words.specs.declared.verbs.Verb.{Verb}
use Rattle.hunt_words.specs.declared.verbs.Verb.TheVariants as verbs
use Rattle.hunt_words.specs.Faults.{Explains, IsFaultAt, IsMissing, IsViable, Refuses, Tells, name_part, range, refusal}
use Rattle.hunt_words.specs.Given.{Given, alone, given_in}
use Rattle.hunt_words.specs.Meaning.{hunt_by, hunt_of, meaning}
use Rattle.hunt_words.specs.Names.{word_of}
use Rattle.hunt_words.specs.Open.{has, has_machine, lacks, odd_pair, one, suits, text_of}
use Rattle.hunt_words.specs.Stops.{GoesOn, IsCut, IsNamed, IsNext, Stops, StopsAfter, is_at_end, is_of_name}
use Rattle.hunt_words.specs.Verbs.{is_flag, takes_value, verb_named}
use Rattle.hunt_words.proofs.GivenCuts.{given-append}
use Rattle.hunt_words.proofs.GivenTexts.{once-more}
use Rattle.hunt_words.proofs.OpenGoesOn.{cut-goes-on, name-goes-on, open-parts, pair-text}
use Rattle.hunt_words.proofs.HuntsMade.{cores-named, hunt-made, words-named}
use Rattle.hunt_words.proofs.OptionLists.{range-passes}
use Rattle.hunt_words.proofs.OptionNames.{alone-bare, bare, bare-so, has-equals, joined-takes, name-word, no-flag}
use Rattle.hunt_words.proofs.StuckWords.{stuck-cut, stuck-machine, stuck-name, stuck-odd, stuck-twice}

-- ---- where words stop

record IsSplit (words : List (List ℕ)) (read offset : ℕ) : Type 0 where
  front : take (read + offset) words ≡ take read words ++ take offset (drop read words)
  longer : take (read + offset + 1) words ≡ take read words ++ take (offset + 1) (drop read words)
  behind : length (drop read words) ≡ length words - read

split-at : (words : List (List ℕ)) (read offset : ℕ) → IsSplit words read offset
split-at words read offset = record {
  front = take-add read offset words;
  longer = ap (λ n. take n words) (later read offset) ∙ take-add read (offset + 1) words;
  behind = length-drop read words;
}
  where
    later : (a b : ℕ) → a + b + 1 ≡ a + (b + 1)
    later a b = omega arith

-- ways to be at fault
at-word : (words : List (List ℕ)) (place : ℕ) → not (nat_lt place (length words)) ≡ false → place < length words
at-word words place h = grind (arith, nat_tests)

at-end : (words : List (List ℕ)) (place : ℕ) → place ≤ length words → not (nat_lt place (length words)) ≡ true
    → place ≡ length words
at-end words place within h = grind (arith, nat_tests)

-- what stops at a word of the piece
stop-by-word : (verb : Verb) (words : List (List ℕ)) (given : List Given) (read offset : ℕ) (why : Why)
    → given_in verb (take read words) ≡ Some given → read ≤ length words → read + offset < length words
    → Explains verb given (take (offset + 1) (drop read words)) why
    → GoesOn verb (take read words ++ take offset (drop read words))
    → ((more : List (List ℕ)) → hunt_by verb (take read words ++ (take (offset + 1) (drop read words) ++ more)) ≡ None)
    → StopsAfter verb words (read + offset) why
stop-by-word verb words given read offset why gives within below told goes stuck =
    let s = split-at words read offset in
    let stuck-all : (more : List (List ℕ)) → hunt_by verb (take (read + offset + 1) words ++ more) ≡ None = λ more.
    rw (s.longer, append_assoc (take read words) (take (offset + 1) (drop read words)) more) (stuck more) in
    record {
      given = given;
      read = read;
      offset = offset;
      place_is = refl;
      gives = gives;
      read_within = within;
      told = told;
      within = omega (arith, below);
      none = ap (hunt_by verb) (sym (take-append-drop (read + offset + 1) words))
          ∙ stuck-all (drop (read + offset + 1) words);
      goes_on = rw s.front goes;
      stuck = λ _. stuck-all;
    }

-- the options alone
first-goes-on : (verb : Verb) (words : List (List ℕ)) (given : List Given) (read : ℕ)
    → IsCut verb (take read words) given
    → GoesOn verb (take read words ++ take 0 (drop read words))
first-goes-on verb words given read cut =
    rw (append-nil (take read words)) (cut-goes-on verb (take read words) given cut)

behind-word : (words : List (List ℕ)) (read offset : ℕ) → read ≤ length words → offset < length (drop read words)
    → read + offset < length words
behind-word words read offset within h = let is = length-drop read words in omega arith

-- the first word behind the options is at fault
stop-first : (verb : Verb) (words : List (List ℕ)) (given : List Given) (read place : ℕ) (why : Why) (word : List ℕ)
    → IsCut verb (take read words) given → read ≤ length words → Stops verb given (drop read words) place why
    → is_at_end why ≡ false → take (place + 1) (drop read words) ≡ word ∷ []
    → ((more : List (List ℕ)) → hunt_by verb (take read words ++ word ∷ more) ≡ None)
    → StopsAfter verb words (read + place) why
stop-first verb words given read place why word cut within stops word-so is stuck =
    let below = at-word (drop read words) place (stops.end ∙ word-so) in
    let first = stops.first below in
    by place first stops.told (behind-word words read place within below) is
  where
    by : (place : ℕ) → place ≡ 0 → Explains verb given (take (place + 1) (drop read words)) why
        → read + place < length words → take (place + 1) (drop read words) ≡ word ∷ []
        → StopsAfter verb words (read + place) why
    by zero first told below is =
        stop-by-word verb words given read 0 why cut.gives within below told (first-goes-on verb words given read cut)
        (λ more. rw is (stuck more))
    by (suc n) first told below is = absurd (cc)

-- a name alone makes no option
no-alone : (verb : Verb) (word : List ℕ) → takes_value verb word ≡ true → is_flag verb word ≡ false
    → alone verb word ≡ None
no-alone verb word takes flagless = by (has-equals word) refl
  where
    by : (b : Bool) → has-equals word ≡ b → alone verb word ≡ None
    by true is = absurd (true≢false (sym takes ∙ joined-takes verb word is))
    by false is =
        alone-bare verb word (bare-so word is)
        ∙ no-flag verb (name_part word) (ap (is_flag verb) (bare word is) ∙ flagless)

last-none : (verb : Verb) (word : List ℕ) → alone verb word ≡ None → given_in verb (word ∷ []) ≡ None
unfolding given_in
last-none verb word none = rw none refl

none-of : {A : Type 0} (o : Option A) → o ≡ None → is_some o ≡ false
none-of None h = refl
none-of (Some a) h = absurd (cc)

pub next-stops : (verb : Verb) (words : List (List ℕ)) (given : List Given) (read place : ℕ) (why : Why)
    → IsCut verb (take read words) given → read ≤ length words → Stops verb given (drop read words) place why
    → StopsAfter verb words (read + place) why
next-stops verb words given read place why cut within stops = by why stops stops.told
  where
    by : (why : Why) → Stops verb given (drop read words) place why
        → Explains verb given (take (place + 1) (drop read words)) why → StopsAfter verb words (read + place) why
    by NotAnOption stops (word, is, takes, flagless) =
        stop-first verb words given read place NotAnOption word cut within stops refl is
        (λ more. stuck-cut verb (take read words) (word ∷ more) given cut.gives
        (stuck-name verb word more takes (λ _. flagless)))
    by (FlagWithValue name) stops (word, is, named_so, takes, joined) =
        stop-first verb words given read place (FlagWithValue name) word cut within stops refl is
        (λ more. stuck-cut verb (take read words) (word ∷ more) given cut.gives
        (stuck-name verb word more takes (λ none. absurd (joined none))))
    by (Twice name) stops (word, is, named_so, there) =
        stop-first verb words given read place (Twice name) word cut within stops refl is
        (λ more. stuck-twice verb (take read words) word more given name cut.gives named_so there)
    by (AtOdds a b) stops (word, name, is, named_so, odd) =
        stop-first verb words given read place (AtOdds a b) word cut within stops refl is
        (λ more. stuck-odd verb (take read words) word more given name (a, b) cut.gives named_so odd)
    by (NoValue name) stops (word, is, named_so, takes, flagless, new, apart) =
        let end = at-end (drop read words) place stops.within stops.end in
        let s = split-at words read place in
        let all : take place (drop read words) ≡ word ∷ [] =
        rw end (take-length (drop read words))
        ∙ sym (take_all (place + 1) (drop read words) (omega (arith, end))) ∙ is in
        let len = s.behind in
        let last : read + place ≡ length words = omega (arith, end, len, within) in
        let whole : words ≡ take read words ++ word ∷ [] =
        sym (take-length words) ∙ ap (λ n. take n words) (sym last) ∙ s.front ∙ ap (λ w. take read words ++ w) all in
        let alone_none = no-alone verb word takes flagless in
        let own = name-word word name named_so in
        record {
          given = given;
          read = read;
          offset = place;
          place_is = refl;
          gives = cut.gives;
          read_within = within;
          told = stops.told;
          within = omega (arith, last);
          none = ap (hunt_by verb) whole
              ∙ stuck-cut verb (take read words) (word ∷ []) given cut.gives (last-none verb word alone_none);
          goes_on = rw (s.front, all) (name-goes-on verb (take read words) given word name cut own alone_none takes new
              (none-of (odd_pair verb (given ++ one name [] ∷ [])) apart));
          stuck = λ below. absurd (omega (arith, below, last));
        }
    by (OutOfRange name least most) stops told = absurd (let no = stops.of_name in cc)
    by (NoNumber name) stops told = absurd (let no = stops.of_name in cc)
    by (NoSuchValue name) stops told = absurd (let no = stops.of_name in cc)
    by TooMany stops told = absurd (let no = stops.of_name in cc)
    by NoMachine stops told = absurd (let no = stops.of_name in cc)
    by (Lacks missing) stops told = absurd (let no = stops.of_name in cc)

-- ---- a value is at fault

refusal-told : (verb : Verb) (given : List Given) (piece : List (List ℕ)) (name : Name) (text : List ℕ) (why : Why)
    → given_in verb piece ≡ Some (one name text ∷ []) → has_machine verb (given ++ one name text ∷ []) ≡ false
    → Refuses given name text why → Explains verb given piece why
refusal-told verb given piece name text why gives machine refuses = by why refuses
  where
    other : (why : Why) → why ≡ refusal name text → is_of_name why ≡ false
    other why is = rw is (kind (range name) (is_numeral text))
      where
        kind : (r : Option (ℕ × ℕ)) (b : Bool) → is_of_name (elim r as (λ _. Why) [
          | None ↦ NoSuchValue name
          | Some r ↦ cond b (OutOfRange name r.0 r.1) (NoNumber name)
        ]) ≡ false
        kind None b = refl
        kind (Some r) true = refl
        kind (Some r) false = refl

    not-lacks : (missing : Missing) → Lacks missing ≡ refusal name text → ⊥
    not-lacks missing is = kind (range name) (is_numeral text) is
      where
        kind : (r : Option (ℕ × ℕ)) (b : Bool) → Lacks missing ≡ elim r as (λ _. Why) [
          | None ↦ NoSuchValue name
          | Some r ↦ cond b (OutOfRange name r.0 r.1) (NoNumber name)
        ] → ⊥
        kind None b h = cc
        kind (Some r) true h = cc
        kind (Some r) false h = cc

    by : (why : Why) → Refuses given name text why → Explains verb given piece why
    by NotAnOption h = absurd (let no = other NotAnOption h.1 in cc)
    by (FlagWithValue n) h = absurd (let no = other (FlagWithValue n) h.1 in cc)
    by (Twice n) h = absurd (let no = other (Twice n) h.1 in cc)
    by (AtOdds a b) h = absurd (let no = other (AtOdds a b) h.1 in cc)
    by (NoValue n) h = absurd (let no = other (NoValue n) h.1 in cc)
    by (Lacks missing) h = absurd (not-lacks missing h.1)
    by (OutOfRange n least most) h = (name, text, gives, machine, h)
    by (NoNumber n) h = (name, text, gives, machine, h)
    by (NoSuchValue n) h = (name, text, gives, machine, h)
    by TooMany h = (name, text, gives, machine, h)
    by NoMachine h = (name, text, gives, machine, h)

pub value-stops : (verb : Verb) (words : List (List ℕ)) (given : List Given) (read used : ℕ) (name : Name)
    (text : List ℕ) (why : Why) → IsCut verb (take read words) given → read ≤ length words
    → IsNext verb given (drop read words) name text used → has_machine verb (given ++ one name text ∷ []) ≡ false
    → Refuses given name text why → StopsAfter verb words (read + used - 1) why
value-stops verb words given read used name text why cut within next machine refuses = by next.words_are
  where
    len : length (drop read words) ≡ length words - read
    len = length-drop read words

    told : (piece : List (List ℕ)) → given_in verb piece ≡ Some (one name text ∷ []) → Explains verb given piece why
    told piece gives = refusal-told verb given piece name text why gives machine refuses

    stuck : (more : List (List ℕ)) → hunt_by verb (take read words ++ (take used (drop read words) ++ more)) ≡ None
    stuck more =
        stuck-machine verb (take read words) (take used (drop read words)) more given (one name text) cut.gives
        next.gives machine

    here : read ≤ length words
    here = within

    by : (used ≡ 1) ⊎ (used ≡ 2) × IsNamed verb (drop read words) name → StopsAfter verb words (read + used - 1) why
    by (inl one_word) =
        let place : read + used - 1 ≡ read + 0 = omega (arith, one_word) in
        rw place (stop-by-word verb words given read 0 why cut.gives within
        (omega (arith, one_word, len, next.within, within))
        (told (take (0 + 1) (drop read words)) (rw (one_word) at next.gives))
        (first-goes-on verb words given read cut) (λ more. rw (one_word) at (stuck more)))
    by (inr (two_words, n)) =
        let place : read + used - 1 ≡ read + 1 = omega (arith, two_words) in
        rw place (stop-by-word verb words given read 1 why cut.gives within
        (omega (arith, two_words, len, next.within, within))
        (told (take (1 + 1) (drop read words)) (rw (two_words) at next.gives))
        (rw n.first (name-goes-on verb (take read words) given (word_of name) name cut refl n.no_more n.takes next.new
        (none-of (odd_pair verb (given ++ one name [] ∷ [])) next.goes_with)))
        (λ more. rw (two_words) at (stuck more)))

-- ---- an option more

pub next-cut : (verb : Verb) (words : List (List ℕ)) (given : List Given) (read used : ℕ) (name : Name) (text : List ℕ)
    → IsCut verb (take read words) given → read ≤ length words
    → IsNext verb given (drop read words) name text used → has_machine verb (given ++ one name text ∷ []) ≡ true
    → IsCut verb (take (read + used) words) (given ++ one name text ∷ [])
next-cut verb words given read used name text cut within next machine = record {
  gives =
      ap (given_in verb) (take-add read used words)
      ∙ given-append verb (take read words) (take used (drop read words)) given cut.gives ∙ rw next.gives refl;
  once = once-more (word_of name) text given cut.once next.new;
  may_go_on =
      and_from _ _
      (ap not (ap is_some (pair-text verb given name text [])
      ∙ none-of (odd_pair verb (given ++ one name [] ∷ [])) next.goes_with))
      machine;
}

pub none-cut : (verb : Verb) → IsCut verb [] []
unfolding given_in
none-cut verbs.First = record { gives = refl; once = refl; may_go_on = refl }
none-cut verbs.Table = record { gives = refl; once = refl; may_go_on = refl }
none-cut verbs.Small = record { gives = refl; once = refl; may_go_on = refl }
none-cut verbs.Words = record { gives = refl; once = refl; may_go_on = refl }
none-cut verbs.Record = record { gives = refl; once = refl; may_go_on = refl }

-- ---- the end is at fault

by-cut : (verb : Verb) (words : List (List ℕ)) (given : List Given) (o : Option Hunt) → IsCut verb words given
    → hunt_of verb given ≡ o → hunt_by verb words ≡ o
unfolding hunt_by
by-cut verb words given o cut is = rw (cut.gives, cut.once) is

pub end-stops : (verb : Verb) (words : List (List ℕ)) (given : List Given) (missing : Missing) → IsCut verb words given
    → hunt_of verb given ≡ None → IsMissing verb given missing → StopsAfter verb words (length words) (Lacks missing)
end-stops verb words given missing cut none is = record {
  given = given;
  read = length words;
  offset = 0;
  place_is = omega arith;
  gives = rw (take-length words) cut.gives;
  read_within = omega arith;
  told = (ap (take 1) (drop_of_length-le words (omega arith)), is);
  within = omega arith;
  none = by-cut verb words given None cut none;
  goes_on = rw (take-length words) (cut-goes-on verb words given cut);
  stuck = λ below. absurd (omega (arith, below));
}

pub end-means : (verb : Verb) (words : List (List ℕ)) (given : List Given) → IsCut verb words given
    → hunt_of verb given ≢ None → hunt_by verb words ≢ None
end-means verb words given cut some none = some (from (hunt_of verb given) refl)
  where
    from : (o : Option Hunt) → hunt_of verb given ≡ o → o ≡ None
    from None is = refl
    from (Some hunt) is = absurd (clash (by-cut verb words given (Some hunt) cut is))
      where
        clash : hunt_by verb words ≡ Some hunt → ⊥
        clash h = cc

-- what is missing of cores and words
pub missing-words : (verb : Verb) (words : List (List ℕ)) (given : List Given) → IsCut verb words given
    → hunt_of verb given ≡ None → lacks verb given ≡ None
    → (has named.Cores given ≡ true) ⊎ (suits verb given cores_default ≡ true) → has named.Words given ≡ false
missing-words verb words given cut none whole cores =
    false_from_ne_true (has named.Words given) (λ there. by there cores)
  where
    clash : (hunt : Hunt) → hunt_of verb given ≡ Some hunt → ⊥
    clash hunt h = cc

    apart : is_some (odd_pair verb given) ≡ false
    apart = (open-parts verb given cut.may_go_on).0

    with-cores : has named.Words given ≡ true → has named.Cores given ≡ true → ⊥
    with-cores there cores =
        let m = range-passes (suits verb given) 1 CORES_MAX (open-parts verb given cut.may_go_on).1 in
        let high = m.2 in
        let made = hunt-made verb given m.0 m.1 (omega arith) (cores-named verb given m.0 m.3 cores)
        (words-named verb given m.0 m.3 there) apart m.3 whole in
        clash made.0 made.1

    default : (o : Option (List ℕ)) → is_some o ≡ false
        → elim o as (λ _. Option ℕ) [ Some text ↦ number_between 1 CORES_MAX text | None ↦ Some cores_default ] ≡ Some 1
    default None h = refl
    default (Some t) h = absurd (cc)

    with-one : has named.Words given ≡ true → suits verb given cores_default ≡ true → (b : Bool)
        → has named.Cores given ≡ b → ⊥
    with-one there one_core true h = with-cores there h
    with-one there one_core false h =
        let made = hunt-made verb given 1 (omega arith) (omega arith) (default (text_of named.Cores given) h)
        (words-named verb given 1 one_core there) apart one_core whole in
        clash made.0 made.1

    by : has named.Words given ≡ true → (has named.Cores given ≡ true) ⊎ (suits verb given cores_default ≡ true) → ⊥
    by there (inl cores) = with-cores there cores
    by there (inr one_core) = with-one there one_core (has named.Cores given) refl

-- ---- all words

not-none : (hunt : Hunt) → Some hunt ≡ None → ⊥
not-none hunt h = cc

meant : (first : List ℕ) (verb : Verb) (rest : List (List ℕ)) → verb_named first ≡ Some verb
    → meaning (first ∷ rest) ≡ hunt_by verb rest
meant first verb rest named_so = rw named_so refl

-- a front of a viable front is viable
shorter : (words : List (List ℕ)) (n k : ℕ) → k ≤ n → IsViable (take n words) → IsViable (take k words)
shorter words n k within (more, some) =
    let cut : take n words ≡ take k words ++ take (n - k) (drop k words) =
    ap (λ m. take m words) (sum k n within) ∙ take-add k (n - k) words in (
      take (n - k) (drop k words) ++ more,
      λ none. some (ap (λ w. meaning (w ++ more)) cut
          ∙ ap meaning (append_assoc (take k words) (take (n - k) (drop k words)) more) ∙ none),
    )
  where
    sum : (k n : ℕ) → k ≤ n → n ≡ k + (n - k)
    sum k n h = omega arith

one-later : (first : List ℕ) (rest : List (List ℕ)) (n : ℕ) → take (n + 1) (first ∷ rest) ≡ first ∷ take n rest
one-later first rest n = rw add-one refl

pub fault-after : (first : List ℕ) (verb : Verb) (rest : List (List ℕ)) (place : ℕ) (why : Why)
    → verb_named first ≡ Some verb → StopsAfter verb rest place why → IsFaultAt (first ∷ rest) (place + 1)
fault-after first verb rest place why named_so s =
    let viable : IsViable (take (place + 1) (first ∷ rest)) =
    rw (one-later first rest place) (
      s.goes_on.0,
      λ none. not-none s.goes_on.1 (sym s.goes_on.2
          ∙ sym (meant first verb (take place rest ++ s.goes_on.0) named_so) ∙ none),
    ) in
    let inside = s.within in
    record {
      means_nothing = meant first verb rest named_so ∙ s.none;
      within = omega (arith, inside);
      viable = λ k h. shorter (first ∷ rest) (place + 1) k h viable;
      stops = λ below goes. stuck-not (s.stuck (omega (arith, below))) (rw (one-later first rest (place + 1)) at goes);
    }
  where
    stuck-not : ((more : List (List ℕ)) → hunt_by verb (take (place + 1) rest ++ more) ≡ None)
        → IsViable (first ∷ take (place + 1) rest) → ⊥
    stuck-not stuck (more, some) = some (meant first verb (take (place + 1) rest ++ more) named_so ∙ stuck more)

pub tells-after : (first : List ℕ) (verb : Verb) (rest : List (List ℕ)) (place : ℕ) (why : Why)
    → verb_named first ≡ Some verb → StopsAfter verb rest place why
    → Tells (first ∷ rest) (InOptions verb (place + 1) why)
tells-after first verb rest place why named_so s =
    let at = split-at rest s.read s.offset in (
      s.given,
      take (s.offset + 1) (drop s.read rest),
      record {
        first = first;
        before = take s.read rest;
        words_are = one-later first rest (place + 1)
            ∙ ap (λ w. first ∷ w) (ap (λ n. take (n + 1) rest) s.place_is ∙ at.longer);
        names = named_so;
        gives = s.gives;
      },
      s.told,
    )

-- some list of words asks for something
some-hunt : IsViable []
some-hunt =
    let goes = cut-goes-on verbs.Words [] [] (none-cut verbs.Words) in
    (codes "words" ∷ goes.0, λ none. not-none goes.1 (sym goes.2 ∙ none))

pub no-verb : IsFaultAt [] 0
no-verb = record {
  means_nothing = refl;
  within = omega arith;
  viable = λ k h. let none : k ≡ 0 = omega (arith, h) in rw none some-hunt;
  stops = λ below. absurd (omega (arith, below));
}

pub not-a-verb : (first : List ℕ) (rest : List (List ℕ)) → verb_named first ≡ None → IsFaultAt (first ∷ rest) 0
not-a-verb first rest none = record {
  means_nothing = rw none refl;
  within = omega arith;
  viable = λ k h. let first-one : k ≡ 0 = omega (arith, h) in rw first-one some-hunt;
  stops = λ below goes. goes.1 (rw none refl);
}
