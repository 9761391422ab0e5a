-- The option that words begin with, or why they begin with none.
use Rattle.std.proofs.Common.{◌≡◌, ◌⊎◌, ℕ, Bool, true, false, List, [], ◌∷◌, ◌++◌, Option, Some, None}
use Rattle.std.proofs.Common.{refl, sym, ap, ◌∙◌, arith, length, not, cond, inl, inr, ◌||◌}
use Rattle.std.proofs.lemmas.Bool.{lt-ltb}
use Rattle.tool_words.specs.Stops.{joined_value}
use Rattle.hunt_words.specs.declared.faults.Why.{Why}
use Rattle.hunt_words.specs.declared.faults.Why.TheVariants.{NotAnOption, FlagWithValue, Twice, AtOdds, NoValue}
use Rattle.hunt_words.specs.declared.faults.Why.TheVariants.{OutOfRange, NoNumber, NoSuchValue}
use Rattle.hunt_words.specs.declared.faults.Why.TheVariants.{TooMany, NoMachine, Lacks}
use Rattle.hunt_words.specs.declared.names.Name.{Name}
use Rattle.hunt_words.specs.declared.verbs.Verb.{Verb}
use Rattle.hunt_words.specs.Faults.{Explains, name_part}
use Rattle.hunt_words.specs.Given.{Given, alone, given_in, prepend}
use Rattle.hunt_words.specs.Names.{name_in, word_of}
use Rattle.hunt_words.specs.Open.{has, odd_pair, one}
use Rattle.hunt_words.specs.Stops.{Clashes, IsNext, IsTaken, IsUntaken, Stops, first_of}
use Rattle.hunt_words.specs.Stops.{is_at_end, is_of_name, value_of}
use Rattle.hunt_words.specs.Verbs.{is_flag, takes_value}
use Rattle.hunt_words.proofs.OptionLists.{some-inj}
use Rattle.hunt_words.proofs.OptionNames.{alone-bare, alone-joined, bare, has-equals, name-word, no-flag, not-joined}

-- ---- an option

-- the option that a word makes by itself
word-alone : (verb : Verb) (word : List ℕ) (name : Name) (text : List ℕ) → name_part word ≡ word_of name
    → alone verb word ≡ Some (record { name = name_part word; text = text })
    → given_in verb (word ∷ []) ≡ Some (one name text ∷ [])
unfolding given_in
word-alone verb word name text same h =
    ap (λ (o : Option Given). prepend o (Some [])) h
    ∙ ap (λ (n : List ℕ). Some (record { name = n; text = text } ∷ [])) same

joined-valued : (verb : Verb) (word text : List ℕ) → joined_value word ≡ Some text
    → takes_value verb (name_part word) ≡ true
    → alone verb word ≡ Some (record { name = name_part word; text = text })
joined-valued verb word text is takes =
    alone-joined verb word text is
    ∙ ap (λ (b : Bool). cond b (Some (record { name = name_part word; text = text })) None) takes

bare-flag : (verb : Verb) (word : List ℕ) → joined_value word ≡ None → is_flag verb (name_part word) ≡ true
    → alone verb word ≡ Some (record { name = name_part word; text = [] })
bare-flag verb word is flagged =
    alone-bare verb word is
    ∙ ap (λ (b : Bool). cond b (Some (record { name = name_part word; text = [] })) None) flagged

-- the option that a name makes with the word behind it
pair-gives : (verb : Verb) (word : List ℕ) (name : Name) (text : List ℕ) → word ≡ word_of name → alone verb word ≡ None
    → takes_value verb word ≡ true → given_in verb (word ∷ text ∷ []) ≡ Some (one name text ∷ [])
unfolding given_in
pair-gives verb word name text own none takes =
    rw (none, takes) (ap (λ n. Some (record { name = n; text = text } ∷ [])) own)

or-first : (a b : Bool) → (a || b) ≡ true → b ≡ false → a ≡ true
or-first true b h k = refl
or-first false b h k = absurd (cc)

pub next-is : (verb : Verb) (given : List Given) (word : List ℕ) (following : List (List ℕ)) (name : Name)
    (text : List ℕ) (used : ℕ) → IsTaken verb (name_part word) (joined_value word) name → has name given ≡ false
    → odd_pair verb (given ++ one name [] ∷ []) ≡ None
    → value_of verb (name_part word) (joined_value word) following ≡ Some (text, used)
    → IsNext verb given (word ∷ following) name text used
next-is verb given word following name text used taken new apart h = by (joined_value word) refl taken.bare h
  where
    same : name_part word ≡ word_of name
    same = name-word (name_part word) name taken.named

    single : given_in verb (word ∷ []) ≡ Some (one name text ∷ []) → used ≡ 1
        → IsNext verb given (word ∷ following) name text used
    single gives is = rw is (record {
      within = omega arith;
      gives = gives;
      new = new;
      goes_with = apart;
      words_are = inl refl;
    })

    by : (o : Option (List ℕ)) → joined_value word ≡ o → (takes_value verb (name_part word) ≡ true) ⊎ (o ≡ None)
        → value_of verb (name_part word) o following ≡ Some (text, used)
        → IsNext verb given (word ∷ following) name text used
    by (Some t) is (inr none) k = absurd (cc)
    by (Some t) is (inl takes) k =
        let pair : (t, 1) ≡ (text, used) = some-inj (t, 1) (text, used) k in
        let own : t ≡ text = ap (λ (p : List ℕ × ℕ). p.0) pair in
        let length-one : 1 ≡ used = ap (λ (p : List ℕ × ℕ). p.1) pair in
        single (word-alone verb word name text same
        (joined-valued verb word text (is ∙ ap (λ (x : List ℕ). Some x) own) takes)) (sym length-one)
    by None is bare-so k = flagged (is_flag verb (name_part word)) refl k
      where
        flagged : (b : Bool) → is_flag verb (name_part word) ≡ b
            → cond b (Some ([], 1)) (first_of following) ≡ Some (text, used)
            → IsNext verb given (word ∷ following) name text used
        flagged true f k =
            let pair : ([], 1) ≡ (text, used) = some-inj ([], 1) (text, used) k in
            let own : [] ≡ text = ap (λ (p : List ℕ × ℕ). p.0) pair in
            let length-one : 1 ≡ used = ap (λ (p : List ℕ × ℕ). p.1) pair in
            single (word-alone verb word name text same
            (bare-flag verb word is f ∙ ap (λ (x : List ℕ). Some (record { name = name_part word; text = x })) own))
            (sym length-one)
        flagged false f k = paired following k
          where
            whole : has-equals word ≡ false
            whole = not-joined word is

            takes : takes_value verb (name_part word) ≡ true
            takes = or-first (takes_value verb (name_part word)) (is_flag verb (name_part word)) taken.takes f

            own-word : word ≡ word_of name
            own-word = sym (bare word whole) ∙ same

            alone-none : alone verb word ≡ None
            alone-none = alone-bare verb word is ∙ no-flag verb (name_part word) f

            word-takes : takes_value verb word ≡ true
            word-takes = ap (takes_value verb) (sym (bare word whole)) ∙ takes

            paired : (following : List (List ℕ)) → first_of following ≡ Some (text, used)
                → IsNext verb given (word ∷ following) name text used
            paired [] k = absurd (cc)
            paired (t ∷ rest) k =
                let pair : (t, 2) ≡ (text, used) = some-inj (t, 2) (text, used) k in
                let own : t ≡ text = ap (λ (p : List ℕ × ℕ). p.0) pair in
                let length-two : 2 ≡ used = ap (λ (p : List ℕ × ℕ). p.1) pair in
                rw (sym own, sym length-two) (record {
                  within = omega arith;
                  gives = pair-gives verb word name t own-word alone-none word-takes;
                  new = new;
                  goes_with = apart;
                  words_are = inr (
                    refl,
                    record {
                      first = ap (λ w. w ∷ []) own-word;
                      no_more = rw (← own-word) alone-none;
                      takes = rw (← own-word) word-takes;
                    },
                  );
                })

-- ---- no option

at-first : (verb : Verb) (given : List Given) (word : List ℕ) (following : List (List ℕ)) (why : Why)
    → is_at_end why ≡ false → is_of_name why ≡ true → Explains verb given (word ∷ []) why
    → Stops verb given (word ∷ following) 0 why
at-first verb given word following why end named told = record {
  within = omega arith;
  end = ap not (lt-ltb 0 (length (word ∷ following)) (omega arith)) ∙ sym end;
  first = λ _. refl;
  of_name = named;
  told = told;
}

pub untaken-stops : (verb : Verb) (given : List Given) (word : List ℕ) (following : List (List ℕ)) (why : Why)
    → IsUntaken verb (name_part word) (joined_value word) why → Stops verb given (word ∷ following) 0 why
untaken-stops verb given word following NotAnOption h =
    at-first verb given word following NotAnOption refl refl (word, refl, h.0, h.1)
untaken-stops verb given word following (FlagWithValue name) h =
    at-first verb given word following (FlagWithValue name) refl refl (word, refl, h.0, h.1, h.2)
untaken-stops verb given word following (Twice name) h = absurd h
untaken-stops verb given word following (AtOdds a b) h = absurd h
untaken-stops verb given word following (NoValue name) h = absurd h
untaken-stops verb given word following (OutOfRange name least most) h = absurd h
untaken-stops verb given word following (NoNumber name) h = absurd h
untaken-stops verb given word following (NoSuchValue name) h = absurd h
untaken-stops verb given word following TooMany h = absurd h
untaken-stops verb given word following NoMachine h = absurd h
untaken-stops verb given word following (Lacks missing) h = absurd h

pub clash-stops : (verb : Verb) (given : List Given) (word : List ℕ) (following : List (List ℕ)) (name : Name)
    (why : Why) → name_in (name_part word) ≡ Some name → Clashes verb given name why
    → Stops verb given (word ∷ following) 0 why
clash-stops verb given word following name (Twice option) named_so (is, there) =
    at-first verb given word following (Twice option) refl refl
    (word, refl, rw is named_so, rw is there)
clash-stops verb given word following name (AtOdds a b) named_so odd =
    at-first verb given word following (AtOdds a b) refl refl (word, name, refl, named_so, odd)
clash-stops verb given word following name NotAnOption named_so h = absurd h
clash-stops verb given word following name (FlagWithValue n) named_so h = absurd h
clash-stops verb given word following name (NoValue n) named_so h = absurd h
clash-stops verb given word following name (OutOfRange n least most) named_so h = absurd h
clash-stops verb given word following name (NoNumber n) named_so h = absurd h
clash-stops verb given word following name (NoSuchValue n) named_so h = absurd h
clash-stops verb given word following name TooMany named_so h = absurd h
clash-stops verb given word following name NoMachine named_so h = absurd h
clash-stops verb given word following name (Lacks missing) named_so h = absurd h

pub no-value-stops : (verb : Verb) (given : List Given) (word : List ℕ) (following : List (List ℕ)) (name : Name)
    → IsTaken verb (name_part word) (joined_value word) name → has name given ≡ false
    → odd_pair verb (given ++ one name [] ∷ []) ≡ None
    → value_of verb (name_part word) (joined_value word) following ≡ None
    → Stops verb given (word ∷ following) 1 (NoValue name)
no-value-stops verb given word following name taken new apart h = by (joined_value word) refl h
  where
    by : (o : Option (List ℕ)) → joined_value word ≡ o → value_of verb (name_part word) o following ≡ None
        → Stops verb given (word ∷ following) 1 (NoValue name)
    by (Some t) is k = absurd (cc)
    by None is k = flagged (is_flag verb (name_part word)) refl k
      where
        whole : has-equals word ≡ false
        whole = not-joined word is

        own : name_part word ≡ word
        own = bare word whole

        flagged : (b : Bool) → is_flag verb (name_part word) ≡ b → cond b (Some ([], 1)) (first_of following) ≡ None
            → Stops verb given (word ∷ following) 1 (NoValue name)
        flagged true f k = absurd (cc)
        flagged false f k = none following k
          where
            takes : takes_value verb (name_part word) ≡ true
            takes = or-first (takes_value verb (name_part word)) (is_flag verb (name_part word)) taken.takes f

            none : (following : List (List ℕ)) → first_of following ≡ None
                → Stops verb given (word ∷ following) 1 (NoValue name)
            none (t ∷ rest) k = absurd (cc)
            none [] k = record {
              within = omega arith;
              end = refl;
              first = λ below. absurd (omega (arith, below));
              of_name = refl;
              told = (
                word,
                refl,
                ap name_in (sym own) ∙ taken.named,
                ap (takes_value verb) (sym own) ∙ takes,
                ap (is_flag verb) (sym own) ∙ f,
                new,
                apart,
              );
            }

-- ---- of words as the code holds them

pub untaken-at : (verb : Verb) (given : List Given) (words : List (List ℕ)) (first word option : List ℕ)
    (following : List (List ℕ)) (joined : Option (List ℕ)) (why : Why) → words ≡ first ∷ following → word ≡ first
    → option ≡ name_part word → joined ≡ joined_value word → IsUntaken verb option joined why
    → Stops verb given words 0 why
untaken-at verb given words first word option following joined why is same name_is joined_is h =
    rw is (untaken-stops verb given first following why (rw (name_is, joined_is, same) at h))

pub clash-at : (verb : Verb) (given : List Given) (words : List (List ℕ)) (first word option : List ℕ)
    (following : List (List ℕ)) (joined : Option (List ℕ)) (name : Name) (why : Why) → words ≡ first ∷ following
    → word ≡ first → option ≡ name_part word → IsTaken verb option joined name → Clashes verb given name why
    → Stops verb given words 0 why
clash-at verb given words first word option following joined name why is same name_is taken h =
    rw is (clash-stops verb given first following name why (rw (name_is, same) at taken.named) h)

pub no-value-at : (verb : Verb) (given : List Given) (words : List (List ℕ)) (first word option : List ℕ)
    (following : List (List ℕ)) (joined : Option (List ℕ)) (name : Name) → words ≡ first ∷ following → word ≡ first
    → option ≡ name_part word → joined ≡ joined_value word → IsTaken verb option joined name → has name given ≡ false
    → odd_pair verb (given ++ one name [] ∷ []) ≡ None → value_of verb option joined following ≡ None
    → Stops verb given words 1 (NoValue name)
no-value-at verb given words first word option following joined name is same name_is joined_is taken new apart h =
    rw is (no-value-stops verb given first following name (rw (name_is, joined_is, same) at taken) new apart
    (rw (name_is, joined_is, same) at h))

pub next-at : (verb : Verb) (given : List Given) (words : List (List ℕ)) (first word option : List ℕ)
    (following : List (List ℕ)) (joined : Option (List ℕ)) (name : Name) (text : List ℕ) (used : ℕ)
    → words ≡ first ∷ following → word ≡ first → option ≡ name_part word → joined ≡ joined_value word
    → IsTaken verb option joined name → has name given ≡ false → odd_pair verb (given ++ one name [] ∷ []) ≡ None
    → value_of verb option joined following ≡ Some (text, used) → IsNext verb given words name text used
next-at verb given words first word option following joined name text used is same name_is joined_is taken new apart h =
    rw is (next-is verb given first following name text used (rw (name_is, joined_is, same) at taken) new apart
    (rw (name_is, joined_is, same) at h))
