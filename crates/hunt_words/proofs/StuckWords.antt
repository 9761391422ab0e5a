-- Words that no hunt comes of, whatever follows them.
use Rattle.std.proofs.Common.{◌≡◌, ℕ, Bool, true, false, List, [], ◌∷◌, ◌++◌, Option, Some, None, refl, sym, ap, ◌∙◌}
use Rattle.std.proofs.Common.{append_assoc, cond, is_some}
use Rattle.std.specs.List.{after_first}
use Rattle.tool_words.specs.Reading.{is_equals}
use Rattle.tool_words.specs.Stops.{joined_value}
use Rattle.hunt_words.specs.declared.hunt.Hunt.{Hunt}
use Rattle.hunt_words.specs.declared.names.Name.{Name}
use Rattle.hunt_words.specs.declared.verbs.Verb.{Verb}
use Rattle.hunt_words.specs.Faults.{name_part}
use Rattle.hunt_words.specs.Given.{Given, alone, are_each_once, flag, given_in, prepend, valued}
use Rattle.hunt_words.specs.Meaning.{hunt_by}
use Rattle.hunt_words.specs.Names.{name_in, word_of}
use Rattle.hunt_words.specs.Options.{passing}
use Rattle.tool_words.proofs.Chains.{if-some}
use Rattle.hunt_words.specs.Open.{has, has_machine, is_open, odd_pair, one}
use Rattle.hunt_words.specs.Verbs.{is_flag, takes_value}
use Rattle.hunt_words.proofs.GivenCuts.{after-all, given-append, prepended}
use Rattle.hunt_words.proofs.GivenLemmas.{given_alone, given_pair}
use Rattle.hunt_words.proofs.GivenTexts.{once-before}
use Rattle.hunt_words.proofs.HuntsOpen.{hunt-open}
use Rattle.hunt_words.proofs.OpenGoesOn.{open-parts, pair-text}
use Rattle.hunt_words.proofs.OptionLists.{bind-some, some-is-false}
use Rattle.hunt_words.proofs.SuitedMachines.{front-apart, front-machine}
use Rattle.hunt_words.proofs.OptionNames.{alone-bare, alone-joined, bare, bare-so, has-equals, joined-so, joined-takes}
use Rattle.hunt_words.proofs.OptionNames.{name-word, no-flag, no-valued}

-- ---- words that make no option

stuck-word : (verb : Verb) (word : List ℕ) (more : List (List ℕ)) → alone verb word ≡ None
    → takes_value verb word ≡ false
    → given_in verb (word ∷ more) ≡ None
unfolding given_in
stuck-word verb word [] none takes = rw none refl
stuck-word verb word (next ∷ rest) none takes = given_pair verb word next rest none ∙ rw takes refl

-- a word whose name with this value, or without one, makes no option
pub stuck-name : (verb : Verb) (word : List ℕ) (more : List (List ℕ)) → takes_value verb (name_part word) ≡ false
    → ((joined_value word ≡ None) → is_flag verb (name_part word) ≡ false) → given_in verb (word ∷ more) ≡ None
stuck-name verb word more takes flagless = by (has-equals word) refl
  where
    by : (b : Bool) → has-equals word ≡ b → given_in verb (word ∷ more) ≡ None
    by true is =
        stuck-word verb word more
        (alone-joined verb word (after_first is_equals word) (joined-so word is)
        ∙ no-valued verb (name_part word) (after_first is_equals word) takes) (joined-takes verb word is)
    by false is =
        stuck-word verb word more
        (alone-bare verb word (bare-so word is) ∙ no-flag verb (name_part word) (flagless (bare-so word is)))
        (ap (takes_value verb) (sym (bare word is)) ∙ takes)

-- ---- the option that a word begins

record Begins (verb : Verb) (name : Name) (given : List Given) : Type 0 where
  text : List ℕ
  rest : List Given
  is : given ≡ one name text ∷ rest

named-one : (o : Given) (name : Name) → o.name ≡ word_of name → o ≡ one name o.text
named-one o name h =
    let is : o ≡ record { name = o.name; text = o.text } = refl in
    is ∙ ap (λ n. record { name = n; text = o.text }) h

begins-alone : (verb : Verb) (word : List ℕ) (name : Name) (o : Given) → alone verb word ≡ Some o
    → name_part word ≡ word_of name → o.name ≡ word_of name
begins-alone verb word name o h same = by (joined_value word) h
  where
    by : (j : Option (List ℕ)) → elim j as (λ _. Option Given) [
      | Some text ↦ valued verb (name_part word) text
      | None ↦ flag verb (name_part word)
    ] ≡ Some o → o.name ≡ word_of name
    by (Some text) k = valued-name (takes_value verb (name_part word)) k
      where
        valued-name : (b : Bool) → cond b (Some (record { name = name_part word; text = text })) None ≡ Some o
            → o.name ≡ word_of name
        valued-name true k = let is : name_part word ≡ o.name = cc in sym is ∙ same
        valued-name false k = absurd (cc)
    by None k = flag-name (is_flag verb (name_part word)) k
      where
        flag-name : (b : Bool) → cond b (Some (record { name = name_part word; text = [] })) None ≡ Some o
            → o.name ≡ word_of name
        flag-name true k = let is : name_part word ≡ o.name = cc in sym is ∙ same
        flag-name false k = absurd (cc)

begins : (verb : Verb) (word : List ℕ) (name : Name) (more : List (List ℕ)) (given : List Given)
    → name_in (name_part word) ≡ Some name → given_in verb (word ∷ more) ≡ Some given → Begins verb name given
unfolding given_in
begins verb word name more given named_so h = by (alone verb word) refl
  where
    same : name_part word ≡ word_of name
    same = name-word (name_part word) name named_so

    by : (o : Option Given) → alone verb word ≡ o → Begins verb name given
    by (Some o) is =
        let p = prepended (Some o) (given_in verb more) given (sym (given_alone verb word more o is) ∙ h) in
        let own : o ≡ p.0 = cc in
        record {
          text = o.text;
          rest = p.1;
          is = sym p.4 ∙ ap (λ x. x ∷ p.1) (sym own ∙ named-one o name (begins-alone verb word name o is same));
        }
    by None is = pair more h
      where
        whole : (b : Bool) → has-equals word ≡ b → takes_value verb word ≡ true → word ≡ word_of name
        whole true e t = absurd (clash (joined-takes verb word e) t)
          where
            clash : takes_value verb word ≡ false → takes_value verb word ≡ true → ⊥
            clash a b = cc
        whole false e t = sym (bare word e) ∙ same

        pair : (more : List (List ℕ)) → given_in verb (word ∷ more) ≡ Some given → Begins verb name given
        pair [] k = absurd (let none : prepend (alone verb word) (Some []) ≡ Some given = k in clash (rw (is) at none))
          where
            clash : None ≡ Some given → ⊥
            clash h = cc
        pair (next ∷ rest) k =
            let p = prepended (valued verb word next) (given_in verb rest) given
            (sym (given_pair verb word next rest is) ∙ k) in
            of-valued (takes_value verb word) refl p.0 p.1 p.2 p.4
          where
            of-valued : (b : Bool) → takes_value verb word ≡ b → (o : Given) (after : List Given)
                → cond b (Some (record { name = word; text = next })) None ≡ Some o → o ∷ after ≡ given
                → Begins verb name given
            of-valued true t o after k is =
                let own : record { name = word; text = next } ≡ o = cc in
                let one-named = named-one (record { name = word; text = next }) name (whole (has-equals word) refl t) in
                record {
                  text = next;
                  rest = after;
                  is = sym is ∙ ap (λ x. x ∷ after) (sym own ∙ one-named);
                }
            of-valued false t o after k is = absurd (cc)

-- ---- no hunt

none-if : {A : Type 0} (o : Option A) → ((a : A) → o ≡ Some a → ⊥) → o ≡ None
none-if None h = refl
none-if (Some a) h = absurd (h a refl)

record Comes (verb : Verb) (words : List (List ℕ)) : Type 0 where
  given : List Given
  gives : given_in verb words ≡ Some given
  once : are_each_once given ≡ true
  may_go_on : is_open verb given ≡ true

comes : (verb : Verb) (words : List (List ℕ)) (hunt : Hunt) → hunt_by verb words ≡ Some hunt → Comes verb words
unfolding hunt_by
comes verb words hunt h =
    let p = bind-some (passing are_each_once (given_in verb words)) _ hunt h in
    let g = bind-some (given_in verb words) _ p.0 p.1 in
    let once = if-some (are_each_once g.0) (Some g.0) p.0 g.2 in
    let same : g.0 ≡ p.0 = cc in
    record {
      given = g.0;
      gives = g.1;
      once = once.0;
      may_go_on = hunt-open verb g.0 hunt (rw same p.2);
    }

-- what comes of words after options comes of the options and others
record ComesAfter (verb : Verb) (given : List Given) (rest : List (List ℕ)) : Type 0 where
  others : List Given
  gives : given_in verb rest ≡ Some others
  once : are_each_once (given ++ others) ≡ true
  may_go_on : is_open verb (given ++ others) ≡ true

comes-after : (verb : Verb) (before rest : List (List ℕ)) (given : List Given) (hunt : Hunt)
    → given_in verb before ≡ Some given → hunt_by verb (before ++ rest) ≡ Some hunt → ComesAfter verb given rest
comes-after verb before rest given hunt gives h =
    let c = comes verb (before ++ rest) hunt h in
    by (given_in verb rest) refl c.given (sym (given-append verb before rest given gives) ∙ c.gives) c.once c.may_go_on
  where
    by : (o : Option (List Given)) → given_in verb rest ≡ o → (all : List Given) → after-all given o ≡ Some all
        → are_each_once all ≡ true → is_open verb all ≡ true → ComesAfter verb given rest
    by None is all k once open_so = absurd (cc)
    by (Some others) is all k once open_so =
        let same : given ++ others ≡ all = cc in
        record {
          others = others;
          gives = is;
          once = rw same once;
          may_go_on = rw same open_so;
        }

-- no option
pub stuck-cut : (verb : Verb) (before rest : List (List ℕ)) (given : List Given) → given_in verb before ≡ Some given
    → given_in verb rest ≡ None → hunt_by verb (before ++ rest) ≡ None
stuck-cut verb before rest given gives none =
    none-if (hunt_by verb (before ++ rest)) (λ hunt h.
    let c = comes-after verb before rest given hunt gives h in clash c.others c.gives)
  where
    clash : (others : List Given) → given_in verb rest ≡ Some others → ⊥
    clash others is = cc

-- an option that is given
pub stuck-twice : (verb : Verb) (before : List (List ℕ)) (word : List ℕ) (more : List (List ℕ)) (given : List Given)
    (name : Name) → given_in verb before ≡ Some given → name_in (name_part word) ≡ Some name → has name given ≡ true
    → hunt_by verb (before ++ word ∷ more) ≡ None
stuck-twice verb before word more given name gives named_so there =
    none-if (hunt_by verb (before ++ word ∷ more)) (λ hunt h.
    let c = comes-after verb before (word ∷ more) given hunt gives h in
    let b = begins verb word name more c.others named_so c.gives in
    clash (once-before (word_of name) b.text given b.rest (rw (b.is) at c.once)))
  where
    clash : has name given ≡ false → ⊥
    clash h = cc

-- what is open with others is open with the first of them
first-other : (verb : Verb) (given rest : List Given) (o : Given) → is_open verb (given ++ o ∷ rest) ≡ true
    → is_open verb ((given ++ o ∷ []) ++ rest) ≡ true
first-other verb given rest o h = rw (append_assoc given (o ∷ []) rest) h

pub stuck-odd : (verb : Verb) (before : List (List ℕ)) (word : List ℕ) (more : List (List ℕ)) (given : List Given)
    (name : Name) (pair : Name × Name) → given_in verb before ≡ Some given → name_in (name_part word) ≡ Some name
    → odd_pair verb (given ++ one name [] ∷ []) ≡ Some pair → hunt_by verb (before ++ word ∷ more) ≡ None
stuck-odd verb before word more given name pair gives named_so odd =
    none-if (hunt_by verb (before ++ word ∷ more)) (λ hunt h.
    let c = comes-after verb before (word ∷ more) given hunt gives h in
    let b = begins verb word name more c.others named_so c.gives in
    let o = open-parts verb ((given ++ one name b.text ∷ []) ++ b.rest)
    (first-other verb given b.rest (one name b.text) (rw (b.is) at c.may_go_on)) in
    let apart = front-apart verb (given ++ one name b.text ∷ []) b.rest o.0 in
    some-is-false (odd_pair verb (given ++ one name [] ∷ [])) pair odd
    (ap is_some (pair-text verb given name [] b.text) ∙ apart))

pub stuck-machine : (verb : Verb) (before piece more : List (List ℕ)) (given : List Given) (o : Given)
    → given_in verb before ≡ Some given → given_in verb piece ≡ Some (o ∷ [])
    → has_machine verb (given ++ o ∷ []) ≡ false → hunt_by verb (before ++ (piece ++ more)) ≡ None
stuck-machine verb before piece more given o gives cut none =
    none-if (hunt_by verb (before ++ (piece ++ more))) (λ hunt h.
    let c = comes-after verb before (piece ++ more) given hunt gives h in
    by (given_in verb more) c.others (sym (given-append verb piece more (o ∷ []) cut) ∙ c.gives) c.may_go_on)
  where
    by : (m : Option (List Given)) (others : List Given) → after-all (o ∷ []) m ≡ Some others
        → is_open verb (given ++ others) ≡ true → ⊥
    by None others k open_so = cc
    by (Some rest) others k open_so =
        let same : o ∷ rest ≡ others = cc in
        let parts = open-parts verb ((given ++ o ∷ []) ++ rest) (first-other verb given rest o (rw same open_so)) in
        clash (front-machine verb (given ++ o ∷ []) rest parts.1)
      where
        clash : has_machine verb (given ++ o ∷ []) ≡ true → ⊥
        clash h = cc
