-- Words that spell settings are cut into these, and words that are cut into settings spell them.
use Rattle.std.proofs.Common.{◌≡◌, ℕ, ◌+◌, ◌==◌, Bool, true, false, List, [], ◌∷◌, ◌++◌, Option, Some, None, refl}
use Rattle.std.proofs.Common.{sym, ap, ◌∙◌, subst}
use Rattle.std.proofs.Common.{cond, is_some, length, not, arith, append_assoc, get_or, inl, inr, nat_lt}
use Rattle.std.specs.Option.{option_and_then}
use Rattle.std.specs.List.{after_first, before_first, position_or_len}
use Rattle.std.proofs.Math.Seq.{take-append_seam, drop-append-add}
use Rattle.std.proofs.lemmas.Bool.Decides.{nat_tests}
use Rattle.std.proofs.lemmas.List.{length-append}
use Rattle.std.proofs.lemmas.List.Folds.{prefix_len-append}
use Rattle.std.proofs.lemmas.List.Sums.{passes_at_first, split_at_first}
use Rattle.tool_words.specs.Commands.{verb_named}
use Rattle.tool_words.specs.Options.{option_named, option_of, takes, takes_value}
use Rattle.tool_words.specs.Reading.{Set, alone, flag, is_equals, prepend, settings, valued}
use Rattle.words_laws.specs.Grammar.{AreSpelled, Spells, apart, joined}
use Rattle.tool_words.proofs.Plain.{IsPlain, names-are-plain}
use Rattle.tool_words.proofs.Chains.{begins, one-of-two, part-is, prepend-more, prepend-none, prepend_all, prepended}

-- ---- one word

-- the first `=` after a word without one
seam : (word text : List ℕ) → IsPlain word → position_or_len is_equals (word ++ 61 ∷ text) ≡ length word
seam word text plain =
    let whole : position_or_len is_equals (word ++ 61 ∷ text) ≡ cond (position_or_len is_equals word == length word)
    (length word + 0)
    (position_or_len is_equals word) = prefix_len-append (λ x. not (is_equals x)) word (61 ∷ text) in
    grind (arith, nat_tests)

name-before : (word text : List ℕ) → IsPlain word → before_first is_equals (word ++ 61 ∷ text) ≡ word
name-before word text plain = rw (seam word text plain) (take-append_seam word (61 ∷ text))

text-after : (word text : List ℕ) → IsPlain word → after_first is_equals (word ++ 61 ∷ text) ≡ text
text-after word text plain = rw (seam word text plain) (drop-append-add word (61 ∷ text) 1)

-- an option's name is plain
option-name : (verb : _) (name : List ℕ) → is_some (option_of verb name) ≡ true → IsPlain name
option-name verb name h = names-are-plain name (begins (λ n. cond (takes verb n) (Some n) None) (option_named name) h)

value-name : (verb : _) (name text : List ℕ) (set : Set) → valued verb name text ≡ Some set → IsPlain name
value-name verb name text set h = option-name verb name
    (begins {B = Set} (λ n. cond (takes_value n) (Some (record { name = n; text = text })) None) (option_of verb name)
    (ap is_some h))

flag-name : (verb : _) (name : List ℕ) (set : Set) → flag verb name ≡ Some set → IsPlain name
flag-name verb name set h = option-name verb name
    (begins {B = Set} (λ n. cond (takes_value n) None (Some (record { name = n; text = [] }))) (option_of verb name)
    (ap is_some h))

-- a name and its value in one word
alone-joined : (verb : _) (word text : List ℕ) → IsPlain word → alone verb (word ++ 61 ∷ text) ≡ valued verb word text
alone-joined verb word text plain =
    let first = seam word text plain in
    let long = length-append word (61 ∷ text) in
    let less : nat_lt (position_or_len is_equals (word ++ 61 ∷ text)) (length (word ++ 61 ∷ text)) ≡ true = grind
    (arith, nat_tests) in
    rw (less, name-before word text plain, text-after word text plain) refl

-- a word without `=` makes a setting by itself where it is a flag
alone-flag : (verb : _) (word : List ℕ) → IsPlain word → alone verb word ≡ flag verb word
alone-flag verb word plain =
    let less : nat_lt (position_or_len is_equals word) (length word) ≡ false = grind (arith, nat_tests) in
    rw less refl

no-flag : (verb : _) (name text : List ℕ) (set : Set) → valued verb name text ≡ Some set → flag verb name ≡ None
no-flag verb name text set h =
    one-of-two {B = Set} takes_value (λ n. record { name = n; text = text }) (λ n. record { name = n; text = [] })
    (option_of verb name) set h

value-text : (verb : _) (name text : List ℕ) (set : Set) → valued verb name text ≡ Some set → set.text ≡ text
value-text verb name text set h =
    part-is {B = Set} takes_value (λ n. record { name = n; text = text }) (λ (s : Set). s.text) text (λ n. refl)
    (option_of verb name) set h

-- ---- the front of words

by-alone : (verb : _) (word : List ℕ) (rest : List (List ℕ)) (set : Set) → alone verb word ≡ Some set →
    settings verb (word ∷ rest) ≡ prepend (Some set) (settings verb rest)
unfolding settings
by-alone verb word [] set h = rw h refl
by-alone verb word (next ∷ rest) set h = rw h refl

by-pair : (verb : _) (word next : List ℕ) (rest : List (List ℕ)) (set : Set) → alone verb word ≡ None
    → valued verb word next ≡ Some set →
    settings verb (word ∷ next ∷ rest) ≡ prepend (Some set) (settings verb rest)
unfolding settings
by-pair verb word next rest set h k = rw (h, k) refl

pub when-joined : (verb : _) (name text : List ℕ) (rest : List (List ℕ)) (set : Set) → valued verb name text ≡ Some
    set →
    settings verb (joined name text ++ rest) ≡ prepend (Some set) (settings verb rest)
when-joined verb name text rest set h =
    by-alone verb (name ++ 61 ∷ text) rest set (alone-joined verb name text (value-name verb name text set h) ∙ h)

pub when-apart : (verb : _) (name text : List ℕ) (rest : List (List ℕ)) (set : Set) → valued verb name text ≡ Some set →
    settings verb (apart name text ++ rest) ≡ prepend (Some set) (settings verb rest)
when-apart verb name text rest set h =
    by-pair verb name text rest set (alone-flag verb name (value-name verb name text set h) ∙ no-flag verb name text
    set h) h

-- words that spell a setting are cut into it
pub front : (first : List ℕ) (verb : _) (piece rest : List (List ℕ)) (set : Set) → verb_named first ≡ Some verb
    → Spells first piece set →
    settings verb (piece ++ rest) ≡ prepend (Some set) (settings verb rest)
front first verb piece rest set is (name, inl (made, inl shape)) =
    rw shape (when-joined verb name set.text rest set (rw is at made))
front first verb piece rest set is (name, inl (made, inr shape)) =
    rw shape (when-apart verb name set.text rest set (rw is at made))
front first verb piece rest set is (name, inr (made, shape)) =
    let flagged = rw is at made in
    rw shape (by-alone verb name rest set (alone-flag verb name (flag-name verb name set flagged) ∙ flagged))

-- words that spell settings are cut into these
pub fronts : (first : List ℕ) (verb : _) (sets : List Set) (before rest : List (List ℕ)) → verb_named first ≡ Some
    verb →
    AreSpelled first before sets → settings verb (before ++ rest) ≡ prepend_all sets (settings verb rest)
fronts first verb [] before rest is none = rw none (sym (prepend-none (settings verb rest)))
fronts first verb (set ∷ sets) before rest is (piece, more, cut, spelled, others) =
    rw (cut, append_assoc piece more rest)
    (front first verb piece (more ++ rest) set is spelled
    ∙ ap (λ o. prepend (Some set) o) (fronts first verb sets more rest is others)
    ∙ prepend-more set sets (settings verb rest))

-- ---- back

-- a word that makes a setting by itself spells it
alone-spells : (first : List ℕ) (verb : _) (word : List ℕ) (set : Set) → verb_named first ≡ Some verb
    → alone verb word ≡ Some set →
    Spells first (word ∷ []) set
alone-spells first verb word set is h = by-test (nat_lt (position_or_len is_equals word) (length word)) refl h
  where
    by-test : (b : Bool) → nat_lt (position_or_len is_equals word) (length word) ≡ b →
        cond b (valued verb (before_first is_equals word) (after_first is_equals word)) (flag verb word) ≡ Some set
        → Spells first (word ∷ []) set
    by-test true e k =
        let name = before_first is_equals word in
        let same = value-text verb name (after_first is_equals word) set k in
        let cut = split_at_first is_equals word 0 (grind (arith, nat_tests)) in
        let passes = passes_at_first is_equals word 0 (grind (arith, nat_tests)) in
        let equals : get_or word (position_or_len is_equals word) 0 ≡ 61 = grind (arith, nat_tests) in
        let after = after_first is_equals word in
        let whole : word ≡ name ++ (61 ∷ set.text) =
        cut ∙ ap (λ b. name ++ (b ∷ after)) equals ∙ ap (λ (t : List ℕ). name ++ (61 ∷ t)) (sym same) in
        let here : valued verb name set.text ≡ Some set = ap (λ t. valued verb name t) same ∙ k in
        (name, inl (ap (λ o. option_and_then (λ v. valued v name set.text) o) is ∙ here, inl (ap (λ w. w ∷ []) whole)))
    by-test false e k = (word, inr (rw is k, refl))

-- words that are cut into settings spell these
pub cut-spells : (first : List ℕ) (verb : _) (words : List (List ℕ)) (sets : List Set) → verb_named first ≡ Some verb →
    settings verb words ≡ Some sets → AreSpelled first words sets
unfolding settings
cut-spells first verb [] sets is h = let none : [] ≡ sets = cc in subst (AreSpelled first []) none refl
cut-spells first verb (word ∷ []) sets is h =
    let p = prepended (alone verb word) (Some []) sets h in
    let none : [] ≡ p.1 = let e = p.3 in cc in
    subst (AreSpelled first (word ∷ [])) p.4 (
      word ∷ [],
      [],
      refl,
      alone-spells first verb word p.0 is p.2,
      subst
          (AreSpelled first []) none refl,
    )
cut-spells first verb (word ∷ next ∷ rest) sets is h =
    by-case (alone verb word) refl h (λ s k. cut-spells first verb (next ∷ rest) s is k)
    (λ s k. cut-spells first verb rest s is k)
  where
    by-case : (o : Option Set) → alone verb word ≡ o →
        cond (is_some o) (prepend o (settings verb (next ∷ rest)))
        (prepend (valued verb word next) (settings verb rest)) ≡ Some sets →
        ((s : List Set) → settings verb (next ∷ rest) ≡ Some s → AreSpelled first (next ∷ rest) s) →
        ((s : List Set) → settings verb rest ≡ Some s → AreSpelled first rest s)
        → AreSpelled first (word ∷ next ∷ rest) sets
    by-case (Some set) e k longer shorter =
        let p = prepended (Some set) (settings verb (next ∷ rest)) sets k in
        subst (AreSpelled first (word ∷ next ∷ rest)) p.4
        (word ∷ [], next ∷ rest, refl, alone-spells first verb word p.0 is (e ∙ p.2), longer p.1 p.3)
    by-case None e k longer shorter =
        let p = prepended (valued verb word next) (settings verb rest) sets k in
        let same = value-text verb word next p.0 p.2 in
        subst (AreSpelled first (word ∷ next ∷ rest)) p.4
        (word ∷ next ∷ [], rest, refl, (word, inl (rw (is, same) p.2, inr (rw same refl))), shorter p.1 p.3)
