-- The words that name options, and the option that a word makes by itself.
use Rattle.std.proofs.Common.{◌≡◌, ℕ, Bool, true, false, List, [], ◌∷◌, Option, Some, None, refl, sym, ap, ◌∙◌, arith}
use Rattle.std.proofs.Common.{length, not, nat_lt, cond, is_some, ◌||◌}
use Rattle.std.specs.List.{after_first, list_all, list_any, position_or_len}
use Rattle.std.specs.Str.{bytes_eq}
use Rattle.std.proofs.Math.Seq.{take-length}
use Rattle.std.proofs.lemmas.Bool.{and_parts, false_from_ne_true, false≢true, true≢false}
use Rattle.std.proofs.lemmas.Bool.Decides.{nat_tests}
use Rattle.std.proofs.lemmas.List.Sums.{prefix_len-le-length}
use Rattle.std.proofs.lemmas.Slice.Eq.{bytes_eq-Decides}
use Rattle.tool_words.specs.Names.{named_by}
use Rattle.tool_words.specs.Reading.{is_equals}
use Rattle.tool_words.specs.Stops.{joined_value}
use Rattle.hunt_words.specs.declared.names.Name.{Name}
use Rattle.hunt_words.specs.declared.names.Name.TheVariants as named
use Rattle.hunt_words.specs.declared.verbs.Verb.{Verb}
use Rattle.hunt_words.specs.declared.verbs.Verb.TheVariants as verbs
use Rattle.hunt_words.specs.Faults.{name_part}
use Rattle.hunt_words.specs.Given.{Given, alone, flag, valued}
use Rattle.hunt_words.specs.Names.{name_in, names, word_of}
use Rattle.hunt_words.specs.Verbs.{flags, is_flag, own_options, shared_options, takes_value}

-- ---- names

list-named : (word : List ℕ) (xs : List (List ℕ)) → list_all (λ x. is_some (name_in x)) xs ≡ true
    → list_any (bytes_eq word) xs ≡ true → is_some (name_in word) ≡ true
list-named word [] all any = absurd (cc)
list-named word (x ∷ xs) all any = by (list-named word xs both.1) (bytes_eq word x) refl any
  where
    both : (is_some (name_in x) ≡ true) × (list_all (λ x. is_some (name_in x)) xs ≡ true)
    both = and_parts (is_some (name_in x)) (list_all (λ x. is_some (name_in x)) xs) all

    by : (list_any (bytes_eq word) xs ≡ true → is_some (name_in word) ≡ true) → (b : Bool) → bytes_eq word x ≡ b
        → (b || list_any (bytes_eq word) xs) ≡ true → is_some (name_in word) ≡ true
    by rest true is k = ap (λ w. is_some (name_in w)) ((bytes_eq-Decides word x).0 is) ∙ both.0
    by rest false is k = rest k

either-named : (word : List ℕ) (a b : List (List ℕ)) → list_all (λ x. is_some (name_in x)) a ≡ true
    → list_all (λ x. is_some (name_in x)) b ≡ true
    → (list_any (bytes_eq word) a || list_any (bytes_eq word) b) ≡ true → is_some (name_in word) ≡ true
either-named word a b all-a all-b h = by (list_any (bytes_eq word) a) refl h
  where
    by : (x : Bool) → list_any (bytes_eq word) a ≡ x → (x || list_any (bytes_eq word) b) ≡ true
        → is_some (name_in word) ≡ true
    by true is k = list-named word a all-a is
    by false is k = list-named word b all-b k

options-named : (verb : Verb)
    → (list_all (λ x. is_some (name_in x)) (own_options verb) ≡ true)
    × (list_all (λ x. is_some (name_in x)) (flags verb) ≡ true)
options-named verbs.First = (refl, refl)
options-named verbs.Table = (refl, refl)
options-named verbs.Small = (refl, refl)
options-named verbs.Words = (refl, refl)
options-named verbs.Record = (refl, refl)

-- each option that a verb takes has a name
pub taken_named : (verb : Verb) (word : List ℕ) → (takes_value verb word || is_flag verb word) ≡ true
    → is_some (name_in word) ≡ true
taken_named verb word h = by (takes_value verb word) refl h
  where
    by : (x : Bool) → takes_value verb word ≡ x → (x || is_flag verb word) ≡ true → is_some (name_in word) ≡ true
    by true is k = either-named word shared_options (own_options verb) refl (options-named verb).0 is
    by false is k = list-named word (flags verb) (options-named verb).1 k

abbrev are-own : List (List ℕ × Name) → Bool
are-own rows = list_all (λ row. bytes_eq row.0 (word_of row.1)) rows

row-word : (rows : List (List ℕ × Name)) (word : List ℕ) (name : Name) → are-own rows ≡ true
    → named_by rows word ≡ Some name → word ≡ word_of name
row-word [] word name own h = absurd (cc)
row-word (row ∷ rows) word name own h = by (row-word rows word name both.1) (bytes_eq word row.0) refl h
  where
    both : (bytes_eq row.0 (word_of row.1) ≡ true) × (are-own rows ≡ true)
    both = and_parts (bytes_eq row.0 (word_of row.1)) (are-own rows) own

    by : (named_by rows word ≡ Some name → word ≡ word_of name) → (b : Bool) → bytes_eq word row.0 ≡ b
        → cond b (Some row.1) (named_by rows word) ≡ Some name → word ≡ word_of name
    by rest true is k =
        let same : row.1 ≡ name = cc in
        (bytes_eq-Decides word row.0).0 is ∙ (bytes_eq-Decides row.0 (word_of row.1)).0 both.0 ∙ ap word_of same
    by rest false is k = rest k

-- a word that names an option is the option's own
pub name-word : (word : List ℕ) (name : Name) → name_in word ≡ Some name → word ≡ word_of name
name-word word name h = row-word names word name refl h

-- an option is the one that its word names
name-back : (name : Name) → name_in (word_of name) ≡ Some name
name-back named.Cores = refl
name-back named.Limit = refl
name-back named.Words = refl
name-back named.By = refl
name-back named.Runs = refl
name-back named.Threads = refl
name-back named.Run = refl
name-back named.Turns = refl
name-back named.Expect = refl
name-back named.Never = refl
name-back named.Same = refl
name-back named.See = refl
name-back named.Elf = refl
name-back named.Tso = refl
name-back named.Plain = refl

-- options with the same word are the same
pub same-option : (a b : Name) → bytes_eq (word_of a) (word_of b) ≡ true → a ≡ b
same-option a b h =
    let words : word_of a ≡ word_of b = (bytes_eq-Decides (word_of a) (word_of b)).0 h in
    some-same (sym (name-back a) ∙ ap name_in words ∙ name-back b)
  where
    some-same : Some a ≡ Some b → a ≡ b
    some-same h = cc

-- no option's name has a `=`
plain-name : (name : Name) → nat_lt (position_or_len is_equals (word_of name)) (length (word_of name)) ≡ false
plain-name named.Cores = refl
plain-name named.Limit = refl
plain-name named.Words = refl
plain-name named.By = refl
plain-name named.Runs = refl
plain-name named.Threads = refl
plain-name named.Run = refl
plain-name named.Turns = refl
plain-name named.Expect = refl
plain-name named.Never = refl
plain-name named.Same = refl
plain-name named.See = refl
plain-name named.Elf = refl
plain-name named.Tso = refl
plain-name named.Plain = refl

abbrev pub has-equals : (word : List ℕ) → Bool
has-equals word = nat_lt (position_or_len is_equals word) (length word)

-- a word with `=` names no option
pub joined-takes : (verb : Verb) (word : List ℕ) → has-equals word ≡ true → takes_value verb word ≡ false
joined-takes verb word h = false_from_ne_true (takes_value verb word) (λ takes. by (name_in word) refl
    (taken_named verb word (rw takes refl)))
  where
    by : (o : Option Name) → name_in word ≡ o → is_some (name_in word) ≡ true → ⊥
    by None is k = false≢true (rw (is) at k)
    by (Some name) is k =
        let same = name-word word name is in
        true≢false (sym h ∙ ap has-equals same ∙ plain-name name)

-- a word without `=` is a name, all of it
pub bare : (word : List ℕ) → has-equals word ≡ false → name_part word ≡ word
bare word h =
    let most = prefix_len-le-length (λ b. not (is_equals b)) word in
    let all : position_or_len is_equals word ≡ length word = grind (arith, nat_tests) in
    rw all (take-length word)

-- ---- what a word makes by itself

pub joined-so : (word : List ℕ) → has-equals word ≡ true → joined_value word ≡ Some (after_first is_equals word)
joined-so word h = ap (λ (b : Bool). cond b (Some (after_first is_equals word)) None) h

pub bare-so : (word : List ℕ) → has-equals word ≡ false → joined_value word ≡ None
bare-so word h = ap (λ (b : Bool). cond b (Some (after_first is_equals word)) None) h

pub not-joined : (word : List ℕ) → joined_value word ≡ None → has-equals word ≡ false
not-joined word h = by (has-equals word) refl h
  where
    by : (b : Bool) → has-equals word ≡ b → cond b (Some (after_first is_equals word)) None ≡ None
        → has-equals word ≡ false
    by true e k = absurd (cc)
    by false e k = e

abbrev alone-by : Verb → (word : List ℕ) → Option (List ℕ) → Option Given
alone-by verb word o =
    elim o as (λ _. Option Given) [ Some text ↦ valued verb (name_part word) text | None ↦ flag verb (name_part word) ]

pub alone-joined : (verb : Verb) (word text : List ℕ) → joined_value word ≡ Some text
    → alone verb word ≡ valued verb (name_part word) text
alone-joined verb word text h = ap (alone-by verb word) h

pub alone-bare : (verb : Verb) (word : List ℕ) → joined_value word ≡ None → alone verb word ≡ flag verb (name_part word)
alone-bare verb word h = ap (alone-by verb word) h

pub no-valued : (verb : Verb) (name text : List ℕ) → takes_value verb name ≡ false → valued verb name text ≡ None
no-valued verb name text h = ap (λ (b : Bool). cond b (Some (record { name = name; text = text })) None) h

pub no-flag : (verb : Verb) (name : List ℕ) → is_flag verb name ≡ false → flag verb name ≡ None
no-flag verb name h = ap (λ (b : Bool). cond b (Some (record { name = name; text = [] })) None) h
