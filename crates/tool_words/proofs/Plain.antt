-- The names of options have no `=`.
use Rattle.std.proofs.Common.{◌≡◌, ℕ, Bool, true, false, List, [], ◌∷◌, Option, Some, refl, sym}
use Rattle.std.proofs.Common.{cond, is_some, subst, length, ◌==◌, ◌&&◌}
use Rattle.std.specs.List.{position_or_len}
use Rattle.std.specs.Str.{bytes_eq}
use Rattle.std.proofs.lemmas.Bool.{and_parts, eqb-true}
use Rattle.std.proofs.lemmas.Slice.Eq.{bytes_eq-Decides}
use Rattle.tool_words.specs.Names.{named_by}
use Rattle.tool_words.specs.Options.{option_named, options}
use Rattle.tool_words.specs.Reading.{is_equals}

-- no byte of the word is `=`
abbrev pub IsPlain : List ℕ → Type 0
IsPlain word = position_or_len is_equals word ≡ length word

-- a word that is this text, or is named further on
or-else : {N : Type 0} (word text : List ℕ) (name : N) (others : Option N) → IsPlain text
    → (is_some others ≡ true → IsPlain word) →
    is_some (cond (bytes_eq word text) (Some name) others) ≡ true → IsPlain word
or-else word text name others plain further h = by-test (bytes_eq word text) refl h
  where
    by-test : (b : Bool) → bytes_eq word text ≡ b → is_some (cond b (Some name) others) ≡ true → IsPlain word
    by-test true e k = subst IsPlain (sym ((bytes_eq-Decides word text).0 e)) plain
    by-test false e k = further k

-- no word of the table has a `=`
abbrev are_plain : {N : Type 0} → List (List ℕ × N) → Bool
are_plain [] = true
are_plain (row ∷ rows) = position_or_len is_equals row.0 == length row.0 && are_plain rows

-- a word that has a meaning by such a table
named-is-plain : {N : Type 0} (rows : List (List ℕ × N)) (word : List ℕ) → are_plain rows ≡ true
    → is_some (named_by rows word) ≡ true → IsPlain word
named-is-plain [] word plain h = absurd (cc)
named-is-plain (row ∷ rows) word plain h =
    let both = and_parts (position_or_len is_equals row.0 == length row.0) (are_plain rows) plain in
    or-else word row.0 row.1 (named_by rows word) (eqb-true _ _ both.0) (named-is-plain rows word both.1) h

pub names-are-plain : (word : List ℕ) → is_some (option_named word) ≡ true → IsPlain word
names-are-plain word h = named-is-plain options word refl h
