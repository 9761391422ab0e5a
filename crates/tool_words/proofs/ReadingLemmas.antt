-- The setting that words begin with is put in, and then the rest.
use Rattle.std.proofs.Common.{◌≡◌, ℕ, List, [], ◌∷◌, Option, Some, None, refl, ap, sym, ◌∙◌, arith, ◌<◌, length, map}
use Rattle.std.proofs.Common.{drop, get_or, take, ◌-◌}
use Rattle.std.proofs.Math.Seq.{take-length}
use Rattle.std.specs.Option.{option_and_then}
use Rattle.tool_words.specs.declared.command.Verb.{Verb}
use Rattle.tool_words.specs.Settings.{Settings}
use Rattle.tool_words.specs.Options.{put}
use Rattle.tool_words.specs.Reading.{Set, alone, valued, prepend, settings, settled, settled_by}

-- the settings after one more, and then those of the rest
abbrev pub put_then : Verb → Settings → Set → List (List ℕ) → Option Settings
put_then verb s set rest = option_and_then (λ t. settled_by verb t rest) (put s set.name set.text)

prepended : (s : Settings) (set : Set) (others : Option (List Set)) →
    option_and_then (settled s) (prepend (Some set) others) ≡ option_and_then
    (λ t. option_and_then (settled t) others) (put s set.name set.text)
prepended s set (Some others) = refl
prepended s set None = none (put s set.name set.text)
  where
    none : (o : Option Settings) → None ≡ option_and_then (λ t. option_and_then (settled t) None) o
    none (Some t) = refl
    none None = refl

-- a word that makes a setting by itself
pub settings-alone : (verb : Verb) (word : List ℕ) (rest : List (List ℕ)) (set : Set) → alone verb word ≡ Some set →
    settings verb (word ∷ rest) ≡ prepend (Some set) (settings verb rest)
unfolding settings
settings-alone verb word [] set h = rw h
settings-alone verb word (next ∷ rest) set h = rw h

pub settled_by-alone : (verb : Verb) (s : Settings) (word : List ℕ) (rest : List (List ℕ)) (set : Set)
    → alone verb word ≡ Some set →
    settled_by verb s (word ∷ rest) ≡ put_then verb s set rest
unfolding settled_by
settled_by-alone verb s word rest set h = rw (settings-alone verb word rest set h)
    (prepended s set (settings verb rest))

-- a name and the word after it
pub settled_by-pair : (verb : Verb) (s : Settings) (word next : List ℕ) (rest : List (List ℕ)) (set : Set)
    → alone verb word ≡ None →
    valued verb word next ≡ Some set →
    settled_by verb s (word ∷ next ∷ rest) ≡ put_then verb s set rest
unfolding settled_by settings
settled_by-pair verb s word next rest set h k = rw (h, k) (prepended s set (settings verb rest))

-- a name with no value, and a word that is no name
pub settled_by-last : (verb : Verb) (s : Settings) (word : List ℕ) → alone verb word ≡ None → settled_by verb s
    (word ∷ []) ≡ None
unfolding settled_by settings
settled_by-last verb s word h = rw h

pub settled_by-unknown : (verb : Verb) (s : Settings) (word next : List ℕ) (rest : List (List ℕ)) → alone verb word ≡
    None → valued verb word next ≡ None →
    settled_by verb s (word ∷ next ∷ rest) ≡ None
unfolding settled_by settings
settled_by-unknown verb s word next rest h k = rw (h, k)

-- no words are left
pub settled_by-none : (verb : Verb) (s : Settings) (words : List (List ℕ)) → words ≡ [] → settled_by verb s words ≡
    Some s
unfolding settled_by settings
settled_by-none verb s words is = rw is

-- the words as texts, the first or the first two apart
pub map-first : {S T : Type 0} (f : S → T) (xs : List S) (x : S) → 0 < length xs → x ≡ get_or xs 0 x
    → map f xs ≡ f x ∷ map f (drop 1 xs)
map-first f [] x some is = absurd (omega arith)
map-first f (y ∷ ys) x some is = ap (λ v. f v ∷ map f ys) (sym is)

-- the same, with the rest as a slice up to the end
all-but-one : {S : Type 0} (xs : List S) → drop 1 xs ≡ take (length xs - 1) (drop 1 xs)
all-but-one [] = refl
all-but-one (y ∷ ys) = let n : length (y ∷ ys) - 1 ≡ length ys = omega arith in rw n (sym (take-length ys))

pub map-rest : {S T : Type 0} (f : S → T) (xs : List S) (x : S) → 0 < length xs → x ≡ get_or xs 0 x →
    map f xs ≡ f x ∷ map f (take (length xs - 1) (drop 1 xs))
map-rest f xs x some is = map-first f xs x some is ∙ ap (λ l. f x ∷ map f l) (all-but-one xs)
