-- The option that words begin with is read, and then those of the rest.
use Rattle.std.proofs.Common.{◌≡◌, ℕ, List, [], ◌∷◌, ◌++◌, Some, None, length, map, arith, ap, refl}
use Rattle.std.specs.Option.{option_map}
use Rattle.std.proofs.lemmas.List.{append-nil}
use Rattle.hunt_words.specs.declared.verbs.Verb.{Verb}
use Rattle.hunt_words.specs.Given.{Given, alone, given_in, prepend, valued}

-- a word that makes an option by itself
pub given_alone : (verb : Verb) (word : List ℕ) (rest : List (List ℕ)) (one : Given) → alone verb word ≡ Some one →
    given_in verb (word ∷ rest) ≡ prepend (Some one) (given_in verb rest)
unfolding given_in
given_alone verb word [] one h = rw h refl
given_alone verb word (next ∷ rest) one h = rw h refl

-- a name and the word after it
pub given_pair : (verb : Verb) (word next : List ℕ) (rest : List (List ℕ)) → alone verb word ≡ None →
    given_in verb (word ∷ next ∷ rest) ≡ prepend (valued verb word next) (given_in verb rest)
unfolding given_in
given_pair verb word next rest h = rw h refl

-- a name with no value
pub given_last : {S : Type 0} (f : S → List ℕ) (verb : Verb) (word : List ℕ) (rest : List S) → length rest ≡ 0 →
    alone verb word ≡ None → given_in verb (word ∷ map f rest) ≡ None
unfolding given_in
given_last f verb word [] none h = rw h refl
given_last f verb word (next ∷ rest) none h = absurd (omega arith)

-- with no word left these are all options
pub given_none : {S : Type 0} (f : S → List ℕ) (verb : Verb) (left : List S) (given : List Given) → length left ≡ 0 →
    option_map (λ more. given ++ more) (given_in verb (map f left)) ≡ Some given
unfolding given_in
given_none f verb [] given none = ap (λ (all : List Given). Some all) (append-nil given)
given_none f verb (word ∷ left) given none = absurd (omega arith)
