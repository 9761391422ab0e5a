-- Words that are cut into options, where more words follow.
use Rattle.std.proofs.Common.{◌≡◌, ℕ, cond, List, [], ◌∷◌, ◌++◌, Option, Some, None, refl, sym, ◌∙◌, ap, is_some}
use Rattle.std.specs.Option.{option_map}
use Rattle.hunt_words.specs.declared.verbs.Verb.{Verb}
use Rattle.hunt_words.specs.Given.{Given, alone, given_in, prepend, valued}
use Rattle.hunt_words.proofs.GivenLemmas.{given_alone, given_pair}

abbrev pub after-all : List Given → Option (List Given) → Option (List Given)
after-all given others = option_map (λ more. given ++ more) others

after-none : (o : Option (List Given)) → o ≡ after-all [] o
after-none None = refl
after-none (Some more) = refl

after-one : (one : Given) (given : List Given) (o : Option (List Given))
    → prepend (Some one) (after-all given o) ≡ after-all (one ∷ given) o
after-one one given None = refl
after-one one given (Some more) = refl

pub prepended : (o : Option Given) (others : Option (List Given)) (given : List Given) → prepend o others ≡ Some given
    → (one : Given) × (rest : List Given) × (o ≡ Some one) × (others ≡ Some rest) × (one ∷ rest ≡ given)
prepended None others given h = absurd (cc)
prepended (Some one) None given h = absurd (cc)
prepended (Some one) (Some rest) given h = (one, rest, refl, refl, cc)

pub given-append : (verb : Verb) (before after : List (List ℕ)) (given : List Given) → given_in verb before ≡ Some given
    → given_in verb (before ++ after) ≡ after-all given (given_in verb after)
unfolding given_in
given-append verb [] after given h =
    let none : [] ≡ given = cc in
    rw (sym none) (after-none (given_in verb after))
given-append verb (word ∷ []) after given h =
    let p = prepended (alone verb word) (Some []) given h in
    let none : [] ≡ p.1 = cc in
    let is : p.0 ∷ [] ≡ given = cc in
    given_alone verb word after p.0 p.2 ∙ one p.0 (given_in verb after)
    ∙ ap (λ (g : List Given). after-all g (given_in verb after)) is
  where
    one : (o : Given) (others : Option (List Given)) → prepend (Some o) others ≡ after-all (o ∷ []) others
    one o None = refl
    one o (Some more) = refl
given-append verb (word ∷ next ∷ rest) after given h =
    by (given-append verb rest after) (given-append verb (next ∷ rest) after) (alone verb word) refl h
  where
    by : ((g : List Given) → given_in verb rest ≡ Some g
        → given_in verb (rest ++ after) ≡ after-all g (given_in verb after))
        → ((g : List Given) → given_in verb (next ∷ rest) ≡ Some g
        → given_in verb (next ∷ rest ++ after) ≡ after-all g (given_in verb after)) → (o : Option Given)
        → alone verb word ≡ o
        → cond (is_some o) (prepend o (given_in verb (next ∷ rest)))
        (prepend (valued verb word next) (given_in verb rest)) ≡ Some given
        → given_in verb (word ∷ next ∷ (rest ++ after)) ≡ after-all given (given_in verb after)
    by two one None is k =
        let p = prepended (valued verb word next) (given_in verb rest) given k in
        given_pair verb word next (rest ++ after) is
        ∙ ap (λ (o : Option Given). prepend o (given_in verb (rest ++ after))) p.2
        ∙ ap (prepend (Some p.0)) (two p.1 p.3) ∙ after-one p.0 p.1 (given_in verb after)
        ∙ ap (λ (g : List Given). after-all g (given_in verb after)) p.4
    by two one (Some o) is k =
        let p = prepended (Some o) (given_in verb (next ∷ rest)) given k in
        let same : o ≡ p.0 = cc in
        given_alone verb word (next ∷ (rest ++ after)) o is
        ∙ ap (prepend (Some o)) (one p.1 p.3) ∙ after-one o p.1 (given_in verb after)
        ∙ ap (λ (x : Given). after-all (x ∷ p.1) (given_in verb after)) same
        ∙ ap (λ (g : List Given). after-all g (given_in verb after)) p.4
