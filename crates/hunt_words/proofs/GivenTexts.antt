-- Texts of options, where more options follow.
use Rattle.std.proofs.Common.{◌≡◌, ℕ, Bool, true, false, cond, not, ◌&&◌, ◌||◌, List, [], ◌∷◌, ◌++◌, Option, Some, None}
use Rattle.std.proofs.Common.{refl, sym, ap, is_some}
use Rattle.std.specs.Option.{option_or}
use Rattle.std.specs.Str.{bytes_eq}
use Rattle.std.proofs.lemmas.Bool.{and_from, and_parts, false_from_ne_true}
use Rattle.std.proofs.lemmas.Slice.Eq.{bytes_eq-Decides}
use Rattle.hunt_words.specs.Given.{Given, are_each_once, has_option, text_at}

abbrev pub given-one : (name text : List ℕ) → Given
given-one name text = record { name = name; text = text }

pub text_at-append : (name : List ℕ) (given more : List Given)
    → text_at name (given ++ more) ≡ option_or (text_at name given) (text_at name more)
text_at-append name [] more = refl
text_at-append name (o ∷ given) more = by (text_at-append name given more) (bytes_eq o.name name)
  where
    by : text_at name (given ++ more) ≡ option_or (text_at name given) (text_at name more) → (b : Bool)
        → cond b (Some o.text) (text_at name (given ++ more))
        ≡ option_or (cond b (Some o.text) (text_at name given)) (text_at name more)
    by rest true = refl
    by rest false = rest

pub has-front : (name : List ℕ) (given more : List Given) → has_option name given ≡ true
    → has_option name (given ++ more) ≡ true
has-front name given more h = rw (text_at-append name given more) (by (text_at name given) h)
  where
    by : (o : Option (List ℕ)) → is_some o ≡ true → is_some (option_or o (text_at name more)) ≡ true
    by None k = absurd (cc)
    by (Some text) k = refl

same-name : (name : List ℕ) → bytes_eq name name ≡ true
same-name name = (bytes_eq-Decides name name).1 refl

pub has-last : (name text : List ℕ) (given more : List Given)
    → has_option name (given ++ given-one name text ∷ more) ≡ true
has-last name text given more =
    rw (text_at-append name given (given-one name text ∷ more), same-name name) (by (text_at name given))
  where
    by : (o : Option (List ℕ)) → is_some (option_or o (Some text)) ≡ true
    by None = refl
    by (Some t) = refl

-- ---- once

pub once-front : (given more : List Given) → are_each_once (given ++ more) ≡ true → are_each_once given ≡ true
once-front [] more h = refl
once-front (o ∷ given) more h =
    let both = and_parts (not (has_option o.name (given ++ more))) (are_each_once (given ++ more)) h in
    and_from (not (has_option o.name given)) (are_each_once given)
    (ap not (false_from_ne_true (has_option o.name given) (λ k.
    let later = has-front o.name given more k in absurd (clash later both.0))))
    (once-front given more both.1)
  where
    clash : has_option o.name (given ++ more) ≡ true → not (has_option o.name (given ++ more)) ≡ true → ⊥
    clash h k = cc

-- an option that is given once isn't given before
pub once-before : (name text : List ℕ) (given more : List Given)
    → are_each_once (given ++ given-one name text ∷ more) ≡ true → has_option name given ≡ false
once-before name text [] more h = refl
once-before name text (o ∷ given) more h =
    let rest : List Given = given ++ given-one name text ∷ more in
    let both = and_parts (not (has_option o.name rest)) (are_each_once rest) h in
    by (bytes_eq o.name name) refl both.0 (once-before name text given more both.1)
  where
    by : (b : Bool) → bytes_eq o.name name ≡ b → not (has_option o.name (given ++ given-one name text ∷ more)) ≡ true
        → has_option name given ≡ false → is_some (cond b (Some o.text) (text_at name given)) ≡ false
    by false e k before = before
    by true e k before =
        let same : o.name ≡ name = (bytes_eq-Decides o.name name).0 e in
        let there = has-last name text given more in
        absurd (clash o.name name same there k)
      where
        clash : (a b : List ℕ) → a ≡ b → has_option b (given ++ given-one name text ∷ more) ≡ true
            → not (has_option a (given ++ given-one name text ∷ more)) ≡ true → ⊥
        clash a b e h k = cc

pub once-more : (name text : List ℕ) (given : List Given) → are_each_once given ≡ true → has_option name given ≡ false
    → are_each_once (given ++ given-one name text ∷ []) ≡ true
once-more name text [] once new = refl
once-more name text (o ∷ given) once new =
    let both = and_parts (not (has_option o.name given)) (are_each_once given) once in
    by (once-more name text given both.1) (bytes_eq o.name name) refl both.0 new
  where
    last : List Given
    last = given ++ given-one name text ∷ []

    other : bytes_eq o.name name ≡ false → not (has_option o.name given) ≡ true → not (has_option o.name last) ≡ true
    other e k = rw (text_at-append o.name given (given-one name text ∷ []), away) (still (text_at o.name given) k)
      where
        away : bytes_eq name o.name ≡ false
        away = false_from_ne_true (bytes_eq name o.name) (λ k. let same = (bytes_eq-Decides name o.name).0 k in
            absurd (let there = (bytes_eq-Decides o.name name).1 (sym same) in cc))

        still : (o : Option (List ℕ)) → not (is_some o) ≡ true → not (is_some (option_or o None)) ≡ true
        still None k = refl
        still (Some t) k = absurd (cc)

    by : (has_option name given ≡ false → are_each_once last ≡ true) → (b : Bool) → bytes_eq o.name name ≡ b
        → not (has_option o.name given) ≡ true → is_some (cond b (Some o.text) (text_at name given)) ≡ false
        → (not (has_option o.name last) && are_each_once last) ≡ true
    by rest true e a k = absurd (cc)
    by rest false e a k = and_from _ _ (other e a) (rest k)

-- whether an option is given, where one follows
pub has_with : (name other : List ℕ) (given : List Given)
    → has_option other (given ++ given-one name [] ∷ []) ≡ (has_option other given || bytes_eq name other)
has_with name other given =
    rw (text_at-append other given (given-one name [] ∷ [])) (by (text_at other given) (bytes_eq name other))
  where
    by : (o : Option (List ℕ)) (b : Bool) → is_some (option_or o (cond b (Some []) None)) ≡ (is_some o || b)
    by None true = refl
    by None false = refl
    by (Some t) b = refl
