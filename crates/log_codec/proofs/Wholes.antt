-- Readings of all bytes, by readings of a front of them: what is read is spelled so, and what is spelled is read.
use Rattle.std.proofs.Common.{◌≡◌, ◌<◌, ℕ, List, [], ◌++◌, length, get_or, eqb, cond, Result, Ok, Err, refl, sym, ap}
use Rattle.std.proofs.Common.{subst, ◌∙◌}
use Rattle.std.specs.Prelude.{IfOk}
use Rattle.std.proofs.lemmas.Bool.{eqb-true}
use Rattle.std.proofs.lemmas.List.{append-nil, nil_from_length}
use Rattle.log_codec.specs.declared.codec_fault.CodecFault.{CodecFault}
use Rattle.log_codec.specs.Faults.{Gives, Reads, read_all}
use Rattle.log_codec.specs.Laws.{IsBytes}
use Rattle.log_codec.proofs.ReadingSteps.{bind_ok, bytes-from_index, guard_ok, ok_is, Takes}

-- ---- a front and all bytes

-- what is read of all bytes is read of their front, and nothing stands after it
pub read_front : {A : Type 0} (front : List ℕ → Result (A × List ℕ) ℕ) (last : ℕ) (bytes : List ℕ) (a : A) →
    read_all front last bytes ≡ Ok a → front bytes ≡ Ok (a, [])
read_front {A} front last bytes a e =
    let p = bind_ok (front bytes) (λ parts. cond (eqb (length parts.1) 0) (Ok parts.0) (Err last)) a e in
    let g = guard_ok (eqb (length p.0.1) 0) last p.0.0 a p.2 in
    p.1 ∙ ap (λ (x : A). Ok (x, p.0.1)) g.1
    ∙ ap (λ (rest : List ℕ). Ok (a, rest)) (nil_from_length p.0.1 (eqb-true _ _ g.0))

pub front_read : {A : Type 0} (front : List ℕ → Result (A × List ℕ) ℕ) (last : ℕ) (bytes : List ℕ) (a : A) →
    front (bytes ++ []) ≡ Ok (a, []) → read_all front last bytes ≡ Ok a
front_read front last bytes a h =
    let f : front bytes ≡ Ok (a, []) = ap front (sym (append-nil bytes)) ∙ h in
    rw f refl

-- of the same bytes one front is read
pub one_front : {A : Type 0} (front : List ℕ → Result (A × List ℕ) ℕ) (first second : List ℕ) (a b : A)
    (x y : List ℕ) → front first ≡ Ok (a, x) → front second ≡ Ok (b, y) → first ≡ second → (a ≡ b) × (x ≡ y)
one_front {A} front first second a b x y h k e =
    let same = ok_is (a, x) (b, y) (sym h ∙ ap front e ∙ k) in
    (ap (λ (p : A × List ℕ). p.0) same, ap (λ (p : A × List ℕ). p.1) same)

-- ---- where each value has one spelling

-- what a reading of the front took: a value in form, by its spelling
pub record Taken {A : Type 0} (InForm : A → Type 0) (text : A → List ℕ) (bytes : List ℕ) (a : A)
    (rest : List ℕ) : Type 0 where
  pub valid : InForm a
  pub taken : Takes bytes (text a) rest

pub record SpellingLaws {A : Type 0} (all : List ℕ → Result A ℕ) (InForm : A → Type 0)
    (text : A → List ℕ) : Type 0 where
  pub read : (bytes : List ℕ) (a : A) → IsBytes bytes → all bytes ≡ Ok a → InForm a × (bytes ≡ text a)
  pub spelled : (a : A) → InForm a → all (text a) ≡ Ok a
  pub prefix : (a b : A) (x y : List ℕ) → InForm a → InForm b → text a ++ x ≡ text b ++ y → (a ≡ b) × (x ≡ y)

pub spelling_laws : {A : Type 0} (front : List ℕ → Result (A × List ℕ) ℕ) (last : ℕ) (InForm : A → Type 0)
    (text : A → List ℕ) →
    ((bytes : List ℕ) (a : A) (rest : List ℕ) → IsBytes bytes → front bytes ≡ Ok (a, rest) →
    Taken InForm text bytes a rest) →
    ((a : A) (rest : List ℕ) → InForm a → front (text a ++ rest) ≡ Ok (a, rest)) →
    SpellingLaws (read_all front last) InForm text
spelling_laws front last InForm text takes again = record {
  read = λ bytes a are e.
      let t = takes bytes a [] are (read_front front last bytes a e) in
      (t.valid, t.taken.parts ∙ append-nil (text a));
  spelled = λ a valid. front_read front last (text a) a (again a [] valid);
  prefix = λ a b x y valid other e. one_front front (text a ++ x) (text b ++ y) a b x y (again a x valid)
      (again b y other) e;
}

-- ---- what a reader of all bytes answers

pub reads : {A : Type 0} (InForm Spells : A → Type 0) (bytes : List ℕ) (read : Result A ℕ)
    (result : Result A CodecFault) → ((i : ℕ) → get_or bytes i 0 < 256) →
    ((a : A) → IsBytes bytes → read ≡ Ok a → InForm a × Spells a) →
    ((a : A) → InForm a → Spells a → read ≡ Ok a) → Gives (λ x. x) result read →
    Reads InForm Spells read result
reads {A} InForm Spells bytes read result are is_spelled is_read given = record {
  found = found result given;
  only = λ a valid spells. subst (λ (f : Result A ℕ). Gives (λ x. x) result f) (is_read a valid spells) given;
  exact = given;
}
  where
    found : (result : Result A CodecFault) → Gives (λ x. x) result read → IfOk result (λ a. InForm a × Spells a)
    found (Ok a) given = is_spelled a (bytes-from_index bytes are) given
    found (Err e) given = tt
