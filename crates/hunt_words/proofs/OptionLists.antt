-- Values that may be missing, and tests of lists.
use Rattle.std.proofs.Common.{◌≡◌, ℕ, zero, suc, ◌+◌, ◌-◌, ◌<◌, ◌≤◌, Bool, true, false, cond, ◌||◌, List, []}
use Rattle.std.proofs.Common.{◌∷◌, Option, Some, None, eqb, arith, refl, ap, is_some}
use Rattle.std.specs.Prelude.{find}
use Rattle.std.specs.Option.{option_map}
use Rattle.std.specs.List.{list_all, list_any, range_with_len}
use Rattle.std.proofs.Math.Bool.{or-true}
use Rattle.std.proofs.lemmas.Bool.{and_from, and_parts, eqb-true}
use Rattle.std.proofs.lemmas.Bool.Decides.{nat_tests}
use Rattle.end_claims.specs.Numbers.{◌>>=◌}

pub bind-some : {A B : Type 0} (o : Option A) (f : A → Option B) (b : B) → (o >>= f) ≡ Some b
    → (a : A) × (o ≡ Some a) × (f a ≡ Some b)
bind-some None f b h = absurd (cc)
bind-some (Some a) f b h = (a, refl, h)

pub some-inj : {A : Type 0} (a b : A) → Some a ≡ Some b → a ≡ b
some-inj a b h = cc

pub some-is-false : {A : Type 0} (o : Option A) (a : A) → o ≡ Some a → is_some o ≡ false → ⊥
some-is-false None a h k = absurd (cc)
some-is-false (Some b) a h k = cc

pub mapped-some : {A B : Type 0} (f : A → B) (b : B) (o : Option A) → option_map f o ≡ Some b → is_some o ≡ true
mapped-some f b None h = absurd (cc)
mapped-some f b (Some a) h = refl

pub all-mono : {A : Type 0} (p q : A → Bool) → ((a : A) → p a ≡ true → q a ≡ true) → (xs : List A)
    → list_all p xs ≡ true → list_all q xs ≡ true
all-mono p q each [] h = refl
all-mono p q each (x ∷ xs) h =
    let both = and_parts (p x) (list_all p xs) h in
    and_from (q x) (list_all q xs) (each x both.0) (all-mono p q each xs both.1)

pub any-mono : {A : Type 0} (p q : A → Bool) → ((a : A) → p a ≡ true → q a ≡ true) → (xs : List A)
    → list_any p xs ≡ true → list_any q xs ≡ true
any-mono p q each [] h = absurd (cc)
any-mono p q each (x ∷ xs) h = by (any-mono p q each xs) (p x) refl h
  where
    by : (list_any p xs ≡ true → list_any q xs ≡ true) → (b : Bool) → p x ≡ b → (b || list_any p xs) ≡ true
        → (q x || list_any q xs) ≡ true
    by more true is k = rw (each x is) refl
    by more false is k = rw (more k) (or-true (q x))

-- a number of a range that passes, and back
pub range-passes : (p : ℕ → Bool) (a n : ℕ) → list_any p (range_with_len a n) ≡ true
    → (c : ℕ) × (a ≤ c) × (c < a + n) × (p c ≡ true)
range-passes p a zero h = absurd (cc)
range-passes p a (suc n) h = by (range-passes p (a + 1) n) (p a) refl h
  where
    by : (list_any p (range_with_len (a + 1) n) ≡ true → (c : ℕ) × (a + 1 ≤ c) × (c < a + 1 + n) × (p c ≡ true))
        → (b : Bool) → p a ≡ b → (b || list_any p (range_with_len (a + 1) n)) ≡ true
        → (c : ℕ) × (a ≤ c) × (c < a + suc n) × (p c ≡ true)
    by more true is k = (a, omega arith, omega arith, is)
    by more false is k =
        let found = more k in
        let low = found.1 in
        let high = found.2 in
        (found.0, omega arith, omega arith, found.3)

pub passes-range : (p : ℕ → Bool) (a n c : ℕ) → a ≤ c → c < a + n → p c ≡ true → list_any p (range_with_len a n) ≡ true
passes-range p a zero c low high h = absurd (omega arith)
passes-range p a (suc n) c low high h = by (λ later. passes-range p (a + 1) n c later (omega arith) h) (p a) refl
  where
    later : p a ≡ false → a + 1 ≤ c
    later is = by-test (eqb a c) refl
      where
        by-test : (b : Bool) → eqb a c ≡ b → a + 1 ≤ c
        by-test true e = let same : a ≡ c = eqb-true a c e in absurd (cc)
        by-test false e = grind (arith, nat_tests)

    by : (a + 1 ≤ c → list_any p (range_with_len (a + 1) n) ≡ true) → (b : Bool) → p a ≡ b
        → (b || list_any p (range_with_len (a + 1) n)) ≡ true
    by more true is = refl
    by more false is = more (later is)

-- what isn't found by a test isn't found by a stricter one
pub find-none : {A : Type 0} (p q : A → Bool) → ((a : A) → q a ≡ true → p a ≡ true) → (xs : List A)
    → is_some (find p xs) ≡ false → is_some (find q xs) ≡ false
find-none p q each [] h = refl
find-none p q each (x ∷ xs) h = by (find-none p q each xs) (q x) (p x) refl refl h
  where
    by : (is_some (find p xs) ≡ false → is_some (find q xs) ≡ false) → (b c : Bool) → q x ≡ b → p x ≡ c
        → is_some (cond c (Some x) (find p xs)) ≡ false → is_some (cond b (Some x) (find q xs)) ≡ false
    by more b true e f k = absurd (cc)
    by more true false e f k = absurd (let there = each x e in cc)
    by more false false e f k = more k

-- the numbers of a range, by the first of them
pub range_step : (a n : ℕ) → a < n → range_with_len (a + 1) (n - a) ≡ (a + 1) ∷ range_with_len (a + 1 + 1) (n - (a + 1))
range_step a n h =
    let more : n - a ≡ suc (n - (a + 1)) = omega arith in
    ap (λ (k : ℕ). range_with_len (a + 1) k) more

pub range_none : (a n : ℕ) → a ≡ n → range_with_len (a + 1) (n - a) ≡ []
range_none a n h = let none : n - a ≡ 0 = omega arith in ap (λ (k : ℕ). range_with_len (a + 1) k) none
