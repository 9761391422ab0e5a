-- The number of a member of a set among its members, and that of the last marked move.
use Rattle.std.proofs.Common.{◌≡◌, ◌∙◌, ◌≢◌, ◌⊎◌, inl, inr, refl, sym, ap, subst, ℕ, zero, suc, ◌+◌, ◌-◌, ◌<◌, ◌≤◌}
use Rattle.std.proofs.Common.{◌==◌, ◌&&◌, Bool, true, false, cond, nat_lt, List, [], ◌∷◌, ◌++◌, length, arith, Some}
use Rattle.std.specs.Prelude.{Option, None, if◌then◌else◌, slice_index_or}
use Rattle.std.specs.List.{filter, range_with_len}
use Rattle.std.proofs.lemmas.Bool.{cases_eq, le-ltb, lt-ltb}
use Rattle.std.proofs.lemmas.Bool.Decides.{nat_tests}
use Rattle.rtr_types.specs.CoreSets.{has}
use Rattle.rtr_types.specs.declared.TheConstants.{CORES_MAX}
use Rattle.rtr_types.specs.declared.core_set.CoreSet.{CoreSet}
use Rattle.move_marks.specs.Members.{members}
use Rattle.move_marks.proofs.MoveOrder.{agree_on, none_from}

-- behind those before it stands k
pub record IsAt (k : ℕ) (all before : List ℕ) : Type 0 where
  pub within : length before < length all
  pub value : (d : ℕ) → slice_index_or all (length before) d ≡ k

first_is : (k : ℕ) (later : List ℕ) → IsAt k (k ∷ later) []
first_is k later = record { within = omega arith; value = λ d. refl }

one_more : (k x : ℕ) (all before : List ℕ) → IsAt k all before → IsAt k (x ∷ all) (x ∷ before)
one_more k x all before is = record { within = omega (arith, is.within); value = is.value }

module _ (p : ℕ → Bool) (k : ℕ) where
  abbrev below : ℕ → Bool
  below c = p c && nat_lt c k

  kept : (a : ℕ) (t : Bool) (all before : List ℕ) → IsAt k all before →
      IsAt k (cond t (a ∷ all) all) (cond t (a ∷ before) before)
  kept a true all before is = one_more k a all before is
  kept a false all before is = is

  and_true : (t : Bool) → (t && true) ≡ t
  and_true true = refl
  and_true false = refl

  and_false : (t : Bool) → (t && false) ≡ false
  and_false true = refl
  and_false false = refl

  -- of the numbers from a on that pass, k is the one behind those below it
  ranked : (n a : ℕ) → p k ≡ true → a ≤ k → k < a + n →
      IsAt k (filter p (range_with_len a n)) (filter below (range_with_len a n))
  ranked zero a is low high = absurd (omega (arith, low, high))
  ranked (suc n) a is low high =
      by (cases_eq a k) (λ further. ranked n (a + 1) is (omega (arith, further)) (omega (arith, high)))
    where
      all : List ℕ
      all = filter p (range_with_len (a + 1) n)

      before : List ℕ
      before = filter below (range_with_len (a + 1) n)

      none : a ≡ k → before ≡ []
      none same = none_from below (a + 1) n (λ c past within.
          ap (λ t. p c && t) (le-ltb c k (omega (arith, past, same))) ∙ and_false (p c))

      by : (a ≡ k) ⊎ (a ≢ k) → (a < k → IsAt k all before) →
          IsAt k (cond (p a) (a ∷ all) all) (cond (below a) (a ∷ before) before)
      by (inl same) rest =
          let passes : p a ≡ true = ap p same ∙ is in
          let out : below a ≡ false = ap (λ t. p a && t) (le-ltb a k (omega (arith, same))) ∙ and_false (p a) in
          subst (λ (t : Bool). IsAt k (cond t (a ∷ all) all) (cond (below a) (a ∷ before) before)) (sym passes)
          (subst (λ (t : Bool). IsAt k (a ∷ all) (cond t (a ∷ before) before)) (sym out)
          (subst (λ (xs : List ℕ). IsAt k (a ∷ all) xs) (sym (none same))
          (subst (λ (x : ℕ). IsAt k (x ∷ all) []) (sym same) (first_is k all))))
      by (inr other) rest =
          let less : a < k = omega (arith, low, other) in
          let same : below a ≡ p a = ap (λ t. p a && t) (lt-ltb a k less) ∙ and_true (p a) in
          subst (λ (t : Bool). IsAt k (cond (p a) (a ∷ all) all) (cond t (a ∷ before) before)) (sym same)
          (kept a (p a) all before (rest less))

-- a member, by those of the first so many cores
pub member_at : (set first : CoreSet) (k many : ℕ) → k < CORES_MAX → has set k ≡ true →
    ((c : ℕ) → has first c ≡ (has set c && nat_lt c k)) → many ≡ length (members first) →
    (many < length (members set)) × ((d : ℕ) → slice_index_or (members set) many d ≡ k)
member_at set first k many few is first_are long =
    let at : IsAt k (members set) (filter (below (has set) k) (range_with_len 0 CORES_MAX)) =
    ranked (has set) k CORES_MAX 0 is (omega arith) (omega (arith, few)) in
    let same : many ≡ length (filter (below (has set) k) (range_with_len 0 CORES_MAX)) =
    long ∙ ap length (agree_on (has first) (below (has set) k) 0 CORES_MAX (λ c past within. first_are c)) in
    subst (λ (m : ℕ). (m < length (members set)) × ((d : ℕ) → slice_index_or (members set) m d ≡ k)) (sym same)
    (at.within, at.value)

-- the last of two lists is one of the second, where that has any
abbrev last_in : {X : Type 0} → (xs ys : List X) → Option ℕ
last_in xs ys = if length ys == 0 then None else Some (length (xs ++ ys) - 1)

pub last_none : {X : Type 0} (xs ys : List X) → length ys ≡ 0 → None ≡ last_in xs ys
last_none xs [] none = refl
last_none xs (y ∷ ys) none = absurd (omega (arith, none))

pub last_some : {X : Type 0} (xs ys : List X) → 0 < length ys → Some (length (xs ++ ys) - 1) ≡ last_in xs ys
last_some xs [] some = absurd (omega (arith, some))
last_some xs (y ∷ ys) some =
    let there : (length (y ∷ ys) == 0) ≡ false = grind (arith, nat_tests) in
    ap (λ (t : Bool). if t then None else Some (length (xs ++ y ∷ ys) - 1)) (sym there)
