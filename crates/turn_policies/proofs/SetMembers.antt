-- The members of a set of cores are in it, and no core is that there can't be.
use Rattle.std.proofs.Common.{◌≡◌, refl, sym, subst, ℕ, zero, suc, ◌<◌, ◌≤◌, ◌^◌, Bool, true, false, List, [], ◌∷◌}
use Rattle.std.proofs.Common.{length, get_or, arith}
use Rattle.std.specs.Prelude.{filter}
use Rattle.std.specs.List.{range_with_len}
use Rattle.std.proofs.lemmas.Nat.Bits.{bit_at_above}
use Rattle.rtr_types.specs.CoreSets.{has}
use Rattle.rtr_types.specs.declared.TheConstants.{CORES_MAX}
use Rattle.rtr_types.specs.declared.core_set.CoreSet.{CoreSet}
use Rattle.move_marks.specs.Members.{members}

filter_yes : {X : Type 0} (p : X → Bool) (x : X) (xs : List X) → p x ≡ true → filter p (x ∷ xs) ≡ x ∷ filter p xs
filter_yes p x xs is = rw is refl

filter_no : {X : Type 0} (p : X → Bool) (x : X) (xs : List X) → p x ≡ false → filter p (x ∷ xs) ≡ filter p xs
filter_no p x xs is = rw is refl

pub filter_at : {X : Type 0} (p : X → Bool) (xs : List X) (n : ℕ) (d : X) → n < length (filter p xs) →
    p (get_or (filter p xs) n d) ≡ true
filter_at p [] n d within = absurd (omega arith)
filter_at {X = X} p (x ∷ xs) n d within = by (p x) refl (λ (m : ℕ) h. filter_at p xs m d h)
  where
    here : p x ≡ true → ((k : ℕ) → k < length (filter p xs) → p (get_or (filter p xs) k d) ≡ true) →
        (m : ℕ) → m < length (x ∷ filter p xs) → p (get_or (x ∷ filter p xs) m d) ≡ true
    here is rest zero h = is
    here is rest (suc m) h = rest m (omega arith)

    by : (b : Bool) → p x ≡ b → ((k : ℕ) → k < length (filter p xs) → p (get_or (filter p xs) k d) ≡ true) →
        p (get_or (filter p (x ∷ xs)) n d) ≡ true
    by true is rest =
        subst (λ (ls : List X). p (get_or ls n d) ≡ true) (sym (filter_yes p x xs is))
        (here is rest n (subst (λ (ls : List X). n < length ls) (filter_yes p x xs is) within))
    by false is rest =
        subst (λ (ls : List X). p (get_or ls n d) ≡ true) (sym (filter_no p x xs is))
        (rest n (subst (λ (ls : List X). n < length ls) (filter_no p x xs is) within))

pub member_has : (set : CoreSet) (n d : ℕ) → n < length (members set) → has set (get_or (members set) n d) ≡ true
member_has set n d within = filter_at (has set) (range_with_len 0 CORES_MAX) n d within

pub has_past : (set : CoreSet) (core : ℕ) → set.bits < 2 ^ CORES_MAX → CORES_MAX ≤ core → has set core ≡ false
unfolding has
has_past set core fits past = rw (bit_at_above set.bits CORES_MAX core fits past) refl
