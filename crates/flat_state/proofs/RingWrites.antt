-- What a ring of sixteen places holds, as something is written behind the newest, and as the oldest is taken.
use Rattle.std.proofs.Common.{◌≡◌, ℕ, ◌+◌, ◌-◌, ◌<◌, ◌≤◌, ◌%◌, ◌⊎◌, List, [], ◌∷◌, ◌++◌, length, arith, set, get_or}
use Rattle.std.proofs.Common.{inl, inr, sym, ap, ◌∙◌, true, false, zero, suc}
use Rattle.std.proofs.lemmas.Bool.{cases_lt}
use Rattle.link_order.specs.Queue.{around, is_nil}
use Rattle.link_order.proofs.Rings.{around_next, around_none, around_write}

pub written : {X : Type 0} (slots : List X) (first count : ℕ) (x : X) → length slots ≡ 16 → first < 16 → count < 16 →
    around (set slots ((first + count) % 16) x) first (count + 1) ≡ around slots first count ++ x ∷ []
written slots first count x long starts room =
    around_write slots first count ((first + count) % 16) x (omega (arith, long)) (omega (arith, long))
    (omega (arith, long)) (round (cases_lt (first + count) 16))
  where
    round : (first + count < 16) ⊎ (16 ≤ first + count) →
        ((first + count) % 16 ≡ first + count) ⊎ ((first + count) % 16 + length slots ≡ first + count)
    round (inl low) = inl (omega (arith, low))
    round (inr high) = inr (omega (arith, high, long, starts, room))

pub taken : {X : Type 0} (slots : List X) (first count : ℕ) (x : X) → length slots ≡ 16 → first < 16 → 0 < count →
    count ≤ 16 → x ≡ get_or slots first x →
    around slots first count ≡ x ∷ around slots ((first + 1) % 16) (count - 1)
taken slots first count x long starts some fits is =
    around_next slots first count ((first + 1) % 16) x some (omega (arith, long, fits)) (omega (arith, long, starts))
    (omega (arith, long)) (round (cases_lt (first + 1) 16))
    ∙ ap (λ y. y ∷ around slots ((first + 1) % 16) (count - 1)) (sym is)
  where
    round : (first + 1 < 16) ⊎ (16 ≤ first + 1) →
        ((first + 1) % 16 ≡ first + 1) ⊎ ((first + 1) % 16 + length slots ≡ first + 1)
    round (inl low) = inl (omega (arith, low))
    round (inr high) = inr (omega (arith, high, long, starts))

-- a ring that isn't empty has something
pub some_around : {X : Type 0} (slots : List X) (first count : ℕ) → length slots ≡ 16 → count ≤ 16 →
    is_nil (around slots first count) ≡ false → 0 < count
some_around slots first zero long fits some =
    absurd (let none : is_nil (around slots first 0) ≡ true = ap is_nil (around_none slots first) in cc)
some_around slots first (suc n) long fits some = omega arith
