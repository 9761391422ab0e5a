-- Looking values up in lists whose counts rise.
use Rattle.std.proofs.Common.{◌≡◌, ◌≢◌, ℕ, zero, suc, ◌<◌, List, [], ◌∷◌, length, get_or, refl}
use Rattle.std.proofs.Common.{eq-eqb, ne_eqb, arith}
use Rattle.std.specs.Prelude.{Some, None}
use Rattle.rtr_types.specs.Turns.{StandInTurn}
use Rattle.race_log.proofs.RisingSearch.{Rising}
use Rattle.replay_core.specs.Play.{value_at, count_of, AreRising}

abbrev pub no_value : ℕ × ℕ
no_value = (0, 0)

above : (last : ℕ) (values : List (ℕ × ℕ)) → StandInTurn (λ last v. last < v.0) count_of last values → (j : ℕ) →
    j < length values →
    last < (get_or values j no_value).0
above last [] h j lt = absurd (omega arith)
above last (v ∷ values) h zero lt = h.0
above last (v ∷ values) h (suc j) lt = let a = above v.0 values h.1 j (omega arith) in let b = h.0 in omega arith

rise : (last : ℕ) (values : List (ℕ × ℕ)) → StandInTurn (λ last v. last < v.0) count_of last values →
    Rising (λ (v : ℕ × ℕ). v.0) values no_value
rise last [] h i j lt below = absurd (omega arith)
rise last (v ∷ values) h zero zero lt below = absurd (omega arith)
rise last (v ∷ values) h zero (suc j) lt below = above v.0 values h.1 j (omega arith)
rise last (v ∷ values) h (suc i) zero lt below = absurd (omega arith)
rise last (v ∷ values) h (suc i) (suc j) lt below = rise v.0 values h.1 i j (omega arith) (omega arith)

pub values_rise : (values : List (ℕ × ℕ)) → AreRising values → Rising (λ (v : ℕ × ℕ). v.0) values no_value
values_rise values h = rise 0 values h

-- the value at a place is that at its count
found : (last : ℕ) (values : List (ℕ × ℕ)) (k count : ℕ) → StandInTurn (λ last v. last < v.0) count_of last values →
    k < length values →
    (get_or values k no_value).0 ≡ count → value_at values count ≡ Some (get_or values k no_value).1
found last [] k count h lt is = absurd (omega arith)
found last (v ∷ values) zero count h lt is = rw (eq-eqb v.0 count is) refl
found last (v ∷ values) (suc k) count h lt is =
    let up = above v.0 values h.1 k (omega arith) in
    let ne : v.0 ≢ count = λ e. omega (arith, up, e, is) in
    rw (ne_eqb v.0 count ne) (found v.0 values k count h.1 (omega arith) is)

pub value_found : (values : List (ℕ × ℕ)) (k count : ℕ) → AreRising values → k < length values →
    (get_or values k no_value).0 ≡ count →
    value_at values count ≡ Some (get_or values k no_value).1
value_found values k count h lt is = found 0 values k count h lt is

-- and no value stands at a count that none has
pub value_absent : (values : List (ℕ × ℕ)) (count : ℕ) →
    ((j : ℕ) → j < length values → (get_or values j no_value).0 ≡ count → ⊥) → value_at values count ≡ None
value_absent [] count none = refl
value_absent (v ∷ values) count none =
    rw (ne_eqb v.0 count (λ e. none 0 (omega arith) e))
    (value_absent values count (λ j lt e. none (suc j) (omega arith) e))
