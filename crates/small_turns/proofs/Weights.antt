-- Turns weigh less once some are left out, or one has a lower count.
use Rattle.std.proofs.Common.{◌≡◌, ◌∙◌, refl, ap, ℕ, zero, suc, ◌+◌, ◌-◌, ◌<◌, ◌≤◌, Bool, true, false}
use Rattle.std.proofs.Common.{List, [], ◌∷◌, ◌++◌, length, get_or, take, drop, arith, length-drop}
use Rattle.std.specs.Prelude.{sum_by}
use Rattle.std.proofs.lemmas.List.Sums.{sum_by-cons}
use Rattle.turn_lists.specs.Actors.{is_same}
use Rattle.turn_lists.specs.Turns.{count_at, joined, joined_from, left_out, together, with_count}
use Rattle.turn_lists.specs.declared.actor.Turn.{Turn}
use Rattle.small_turns.specs.Passes.{IsNoLarger, weight}

abbrev count : Turn → ℕ
count t = t.count

abbrev total : List Turn → ℕ
total ts = sum_by count ts

together_least : (m n : ℕ) → together m n ≤ m + n
together_least m n = omega arith

-- joined turns are no more, and make no more accesses
joined_from_long : (t : Turn) (us : List Turn) → length (joined_from t us) ≤ suc (length us)
joined_from_long t [] = omega arith
joined_from_long t (u ∷ us) =
    by (is_same t.actor u.actor) refl (joined_from_long (record t { count = together t.count u.count }) us)
    (joined_from_long u us)
  where
    by : (b : Bool) → is_same t.actor u.actor ≡ b →
        length (joined_from (record t { count = together t.count u.count }) us) ≤ suc (length us) →
        length (joined_from u us) ≤ suc (length us) → length (joined_from t (u ∷ us)) ≤ suc (suc (length us))
    by true same one two = rw same (omega (arith, one))
    by false other one two = rw other (omega (arith, two))

joined_from_total : (t : Turn) (us : List Turn) → total (joined_from t us) ≤ t.count + total us
joined_from_total t [] = omega (arith, sum_by-cons count t [])
joined_from_total t (u ∷ us) =
    by (is_same t.actor u.actor) refl (joined_from_total (record t { count = together t.count u.count }) us)
    (joined_from_total u us)
  where
    by : (b : Bool) → is_same t.actor u.actor ≡ b →
        total (joined_from (record t { count = together t.count u.count }) us)
        ≤ together t.count u.count + total us →
        total (joined_from u us) ≤ u.count + total us → total (joined_from t (u ∷ us)) ≤ t.count + total (u ∷ us)
    by true same one two =
        rw same (omega (arith, one, together_least t.count u.count, sum_by-cons count u us))
    by false other one two =
        rw other (omega (arith, two, sum_by-cons count u us, sum_by-cons count t (joined_from u us)))

joined_long : (ts : List Turn) → length (joined ts) ≤ length ts
unfolding joined
joined_long [] = omega arith
joined_long (t ∷ ts) = joined_from_long t ts

joined_total : (ts : List Turn) → total (joined ts) ≤ total ts
unfolding joined
joined_total [] = omega arith
joined_total (t ∷ ts) = omega (arith, joined_from_total t ts, sum_by-cons count t ts)

sum_halves : (k : ℕ) (ts : List Turn) → total (take k ts) + total (drop k ts) ≡ total ts
sum_halves zero ts = omega arith
sum_halves (suc k) [] = omega arith
sum_halves (suc k) (t ∷ ts) =
    omega (arith, sum_halves k ts, sum_by-cons count t (take k ts), sum_by-cons count t ts)

-- fewer turns and accesses are in the front up to a place and what is from a later one on
cut_total : (from to : ℕ) (ts : List Turn) → from ≤ to → total (take from ts ++ drop to ts) ≤ total ts
cut_total zero to ts h = omega (arith, sum_halves to ts)
cut_total (suc from) zero ts h = absurd (omega arith)
cut_total (suc from) (suc to) [] h = omega arith
cut_total (suc from) (suc to) (t ∷ ts) h =
    omega (
      arith,
      cut_total from to ts (omega arith),
      sum_by-cons count t (take from ts ++ drop to ts),
      sum_by-cons count t ts,
    )

cut_long : (from to : ℕ) (ts : List Turn) → from ≤ to → to ≤ length ts →
    length (take from ts ++ drop to ts) + (to - from) ≡ length ts
cut_long zero to ts h w = omega (arith, length-drop to ts)
cut_long (suc from) zero ts h w = absurd (omega arith)
cut_long (suc from) (suc to) [] h w = absurd (omega arith)
cut_long (suc from) (suc to) (t ∷ ts) h w = omega (arith, cut_long from to ts (omega arith) (omega arith))

pub left_out_long : (from to : ℕ) (ts : List Turn) → from ≤ to → to ≤ length ts →
    length (left_out from to ts) + (to - from) ≤ length ts
left_out_long from to ts h w =
    omega (arith, joined_long (take from ts ++ drop to ts), cut_long from to ts h w)

pub left_out_no_larger : (from to : ℕ) (ts : List Turn) → from ≤ to → to ≤ length ts →
    IsNoLarger ts (left_out from to ts)
left_out_no_larger from to ts h w = record {
  fewer = omega (arith, left_out_long from to ts h w);
  shorter = omega (arith, joined_total (take from ts ++ drop to ts), cut_total from to ts h);
}

pub left_out_lighter : (from to : ℕ) (ts : List Turn) → from < to → to ≤ length ts →
    weight (left_out from to ts) < weight ts
left_out_lighter from to ts h w =
    omega (
      arith,
      left_out_long from to ts (omega arith) w,
      joined_total (take from ts ++ drop to ts),
      cut_total from to ts (omega arith),
    )

-- the count at a place, as code reads it
count_read : (ts : List Turn) (k : ℕ) (d : Turn) → k < length ts → (get_or ts k d).count ≡ count_at k ts
count_read [] k d h = absurd (omega arith)
count_read (t ∷ ts) zero d h = refl
count_read (t ∷ ts) (suc k) d h = count_read ts k d (omega arith)

pub count_most : (ts : List Turn) (k : ℕ) (d : Turn) → k < length ts → (get_or ts k d).count ≤ count_at k ts
count_most ts k d h = omega (arith, count_read ts k d h)

pub read_less : (ts us : List Turn) (k n : ℕ) (d : Turn) → us ≡ ts → k < length ts → n < (get_or us k d).count →
    n < count_at k ts
read_less ts us k n d is h less =
    omega (arith, less, ap (λ (vs : List Turn). (get_or vs k d).count) is, count_read ts k d h)

pub read_most : (ts us : List Turn) (k n : ℕ) (d : Turn) → us ≡ ts → k < length ts → (get_or us k d).count ≤ n →
    count_at k ts ≤ n
read_most ts us k n d is h most =
    omega (arith, most, ap (λ (vs : List Turn). (get_or vs k d).count) is, count_read ts k d h)

own_count : (ts : List Turn) (k : ℕ) → with_count k (count_at k ts) ts ≡ ts
own_count [] zero = refl
own_count [] (suc k) = refl
own_count (t ∷ ts) zero = refl
own_count (t ∷ ts) (suc k) = ap (λ (us : List Turn). t ∷ us) (own_count ts k)

pub with_count_long : (ts : List Turn) (k n : ℕ) → length (with_count k n ts) ≡ length ts
with_count_long [] zero n = refl
with_count_long [] (suc k) n = refl
with_count_long (t ∷ ts) zero n = refl
with_count_long (t ∷ ts) (suc k) n = omega (arith, with_count_long ts k n)

with_count_total : (ts : List Turn) (k n : ℕ) → k < length ts → n < count_at k ts →
    total (with_count k n ts) < total ts
with_count_total [] k n h less = absurd (omega arith)
with_count_total (t ∷ ts) zero n h less =
    omega (arith, sum_by-cons count (record t { count = n }) ts, sum_by-cons count t ts)
with_count_total (t ∷ ts) (suc k) n h less =
    omega (
      arith,
      with_count_total ts k n (omega arith) less,
      sum_by-cons count t (with_count k n ts),
      sum_by-cons count t ts,
    )

pub with_count_no_larger : (ts : List Turn) (k n : ℕ) → k < length ts → n < count_at k ts →
    IsNoLarger ts (with_count k n ts)
with_count_no_larger ts k n h less = record {
  fewer = omega (arith, with_count_long ts k n);
  shorter = omega (arith, with_count_total ts k n h less);
}

pub with_count_lighter : (ts : List Turn) (k n : ℕ) → k < length ts → n < count_at k ts →
    weight (with_count k n ts) < weight ts
with_count_lighter ts k n h less = omega (arith, with_count_long ts k n, with_count_total ts k n h less)

-- with the count that is read in a place turns are as they were
pub own_read : (breaks : List Turn → Bool) (ts : List Turn) (k : ℕ) (d : Turn) → k < length ts → breaks ts ≡ true →
    breaks (with_count k (get_or ts k d).count ts) ≡ true
own_read breaks ts k d h so =
    ap (λ (n : ℕ). breaks (with_count k n ts)) (count_read ts k d h) ∙ ap breaks (own_count ts k) ∙ so
