-- What bits mean: of one or other word, of both, of the rest; and of sets of the first so many cores, and of one core.
use Prim.Native.Nat.{max, min}
use Rattle.std.proofs.Common.{◌≡◌, ◌∙◌, ◌≢◌, ◌⊎◌, inl, inr, refl, sym, ap, ℕ, ◌*◌, ◌%◌, ◌-◌, ◌^◌, ◌<◌, ◌≤◌, Bool, true}
use Rattle.std.proofs.Common.{false, nat_lt, arith, ◌&&◌, ◌||◌, ◌==◌}
use Rattle.std.specs.Prelude.{bit_and, bit_or, not}
use Rattle.std.specs.Int.{bit_at, bit_not, w64}
use Rattle.std.proofs.lemmas.Bool.{cases_eq, cases_lt}
use Rattle.std.proofs.lemmas.Bool.Decides.{nat_tests}
use Rattle.std.proofs.lemmas.Nat.Bits.{bit_at_above, bit_at-lt, bit_at_and, bit_at_not, bit_at_ones, bit_at_ones_above}
use Rattle.std.proofs.lemmas.Nat.Bits.{bit_at_or}
use Rattle.std.proofs.lemmas.Nat.{one_shl}
use Rattle.rtr_types.specs.CoreSets.{has, no_cores, with_core, without_core}
use Rattle.rtr_types.specs.declared.TheConstants.{CORES_MAX}
use Rattle.rtr_types.specs.declared.core_set.CoreSet.{CoreSet}
use Rattle.rtr_types.proofs.Members.{has-no_cores, has-with_other, has-with_same, has-without_other}
use Rattle.move_marks.proofs.AnswerMarks.{below_is, past_is}

digit : (x : ℕ) → x < 2 → (x ≡ 0) ⊎ (x ≡ 1)
digit x within = grind arith

or_digit : (x y : ℕ) → x < 2 → y < 2 → (max x y == 1) ≡ ((x == 1) || (y == 1))
or_digit x y p q = by (digit x p) (digit y q)
  where
    by : (x ≡ 0) ⊎ (x ≡ 1) → (y ≡ 0) ⊎ (y ≡ 1) → (max x y == 1) ≡ ((x == 1) || (y == 1))
    by (inl a) (inl b) = rw (a, b)
    by (inl a) (inr b) = rw (a, b)
    by (inr a) (inl b) = rw (a, b)
    by (inr a) (inr b) = rw (a, b)

and_digit : (x y : ℕ) → x < 2 → y < 2 → (min x y == 1) ≡ ((x == 1) && (y == 1))
and_digit x y p q = by (digit x p) (digit y q)
  where
    by : (x ≡ 0) ⊎ (x ≡ 1) → (y ≡ 0) ⊎ (y ≡ 1) → (min x y == 1) ≡ ((x == 1) && (y == 1))
    by (inl a) (inl b) = rw (a, b)
    by (inl a) (inr b) = rw (a, b)
    by (inr a) (inl b) = rw (a, b)
    by (inr a) (inr b) = rw (a, b)

not_digit : (y : ℕ) → y < 2 → (1 - y == 1) ≡ not (y == 1)
not_digit y q = by (digit y q)
  where
    by : (y ≡ 0) ⊎ (y ≡ 1) → (1 - y == 1) ≡ not (y == 1)
    by (inl b) = rw b
    by (inr b) = rw b

-- the bit is set
abbrev pub is_bit : ℕ → ℕ → Bool
is_bit n i = bit_at n i == 1

pub bit_or_is : (a b i : ℕ) → is_bit (bit_or a b) i ≡ (is_bit a i || is_bit b i)
bit_or_is a b i =
    ap (λ (x : ℕ). x == 1) (bit_at_or a b i) ∙ or_digit (bit_at a i) (bit_at b i) (bit_at-lt a i) (bit_at-lt b i)

pub bit_and_is : (a b i : ℕ) → is_bit (bit_and a b) i ≡ (is_bit a i && is_bit b i)
bit_and_is a b i =
    ap (λ (x : ℕ). x == 1) (bit_at_and a b i) ∙ and_digit (bit_at a i) (bit_at b i) (bit_at-lt a i) (bit_at-lt b i)

pub bit_not_is : (b i : ℕ) → b < 2 ^ 64 → i < 64 → is_bit (bit_not w64 b) i ≡ not (is_bit b i)
bit_not_is b i fits within =
    ap (λ (x : ℕ). x == 1) (bit_at_not w64 b i fits within) ∙ not_digit (bit_at b i) (bit_at-lt b i)

pub has_is : (set : CoreSet) (c : ℕ) → has set c ≡ is_bit set.bits c
unfolding has
has_is set c = refl

has_common : (a b c : ℕ) → has (record { bits = bit_and a b }) c
    ≡ (has (record { bits = a }) c && has (record { bits = b }) c)
unfolding has
has_common a b c = bit_and_is a b c

-- no core is in a set that there can't be
pub none_past : (set : CoreSet) (c : ℕ) → set.bits < 2 ^ CORES_MAX → CORES_MAX ≤ c → has set c ≡ false
unfolding has
none_past set c fits past = ap (λ (x : ℕ). x == 1) (bit_at_above set.bits CORES_MAX c fits past)

-- the bits of the first so many
has_first : (cores c : ℕ) → has (record { bits = 2 ^ cores - 1 }) c ≡ nat_lt c cores
unfolding has
has_first cores c = by (cases_lt c cores)
  where
    by : (c < cores) ⊎ (cores ≤ c) → (bit_at (2 ^ cores - 1) c == 1) ≡ nat_lt c cores
    by (inl within) = rw (bit_at_ones cores c within, below_is c cores within)
    by (inr past) = rw (bit_at_ones_above cores c past, past_is c cores past)

pub first_common : (a cores c : ℕ) → cores ≤ CORES_MAX →
    has (record { bits = bit_and a (1 * 2 ^ cores % 4294967296 - 1) }) c
    ≡ (has (record { bits = a }) c && nat_lt c cores)
first_common a cores c few =
    ap (λ (b : ℕ). has (record { bits = bit_and a (b - 1) }) c) (one_shl cores 32 (omega arith))
    ∙ has_common a (2 ^ cores - 1) c
    ∙ ap (λ (x : Bool). has (record { bits = a }) c && x) (has_first cores c)

-- a set without a core has the others that it had
pub others_left : (set : CoreSet) (core c : ℕ) → set.bits < 2 ^ CORES_MAX →
    (without_core set core).bits < 2 ^ CORES_MAX → core < CORES_MAX → c ≢ core →
    has (without_core set core) c ≡ has set c
others_left set core c fits left within other = by (cases_lt c CORES_MAX)
  where
    by : (c < CORES_MAX) ⊎ (CORES_MAX ≤ c) → has (without_core set core) c ≡ has set c
    by (inl here) = has-without_other set core c within here other
    by (inr past) = none_past (without_core set core) c left past ∙ sym (none_past set c fits past)

-- the set of one core, which is one of the first
pub one_heard : (set : CoreSet) (to cores c : ℕ) → to < cores → cores ≤ CORES_MAX → set ≡ with_core no_cores to →
    has set c ≡ ((c == to) && nat_lt c cores)
one_heard set to cores c here few is = ap (λ (s : CoreSet). has s c) is ∙ by (cases_eq c to)
  where
    both : (c : ℕ) → c ≡ to → ((c == to) && nat_lt c cores) ≡ true
    both c same = grind (arith, nat_tests, same, here)

    neither : (b : Bool) → (c ≡ to → ⊥) → ((c == to) && b) ≡ false
    neither b other = grind (arith, nat_tests, other)

    by : (c ≡ to) ⊎ (c ≡ to → ⊥) → has (with_core no_cores to) c ≡ ((c == to) && nat_lt c cores)
    by (inl same) = ap (λ (k : ℕ). has (with_core no_cores to) k) same
        ∙ has-with_same no_cores to (omega arith) ∙ sym (both c same)
    by (inr other) = has-with_other no_cores to c (omega arith) other ∙ has-no_cores c
        ∙ sym (neither (nat_lt c cores) other)

-- or of none, where it isn't
pub none_heard : (to cores c : ℕ) → cores ≤ to → false ≡ ((c == to) && nat_lt c cores)
none_heard to cores c past = by (cases_lt c cores)
  where
    by : (c < cores) ⊎ (cores ≤ c) → false ≡ ((c == to) && nat_lt c cores)
    by (inl within) = grind (arith, nat_tests, within, past)
    by (inr out) = grind (arith, nat_tests, out)
