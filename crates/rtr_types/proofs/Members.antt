-- What the words on sets of cores mean.
use Rattle.std.proofs.Common.{◌≡◌, ◌∙◌, ◌≢◌, refl, sym, ℕ, ◌<◌, ◌*◌, ◌%◌, ◌^◌, arith, Bool, true, false, IsTrue}
use Rattle.std.specs.Int.{bit_not, trailing_zeros}
use Rattle.std.proofs.lemmas.Nat.Bits.{bit_at_set_same, bit_at_set_other, bit_at_clear_same, bit_at_clear_other}
use Rattle.std.proofs.lemmas.Nat.Bits.{bit_at-zero, bit_at-trailing_zeros}
use Rattle.std.proofs.lemmas.Nat.{or_lt, and_le_l}
use Rattle.std.proofs.lemmas.Bool.Decides.{nat_tests}
use Rattle.rtr_types.specs.declared.TheConstants.{CORES_MAX}
use Rattle.rtr_types.specs.declared.core_set.CoreSet.{CoreSet}
use Rattle.rtr_types.specs.CoreSets.{has, with_core, without_core, is_below, is_none, no_cores, set_width}

pub has-with_same : (s : CoreSet) (c : ℕ) → c < CORES_MAX → has (with_core s c) c ≡ true
unfolding has with_core
has-with_same s c h = rw (bit_at_set_same set_width s.bits c h)

pub has-with_other : (s : CoreSet) (c d : ℕ) → c < CORES_MAX → d ≢ c → has (with_core s c) d ≡ has s d
unfolding has with_core
has-with_other s c d h n = rw (bit_at_set_other set_width s.bits c h d n)

pub has-without_same : (s : CoreSet) (c : ℕ) → c < CORES_MAX → has (without_core s c) c ≡ false
unfolding has without_core
has-without_same s c h = rw (bit_at_clear_same set_width s.bits c h)

pub has-without_other : (s : CoreSet) (c d : ℕ) → c < CORES_MAX → d < CORES_MAX → d ≢ c →
    has (without_core s c) d ≡ has s d
unfolding has without_core
has-without_other s c d h k n = rw (bit_at_clear_other set_width s.bits c h d k n)

pub has-none : (s : CoreSet) (d : ℕ) → is_none s ≡ true → has s d ≡ false
unfolding has
has-none s d h = let e : s.bits ≡ 0 = grind (arith, nat_tests) in rw (e, bit_at-zero d)

pub has-no_cores : (d : ℕ) → has no_cores d ≡ false
has-no_cores d = has-none no_cores d refl

pub has-some : (s : CoreSet) → IsTrue (is_below s) → is_none s ≡ false → (d : ℕ) × (d < CORES_MAX) × (has s d ≡ true)
unfolding has
has-some s fits h =
    let some : 0 < s.bits = grind (arith, nat_tests) in
    let within : s.bits < 2 ^ CORES_MAX = grind (arith, nat_tests) in
    let low = bit_at-trailing_zeros set_width s.bits some within in
    (trailing_zeros set_width s.bits, low.0, rw low.1)

with_nonempty_at : (s : CoreSet) (c : ℕ) (b : Bool) → c < CORES_MAX → is_none (with_core s c) ≡ b → b ≡ false
with_nonempty_at s c false lt e = refl
with_nonempty_at s c true lt e = sym (has-with_same s c lt) ∙ has-none (with_core s c) c e

pub with_nonempty : (s : CoreSet) (c : ℕ) → c < CORES_MAX → is_none (with_core s c) ≡ false
with_nonempty s c lt = with_nonempty_at s c (is_none (with_core s c)) lt refl

pub no_cores_below : IsTrue (is_below no_cores)
no_cores_below = grind (arith, nat_tests)

pub with_below : (s : CoreSet) (c : ℕ) → IsTrue (is_below s) → IsTrue (is_below (with_core s c))
unfolding with_core
with_below s c fits =
    let within : s.bits < 2 ^ CORES_MAX = grind (arith, nat_tests) in
    let more = or_lt CORES_MAX s.bits (1 * 2 ^ c % 2 ^ CORES_MAX) within (omega arith) in
    grind (arith, nat_tests, more)

pub without_below : (s : CoreSet) (c : ℕ) → IsTrue (is_below s) → IsTrue (is_below (without_core s c))
unfolding without_core
without_below s c fits =
    let within : s.bits < 2 ^ CORES_MAX = grind (arith, nat_tests) in
    let less = and_le_l s.bits (bit_not set_width (1 * 2 ^ c % 2 ^ CORES_MAX)) in
    grind (arith, nat_tests, less)
