-- Sets of cores by tests: they have the cores that pass, and are one set where they have the same cores.
use Rattle.std.proofs.Common.{◌≡◌, ◌⊎◌, ◌∙◌, ◌≢◌, inl, inr, refl, sym, ap, ℕ, zero, suc, ◌<◌, ◌≤◌, ◌^◌, Bool, true}
use Rattle.std.proofs.Common.{false}
use Rattle.std.proofs.Common.{arith, ◌&&◌}
use Rattle.std.specs.Prelude.{IsTrue, ◌==◌, nat_lt, if◌then◌else◌}
use Rattle.std.specs.Int.{bit_at, bit_not}
use Rattle.std.proofs.lemmas.Bool.{cases_eq}
use Rattle.std.proofs.lemmas.Bool.Decides.{nat_tests}
use Rattle.std.proofs.lemmas.Nat.Bits.{bit_at-lt, same_from_bits_below}
use Rattle.rtr_types.specs.CoreSets.{has, is_below, set_width, with_core}
use Rattle.rtr_types.specs.declared.TheConstants.{CORES_MAX}
use Rattle.rtr_types.specs.declared.core_set.CoreSet.{CoreSet}
use Rattle.rtr_types.proofs.Members.{has-no_cores, has-with_other, has-with_same, no_cores_below, with_below}
use Rattle.move_marks.proofs.SetBits.{bit_and_is, is_bit}
use Rattle.turn_lists.specs.declared.actor.Actor.{Actor}
use Rattle.turn_lists.specs.declared.actor.Actor.TheVariants.{Buffer, Core as CoreActor}
use Rattle.turn_policies.specs.Listed.{is_listed}
use Rattle.turn_policies.specs.declared.actor_set.ActorSet.{ActorSet}
use Rattle.hunt_runs.specs.Directing.{without}
use Rattle.hunt_runs.specs.PlainSeen.{cores_that}

-- ---- those that pass a test

-- a set with the core where so is told
with_if : (set : CoreSet) (n c : ℕ) (b : Bool) → n < CORES_MAX → c ≢ n →
    has (if b then with_core set n else set) c ≡ has set c
with_if set n c true few other = has-with_other set n c few other
with_if set n c false few other = refl

-- a core from the n-th on isn't among the first n
pub past_that : (test : ℕ → Bool) (n c : ℕ) → n ≤ CORES_MAX → n ≤ c → has (cores_that test n) c ≡ false
past_that test zero c few past = has-no_cores c
past_that test (suc n) c few past =
    with_if (cores_that test n) n c (test n) (omega (arith, few)) (λ same. absurd (omega (arith, same, past)))
    ∙ past_that test n c (omega (arith, few)) (omega (arith, past))

this_if : (set : CoreSet) (n : ℕ) (b : Bool) → n < CORES_MAX → has set n ≡ false →
    has (if b then with_core set n else set) n ≡ b
this_if set n true few none = has-with_same set n few
this_if set n false few none = none

-- one before it is where it passes
pub has_that : (test : ℕ → Bool) (n c : ℕ) → n ≤ CORES_MAX → c < n → has (cores_that test n) c ≡ test c
has_that test zero c few within = absurd (omega (arith, within))
has_that test (suc n) c few within =
    by (cases_eq c n) (λ before. has_that test n c (omega (arith, few)) before)
  where
    set : CoreSet
    set = cores_that test n

    by : (c ≡ n) ⊎ (c ≢ n) → (c < n → has set c ≡ test c) → has (if test n then with_core set n else set) c ≡ test c
    by (inl same) earlier =
        ap (λ (k : ℕ). has (if test n then with_core set n else set) k) same
        ∙ this_if set n (test n) (omega (arith, few)) (past_that test n n (omega (arith, few)) (omega arith))
        ∙ ap test (sym same)
    by (inr other) earlier =
        with_if set n c (test n) (omega (arith, few)) other ∙ earlier (omega (arith, within, other))

if_below : (set : CoreSet) (n : ℕ) (b : Bool) → IsTrue (is_below set) →
    IsTrue (is_below (if b then with_core set n else set))
if_below set n true below = with_below set n below
if_below set n false below = below

pub below_that : (test : ℕ → Bool) (n : ℕ) → IsTrue (is_below (cores_that test n))
below_that test zero = no_cores_below
below_that test (suc n) = if_below (cores_that test n) n (test n) (below_that test n)

-- ---- sets with the same cores

same_bit : (x y : ℕ) → x < 2 → y < 2 → (x == 1) ≡ (y == 1) → x ≡ y
same_bit x y low high same = grind (arith, nat_tests, low, high, same)

pub same_set : (a b : CoreSet) → a.bits < 2 ^ CORES_MAX → b.bits < 2 ^ CORES_MAX →
    ((c : ℕ) → c < CORES_MAX → has a c ≡ has b c) → a ≡ b
unfolding has
same_set a b low high same =
    ap (λ (bits : ℕ). record { bits = bits })
    (same_from_bits_below CORES_MAX a.bits b.bits low high
    (λ i within. same_bit (bit_at a.bits i) (bit_at b.bits i) (bit_at-lt a.bits i) (bit_at-lt b.bits i)
    (same i within)))

below_is : (n m : ℕ) → IsTrue (nat_lt n m) → n < m
below_is n m is = grind (arith, nat_tests, is)

-- a set that has just the cores that pass a test
pub set_is_that : (set : CoreSet) (test : ℕ → Bool) → set.bits < 2 ^ CORES_MAX →
    ((c : ℕ) → has set c ≡ test c) → set ≡ cores_that test CORES_MAX
set_is_that set test low is =
    let high : (cores_that test CORES_MAX).bits < 2 ^ CORES_MAX =
    below_is (cores_that test CORES_MAX).bits (2 ^ CORES_MAX) (below_that test CORES_MAX) in
    same_set set (cores_that test CORES_MAX) low high
    (λ c within. is c ∙ sym (has_that test CORES_MAX c (omega arith) within))

-- ---- a set without another's cores

both_first : (a b : Bool) → (a && b) ≡ true → a ≡ true
both_first true b both = refl
both_first false b both = both

-- has no others than that one has
pub without_has : (set gone : CoreSet) (c : ℕ) → has (without set gone) c ≡ true → has set c ≡ true
unfolding has without
without_has set gone c is =
    both_first (is_bit set.bits c) (is_bit (bit_not set_width gone.bits) c)
    (sym (bit_and_is set.bits (bit_not set_width gone.bits) c) ∙ is)

-- an actor that is left where some cores were taken out was there before
pub listed_before : (set : ActorSet) (gone : CoreSet) (a : Actor) →
    is_listed (record set { cores = without set.cores gone }) a ≡ true → is_listed set a ≡ true
listed_before set gone (CoreActor c) is = without_has set.cores gone c is
listed_before set gone (Buffer c) is = is
