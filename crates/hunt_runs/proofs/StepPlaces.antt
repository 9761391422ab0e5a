-- The numbers of actors' steps among those enabled.
use Rattle.std.proofs.Common.{◌≡◌, ◌∙◌, ◌⊎◌, inl, inr, sym, ap, ℕ, ◌-◌, ◌*◌, ◌%◌, ◌^◌, ◌<◌, ◌≤◌, true, false}
use Rattle.std.proofs.Common.{◌&&◌, length, arith}
use Rattle.std.specs.Prelude.{bit_and, nat_lt}
use Rattle.rtr_types.specs.CoreSets.{has}
use Rattle.rtr_types.specs.declared.TheConstants.{CORES_MAX}
use Rattle.rtr_types.specs.declared.core_set.CoreSet.{CoreSet}
use Rattle.std.proofs.lemmas.Bool.{cases_lt}
use Rattle.std.proofs.lemmas.Nat.{one_shl}
use Rattle.std.proofs.Math.Pow.{pow-lt, pow_mono}
use Rattle.move_marks.proofs.MemberNumbers.{member_at}
use Rattle.move_marks.proofs.MoveOrder.{agree_on}
use Rattle.move_marks.proofs.SetBits.{first_common, none_past}
use Rattle.move_marks.specs.Members.{members}
use Rattle.hunt_runs.specs.Seen.{place_in}

-- so many bits of a set are those of its cores below one
pub place_is : (set : CoreSet) (k many : ℕ) → k ≤ CORES_MAX →
    many ≡ length (members (record { bits = bit_and set.bits (1 * 2 ^ k % 4294967296 - 1) })) → many ≡ place_in set k
place_is set k many few is =
    is ∙ ap length (agree_on (has (record { bits = bit_and set.bits (1 * 2 ^ k % 4294967296 - 1) }))
    (λ c. has set c && nat_lt c k) 0 CORES_MAX (λ c past within. first_common set.bits k c few))

-- they are fewer than all
pub place_within : (set : CoreSet) (k many : ℕ) → k < CORES_MAX → has set k ≡ true →
    many ≡ length (members (record { bits = bit_and set.bits (1 * 2 ^ k % 4294967296 - 1) })) →
    many < length (members set)
place_within set k many few is long =
    (member_at set (record { bits = bit_and set.bits (1 * 2 ^ k % 4294967296 - 1) }) k many few is
    (λ c. first_common set.bits k c (omega (arith, few))) long).0

-- a core of a set is one that there can be
pub member_few : (set : CoreSet) (k : ℕ) → set.bits < 2 ^ CORES_MAX → has set k ≡ true → k < CORES_MAX
member_few set k fits is = by (cases_lt k CORES_MAX)
  where
    by : (k < CORES_MAX) ⊎ (CORES_MAX ≤ k) → k < CORES_MAX
    by (inl few) = few
    by (inr past) = let wrong : true ≡ false = sym is ∙ none_past set k fits past in absurd cc

-- the bits of the first so many cores are a word
pub bits_fit : (k : ℕ) → k < CORES_MAX →
    (1 ≤ 1 * 2 ^ k % 4294967296) × (1 * 2 ^ k % 4294967296 - 1 < 2 ^ 16)
bits_fit k few =
    let one : 1 * 2 ^ k % 4294967296 ≡ 2 ^ k = one_shl k 32 (omega (arith, few)) in
    let least : 2 ^ 0 ≤ 2 ^ k = pow_mono {i = 0} {j = k} (omega arith) in
    let most : 2 ^ k < 2 ^ 16 = pow-lt {i = k} {j = 16} (omega (arith, few)) in
    (omega (arith, one, least), omega (arith, one, most))
