-- What the code's shifts, masks and sign extension compute.
use Rattle.std.proofs.Common.{◌≡◌, ℕ, zero, suc, ◌-◌, ◌*◌, ◌/◌, ◌%◌, ◌^◌, ◌<◌, ◌≤◌, arith, ◌-ℤ◌, FitsSigned, w32, to_z}
use Rattle.std.proofs.Common.{of_z}
use Rattle.std.specs.Int.Bits.{bit_and}
use Rattle.std.proofs.lemmas.Bool.Decides.{nat_tests}
use Rattle.std.proofs.lemmas.Int.{ints}
use Rattle.std.proofs.lemmas.Nat.{and_mask, one_shl}
use Rattle.std.proofs.Math.Nat.{pow-succ'}
use Rattle.std.proofs.Math.Pow.{pow_mono}
use Rattle.rv_decode.specs.Fields.{field, signed}

pub masked : (word low width : ℕ) → width < 32 → bit_and (word / 2 ^ low) (1 * 2 ^ width % 2 ^ 32 - 1) ≡ field word low
    width
unfolding field
masked word low width small = rw (one_shl width 32 small) (and_mask (word / 2 ^ low) width)

-- twice the weight of the highest bit is one above the greatest value of the bits
double_top : (width : ℕ) → 1 ≤ width → 2 ^ width ≡ 2 * 2 ^ (width - 1)
double_top zero some = absurd (omega arith)
double_top (suc k) some =
    let less : suc k - 1 ≡ k = omega arith in
    rw less (pow-succ' 2 k)

pub extends_zero : (bits width : ℕ) → 1 ≤ width → width ≤ 21
    → bits < 1 * 2 ^ (width - 1) % 2 ^ 32 → to_z w32 bits ≡ signed width bits
unfolding signed
extends_zero bits width some small below =
    let top : 1 * 2 ^ (width - 1) % 2 ^ 32 ≡ 2 ^ (width - 1) = one_shl (width - 1) 32 (omega arith) in
    let bound : 2 ^ (width - 1) ≤ 2 ^ 20 = pow_mono {i = width - 1} {j = 20} (omega arith) in
    grind (arith, ints, nat_tests)

pub extends_one : (bits width : ℕ) → 1 ≤ width → width ≤ 21 → bits < 2 ^ width
    → 1 * 2 ^ (width - 1) % 2 ^ 32 ≤ bits
    → to_z w32 (of_z w32 (to_z w32 bits -ℤ to_z w32 (1 * 2 ^ width % 2 ^ 32))) ≡ signed width bits
unfolding signed
extends_one bits width some small inside above =
    let top : 1 * 2 ^ (width - 1) % 2 ^ 32 ≡ 2 ^ (width - 1) = one_shl (width - 1) 32 (omega arith) in
    let whole : 1 * 2 ^ width % 2 ^ 32 ≡ 2 ^ width = one_shl width 32 (omega arith) in
    let double : 2 ^ width ≡ 2 * 2 ^ (width - 1) = double_top width some in
    let bound : 2 ^ (width - 1) ≤ 2 ^ 20 = pow_mono {i = width - 1} {j = 20} (omega arith) in
    grind (arith, ints, nat_tests)

pub difference_fits : (bits width : ℕ) → 1 ≤ width → width ≤ 21 → bits < 2 ^ width
    → FitsSigned w32 (to_z w32 bits -ℤ to_z w32 (1 * 2 ^ width % 2 ^ 32))
difference_fits bits width some small inside =
    let whole : 1 * 2 ^ width % 2 ^ 32 ≡ 2 ^ width = one_shl width 32 (omega arith) in
    let bound : 2 ^ width ≤ 2 ^ 21 = pow_mono {i = width} {j = 21} (omega arith) in
    omega (arith, ints)
