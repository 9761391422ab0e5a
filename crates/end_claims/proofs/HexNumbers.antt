-- What std's reading of numbers says of hexadecimal digits.
use Rattle.std.proofs.Common.{◌≡◌, ◌≢◌, ℕ, suc, ◌+◌, ◌*◌, ◌^◌, ◌<◌, ◌≤◌, true, false, List, [], ◌∷◌, length, Some}
use Rattle.std.proofs.Common.{None, arith, Result, Ok, Err, Bool, cond, sym, ap, ◌∙◌, subst}
use Rattle.std.specs.Char.{digit_value, is_ascii_hexdigit}
use Rattle.std.specs.List.{list_all}
use Rattle.std.specs.Result.{result_ok}
use Rattle.std.specs.Str.Parse.{AllDigits, digits_value, digits_value_after, IsNumeral, ParsesUnsigned}
use Rattle.std.specs.Str.Parse.{without_leading_plus}
use Rattle.std.proofs.Math.Nat.{mul-le-mul_right, mul_assoc, pow-succ', pow-le-pow_right}
use Rattle.std.proofs.lemmas.Bool.{and_parts}
use Rattle.std.proofs.lemmas.Bool.Decides.{nat_tests}
use Rattle.std.proofs.lemmas.Str.Parse.{without_leading_plus_none}
use Rattle.end_claims.specs.Numbers.{are_hex_digits, hex_number}

digit-below : (b : ℕ) → is_ascii_hexdigit b ≡ true → digit_value b < 16
digit-below b h = grind (arith, nat_tests)

no-plus : (b : ℕ) → is_ascii_hexdigit b ≡ true → b ≢ 43
no-plus b h = grind (arith, nat_tests)

all-digits : (ds : List ℕ) → list_all is_ascii_hexdigit ds ≡ true → AllDigits 16 ds
all-digits [] h = tt
all-digits (b ∷ ds) h =
    let parts = and_parts (is_ascii_hexdigit b) (list_all is_ascii_hexdigit ds) h in
    (digit-below b parts.0, all-digits ds parts.1)

-- so many digits make no more than their power of 16
below : (n : ℕ) (ds : List ℕ) → AllDigits 16 ds → digits_value_after 16 n ds < (n + 1) * 16 ^ length ds
below n [] h = omega arith
below n (b ∷ ds) h =
    let digit : digit_value b < 16 = h.0 in
    let rest : digits_value_after 16 (n * 16 + digit_value b) ds < (n * 16 + digit_value b + 1) * 16 ^ length ds =
    below (n * 16 + digit_value b) ds h.1 in
    let few : n * 16 + digit_value b + 1 ≤ (n + 1) * 16 = omega arith in
    let more : (n * 16 + digit_value b + 1) * 16 ^ length ds ≤ (n + 1) * 16 * 16 ^ length ds =
    mul-le-mul_right (16 ^ length ds) few in
    let power : (n + 1) * 16 * 16 ^ length ds ≡ (n + 1) * 16 ^ suc (length ds) =
    mul_assoc (n + 1) 16 (16 ^ length ds) ∙ ap (λ (p : ℕ). (n + 1) * p) (sym (pow-succ' 16 (length ds))) in
    omega (arith, rest, more, power)

-- 1 to 8 hexadecimal digits are a numeral below 2^32, which no plus begins
record IsHex (text : List ℕ) : Type 0 where
  plain : without_leading_plus text ≡ text
  numeral : IsNumeral 16 text
  fits : digits_value 16 text < 2 ^ 32

is-hex : (text : List ℕ) → 1 ≤ length text → length text ≤ 8 → list_all is_ascii_hexdigit text ≡ true → IsHex text
is-hex [] some few h = absurd (omega arith)
is-hex (b ∷ ds) some few h =
    let text : List ℕ = b ∷ ds in
    let parts = and_parts (is_ascii_hexdigit b) (list_all is_ascii_hexdigit ds) h in
    let digits : AllDigits 16 text = all-digits text h in
    let bound : digits_value_after 16 0 text < (0 + 1) * 16 ^ length text = below 0 text digits in
    let power : 16 ^ length text ≤ 16 ^ 8 = pow-le-pow_right (omega arith) few in
    record {
      plain = without_leading_plus_none text (no-plus b parts.0);
      numeral = (omega arith, digits);
      fits = omega (arith, bound, power);
    }

hex-parts : (text : List ℕ) → are_hex_digits text ≡ true → IsHex text
hex-parts text h = is-hex text (grind (arith, nat_tests)) (grind (arith, nat_tests)) (grind (arith, nat_tests))

-- std reads such digits as their number
pub hex-read : {E : Type 0} (text : List ℕ) (r : Result ℕ E) → are_hex_digits text ≡ true → ParsesUnsigned 32 16 text r
    → result_ok r ≡ hex_number text
unfolding hex_number
hex-read text (Ok n) h p =
    let value : n ≡ digits_value 16 text = p.1 ∙ ap (digits_value 16) (hex-parts text h).plain in
    ap (λ (m : ℕ). Some m) value ∙ ap (λ (yes : Bool). cond yes (Some (digits_value 16 text)) None) (sym h)
hex-read text (Err e) h p =
    let hex = hex-parts text h in
    let Reads : List ℕ → Type 0 = λ ds. IsNumeral 16 ds × (digits_value 16 ds < 2 ^ 32) in
    absurd (p (subst Reads (sym hex.plain) (hex.numeral, hex.fits)))

pub no-hex : (text : List ℕ) → are_hex_digits text ≡ false → None ≡ hex_number text
unfolding hex_number
no-hex text h = ap (λ (no : Bool). cond no (Some (digits_value 16 text)) None) (sym h)
