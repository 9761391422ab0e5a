-- A number's text is a numeral, and a numeral is the text of its value.
use Rattle.std.proofs.Common.{◌≡◌, ◌≢◌, ◌∙◌, sym, ap, refl, subst, ℕ, ◌<◌, ◌≤◌, ◌^◌, List, length, get_or, true, false}
use Rattle.std.proofs.Common.{arith, rules, decimal, Result, Ok, Err, ◌⊎◌, inl, inr}
use Rattle.std.specs.Char.{is_ascii_digit}
use Rattle.std.specs.List.{list_all}
use Rattle.std.specs.Str.Parse.{digits_value, ParsesUnsigned}
use Rattle.std.proofs.lemmas.Bool.Decides.{nat_tests}
use Rattle.std.proofs.lemmas.Fmt.{decimal-digits_value, decimal_digit, decimal_nonempty, digits_decimal}
use Rattle.std.proofs.lemmas.Fmt.{first_decimal, parse-decimal}
use Rattle.std.proofs.lemmas.Str.Parse.{IsNumeralModel, numerals_by_value, parse_digits}
use Rattle.turn_lists.specs.Texts.{is_numeral, is_padded}

pub own : IsNumeralModel (λ ds. list_all is_ascii_digit ds ≡ true) (digits_value 10)
own = numerals_by_value (λ ds. list_all is_ascii_digit ds ≡ true) (search rules)

-- ---- the parts of the test

numeral_digits : (text : List ℕ) → is_numeral text ≡ true → list_all is_ascii_digit text ≡ true
numeral_digits text h = grind (arith, nat_tests)

numeral_some : (text : List ℕ) → is_numeral text ≡ true → 0 < length text
numeral_some text h = grind (arith, nat_tests)

numeral_plain : (text : List ℕ) → is_numeral text ≡ true → get_or text 0 0 ≡ 48 → length text ≡ 1
numeral_plain text h = λ e. grind (arith, nat_tests)

-- ---- from a numeral to the number

-- what was read of a numeral is the number that it is the text of
pub numeral_read : {E : Type 0} (text : List ℕ) (r : Result ℕ E) (n : ℕ) → is_numeral text ≡ true
    → ParsesUnsigned 32 10 text r → r ≡ Ok n → text ≡ decimal n
numeral_read {E = E} text (Ok m) n h p is =
    let digits = numeral_digits text h in
    let read = parse_digits own {E = E} 32 text (Ok m) p digits in
    let small : digits_value 10 text < 2 ^ 64 = omega (arith, read.0.1) in
    let same : m ≡ n = cc in
    sym (ap decimal (sym same ∙ read.1)
    ∙ decimal-digits_value own text digits (numeral_some text h) (numeral_plain text h) small)
numeral_read {E = E} text (Err e) n h p is = absurd (cc)

-- ---- from a number to its numeral

decimal_plain : (n : ℕ) → n < 2 ^ 64 → is_padded (decimal n) ≡ false
decimal_plain n small = by (zero_or n)
  where
    zero_or : (m : ℕ) → (m < 10) ⊎ (10 ≤ m)
    zero_or m = grind arith

    by : (n < 10) ⊎ (10 ≤ n) → is_padded (decimal n) ≡ false
    by (inl few) = rw (decimal_digit n few) refl
    by (inr more) =
        let first : 48 < get_or (decimal n) 0 0 = first_decimal n (omega arith) small in
        grind (arith, nat_tests)

decimal_numeral : (n : ℕ) → n < 2 ^ 64 → is_numeral (decimal n) ≡ true
decimal_numeral n small =
    let digits : list_all is_ascii_digit (decimal n) ≡ true = digits_decimal own n small in
    let some : 0 < length (decimal n) = decimal_nonempty n small in
    let plain : is_padded (decimal n) ≡ false = decimal_plain n small in
    grind (arith, nat_tests)

-- what is no numeral is no number's text
pub no_numeral : (text : List ℕ) (n : ℕ) → is_numeral text ≡ false → n < 2 ^ 64 → text ≢ decimal n
no_numeral text n h small is =
    let yes : is_numeral text ≡ true = subst (λ (t : List ℕ). is_numeral t ≡ true) (sym is) (decimal_numeral n small) in
    absurd (cc)

-- a number's text is read as the number
pub read_decimal : {E : Type 0} (text : List ℕ) (r : Result ℕ E) (n : ℕ) → n < 2 ^ 32 → ParsesUnsigned 32 10 text r
    → text ≡ decimal n → r ≡ Ok n
read_decimal {E = E} text r n small p is = parse-decimal {E = E} 32 n text r small (omega arith) is p
