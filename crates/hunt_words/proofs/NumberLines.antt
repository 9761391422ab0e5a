-- A decimal number is read as itself.
use Rattle.std.proofs.Common.{◌≡◌, ℕ, zero, suc, ◌^◌, ◌<◌, ◌≤◌, true, false, not, Some, length, arith, rules, sym}
use Rattle.std.proofs.Common.{ap, get_or}
use Rattle.std.specs.Prelude.{decimal}
use Rattle.std.specs.Char.{is_ascii_digit}
use Rattle.std.specs.List.{list_all}
use Rattle.std.specs.Str.Parse.{digits_value}
use Rattle.std.proofs.lemmas.Bool.{and_from, and_right, ne_eqb}
use Rattle.std.proofs.lemmas.Fmt.{decimal_digit, decimal_is_IsNumeral, decimal_nonempty, first_decimal}
use Rattle.std.proofs.lemmas.Str.Parse.{IsNumeralModel, numerals_by_value}
use Rattle.tool_words.specs.Numerals.{is_numeral, is_padded, number_between}
use Rattle.tool_words.proofs.NumeralLemmas.{number_between-some}

own : IsNumeralModel (λ ds. list_all is_ascii_digit ds ≡ true) (digits_value 10)
own = numerals_by_value (λ ds. list_all is_ascii_digit ds ≡ true) (search rules)

-- only 0 begins with a 0
plain : (n : ℕ) → n < 2 ^ 64 → is_padded (decimal n) ≡ false
plain zero small = ap is_padded (decimal_digit 0 (omega arith))
plain (suc n) small =
    let above : 48 < get_or (decimal (suc n)) 0 0 = first_decimal (suc n) (omega arith) small in
    and_right _ _ (ne_eqb (get_or (decimal (suc n)) 0 0) 48 (λ e. omega (arith, above, e)))

numeral : (n : ℕ) → n < 2 ^ 64 → is_numeral (decimal n) ≡ true
numeral n small =
    let some : 0 < length (decimal n) = decimal_nonempty n small in
    let digits : list_all is_ascii_digit (decimal n) ≡ true =
    own.from (decimal n) (decimal_is_IsNumeral n small).0.1 in
    and_from _ _
    (and_from _ _ (ap not (ne_eqb (length (decimal n)) 0 (λ e. omega (arith, some, e)))) (ap not (plain n small)))
    digits

-- a number in range, written, is read as itself
pub between-decimal : (least most n : ℕ) → least ≤ n → n ≤ most → n < 2 ^ 64
    → number_between least most (decimal n) ≡ Some n
between-decimal least most n low high small =
    number_between-some least most n (decimal n) (numeral n small) (sym (decimal_is_IsNumeral n small).1) low high
