-- What std's reading of numbers says of a numeral.
use Rattle.std.proofs.Common.{◌≡◌, ℕ, ◌<◌, ◌≤◌, ◌^◌, true, false, List, length, Some, None, arith, Result, Ok, Err}
use Rattle.std.proofs.Common.{rules}
use Rattle.std.specs.List.{list_all}
use Rattle.std.specs.Char.{is_ascii_digit}
use Rattle.std.specs.Str.Parse.{digits_value, ParsesUnsigned}
use Rattle.std.specs.Result.{OkIff}
use Rattle.std.proofs.lemmas.Str.Parse.{IsNumeralModel, numerals_by_value, parse_digits}
use Rattle.std.proofs.lemmas.Bool.Decides.{nat_tests}
use Rattle.tool_words.specs.Numerals.{is_numeral, number_between}

own : IsNumeralModel (λ ds. list_all is_ascii_digit ds ≡ true) (digits_value 10)
own = numerals_by_value (λ ds. list_all is_ascii_digit ds ≡ true) (search rules)

is_numeral-digits : (text : List ℕ) → is_numeral text ≡ true → (list_all is_ascii_digit text ≡ true) × (0 < length text)
is_numeral-digits text h = grind (arith, nat_tests)

-- std reads a numeral just where it is below 2 ^ 64, and then its value
pub read-numeral : {E : Type 0} (text : List ℕ) (r : Result ℕ E) → is_numeral text ≡ true → ParsesUnsigned 64 10 text
    r →
    OkIff r (digits_value 10 text < 2 ^ 64) (digits_value 10 text)
read-numeral {E = E} text (Ok n) h p =
    let parts = is_numeral-digits text h in
    let read = parse_digits own {E = E} 64 text (Ok n) p parts.0 in (read.0.1, read.1)
read-numeral {E = E} text (Err e) h p =
    let parts = is_numeral-digits text h in
    λ small. parse_digits own {E = E} 64 text (Err e) p parts.0 (parts.1, small)

pub number_between-some : (least most n : ℕ) (text : List ℕ) → is_numeral text ≡ true → n ≡ digits_value 10 text
    → least ≤ n → n ≤ most →
    number_between least most text ≡ Some n
unfolding number_between
number_between-some least most n text h e low high = grind (arith, nat_tests)

pub number_between-none : (least most : ℕ) (text : List ℕ)
    → (is_numeral text ≡ true → least ≤ digits_value 10 text → digits_value 10 text ≤ most → ⊥) →
    number_between least most text ≡ None
unfolding number_between
number_between-none least most text h = grind (arith, nat_tests)

-- a number in range, as std read it
pub in-range : {E : Type 0} (least most n : ℕ) (text : List ℕ) (r : Result ℕ E) → is_numeral text ≡ true
    → ParsesUnsigned 64 10 text r → r ≡ Ok n → least ≤ n →
    n ≤ most →
    number_between least most text ≡ Some n
in-range {E = E} least most n text (Ok m) h p is low high =
    let read : m ≡ digits_value 10 text = (read-numeral {E = E} text (Ok m) h p).1 in
    let same : m ≡ n = cc in
    number_between-some least most n text h (omega arith) low high
in-range least most n text (Err e) h p is low high = absurd (cc)

-- a number out of range
pub out-of-range : {E : Type 0} (least most n : ℕ) (text : List ℕ) (r : Result ℕ E) → is_numeral text ≡ true
    → ParsesUnsigned 64 10 text r → r ≡ Ok n →
    (least ≤ n → n ≤ most → ⊥) →
    number_between least most text ≡ None
out-of-range {E = E} least most n text (Ok m) h p is out =
    let read : m ≡ digits_value 10 text = (read-numeral {E = E} text (Ok m) h p).1 in
    let same : m ≡ n = cc in
    number_between-none least most text (λ _ low high. out (omega arith) (omega arith))
out-of-range least most n text (Err e) h p is out = absurd (cc)

-- a number that std can't hold
pub too-large : {E : Type 0} (least most : ℕ) (e : E) (text : List ℕ) (r : Result ℕ E) → most < 2 ^ 64
    → is_numeral text ≡ true → ParsesUnsigned 64 10 text r →
    r ≡ Err e →
    number_between least most text ≡ None
too-large least most e text (Ok m) fits h p is = absurd (cc)
too-large {E = E} least most e text (Err f) fits h p is =
    number_between-none least most text (λ _ low high. read-numeral {E = E} text (Err f) h p (omega arith))

pub no-numeral : (least most : ℕ) (text : List ℕ) → is_numeral text ≡ false → number_between least most text ≡ None
no-numeral least most text h = number_between-none least most text (λ yes. search (rules, h, yes))
