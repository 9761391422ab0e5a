-- Numbers on the command line.
use Rattle.std.specs.Prelude.{ℕ, Bool, List, ◌&&◌, ◌==◌, nat_lt, nat_le, length, slice_index, Option, Some, None, not}
use Rattle.std.specs.Prelude.{if◌then◌else◌}
use Rattle.std.specs.List.{list_all}
use Rattle.std.specs.Char.{is_ascii_digit}
use Rattle.std.specs.Str.Parse.{digits_value}

-- several digits, of which the first is 0
abbrev pub is_padded : List ℕ → Bool
is_padded text = nat_lt 1 (length text) && slice_index text 0 == 48

-- decimal digits without a sign, and without a leading zero but for 0 itself
abbrev pub is_numeral : List ℕ → Bool
is_numeral text = not (length text == 0) && not (is_padded text) && list_all is_ascii_digit text

-- the number that the text is, where it lies in the range
unfoldable pub number_between : (least most : ℕ) → List ℕ → Option ℕ
number_between least most text =
    if is_numeral text && nat_le least (digits_value 10 text)
    && nat_le (digits_value 10 text) most then Some (digits_value 10 text) else None
