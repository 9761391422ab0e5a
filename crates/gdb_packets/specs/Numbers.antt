-- Numbers in packets: hexadecimal, without `0x`.
use Rattle.std.specs.Prelude.{ℕ, ◌^◌, ◌&&◌, ◌==◌, nat_lt, not, Bool, false, List, length, Option}
use Rattle.std.specs.Prelude.{Some, None}
use Rattle.std.specs.Prelude.{if◌then◌else◌}
use Rattle.std.specs.Char.{is_digit}
use Rattle.std.specs.Fmt.{digits}
use Rattle.std.specs.List.{list_all}
use Rattle.std.specs.Str.Parse.{digits_value}

-- hexadecimal digits alone, small or capital, and not none
abbrev pub is_numeral : List ℕ → Bool
is_numeral text = not (length text == 0) && list_all (λ c. is_digit c 16) text

-- the number that digits spell, where it's below 2 ^ 64
unfoldable pub number_of : List ℕ → Option ℕ
number_of text =
    if is_numeral text && nat_lt (digits_value 16 text) (2 ^ 64) then Some (digits_value 16 text) else None

-- a number as it's written: small digits, none too many
abbrev pub numeral : ℕ → List ℕ
numeral n = digits 16 false n
