-- The bytes that hexadecimal digits spell.
use Rattle.std.specs.Prelude.{ℕ, ◌+◌, ◌*◌, ◌-◌, ◌/◌, ◌%◌, ◌==◌, Bool, ◌&&◌, ◌||◌, not, nat_le, List, [], length, map}
use Rattle.std.specs.Prelude.{slice_index, Option, Some, None, if◌then◌else◌}
use Rattle.std.specs.List.{list_all, range_with_len}

-- 0 to 9
abbrev pub is_digit : ℕ → Bool
is_digit byte = nat_le 48 byte && nat_le byte 57

-- a to f
abbrev pub is_letter : ℕ → Bool
is_letter byte = nat_le 97 byte && nat_le byte 102

abbrev pub is_hex_digit : ℕ → Bool
is_hex_digit byte = is_digit byte || is_letter byte

-- digits alone, and an even number of them but not none
abbrev pub are_choices : List ℕ → Bool
are_choices text = not (length text == 0) && (length text % 2 == 0 && list_all is_hex_digit text)

-- the value of a digit
abbrev pub digit_value : ℕ → ℕ
digit_value byte = if is_digit byte then byte - 48 else if is_letter byte then byte - 97 + 10 else 0

-- each byte is two digits, the high one first
abbrev pub byte_at : List ℕ → (number : ℕ) → ℕ
byte_at text number = 16 * digit_value (slice_index text (2 * number)) + digit_value (slice_index text (2 * number + 1))

unfoldable pub spelled_bytes : List ℕ → List ℕ
spelled_bytes text = map (byte_at text) (range_with_len 0 (length text / 2))

-- the bytes of a text, where there is one
abbrev pub bytes_of : Option (List ℕ) → List ℕ
bytes_of None = []
bytes_of (Some text) = spelled_bytes text
