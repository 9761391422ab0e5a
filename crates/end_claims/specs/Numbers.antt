-- Numbers in a claim.
use Rattle.std.specs.Prelude.{ℕ, ◌-◌, ◌^◌, ◌&&◌, ◌==◌, nat_le, nat_lt, Bool, List, [], length, Option, Some, None}
use Rattle.std.specs.Prelude.{codes, if◌then◌else◌}
use Rattle.std.specs.Char.{is_ascii_hexdigit}
use Rattle.std.specs.List.{after_first, before_first, list_all, position_or_len}
use Rattle.std.specs.Option.{option_map, option_or}
use Rattle.std.specs.Str.{bytes_eq}
use Rattle.std.specs.Str.Parse.{digits_value}
use Rattle.tool_words.specs.Numerals.{number_between}

-- the value, and then what is made of it
infixl 10 ◌>>=◌
abbrev pub ◌>>=◌ : {A B : Type 0} → Option A → (A → Option B) → Option B
None >>= f = None
(Some x) >>= f = f x

-- what stands before and after the first byte of this value
abbrev pub parted : (at : ℕ) → List ℕ → Option (List ℕ × List ℕ)
parted at text =
    if nat_lt (position_or_len (λ b. b == at) text) (length text)
    then Some (before_first (λ b. b == at) text, after_first (λ b. b == at) text) else None

-- what stands behind the first byte of this value, where the text before it is `front`
unfoldable pub behind : (front : List ℕ) (at : ℕ) → List ℕ → Option (List ℕ)
behind front at text = do
  parts ← parted at text
  if bytes_eq parts.0 front then Some parts.1 else None

-- what stands before the first byte of this value, which is the text's last
unfoldable pub before_last : (at : ℕ) → List ℕ → Option (List ℕ)
before_last at text = do
  parts ← parted at text
  if length parts.1 == 0 then Some parts.0 else None

-- 1 to 8 hexadecimal digits, of either case
abbrev pub are_hex_digits : List ℕ → Bool
are_hex_digits text = nat_le 1 (length text) && nat_le (length text) 8 && list_all is_ascii_hexdigit text

-- the number that they spell
unfoldable pub hex_number : List ℕ → Option ℕ
hex_number text = if are_hex_digits text then Some (digits_value 16 text) else None

-- `0x` and such digits
unfoldable pub prefixed_number : List ℕ → Option ℕ
prefixed_number text = do
  digits ← behind (codes "0") 120 text
  hex_number digits

-- `-` and a number from 1 to 2^31: the word that is that much below 0
unfoldable pub negative_number : List ℕ → Option ℕ
negative_number text = do
  digits ← behind [] 45 text
  option_map (λ n. 2 ^ 32 - n) (number_between 1 (2 ^ 31) digits)

-- the word that a text is: hexadecimal behind `0x`, or decimal from -2^31 to 2^32 - 1
unfoldable pub word_of : List ℕ → Option ℕ
word_of text =
    option_or (prefixed_number text) (option_or (negative_number text) (number_between 0 (2 ^ 32 - 1) text))
