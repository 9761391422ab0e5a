-- Numbers in commands: decimal ones, and addresses.
use Rattle.std.specs.Prelude.{ℕ, ◌^◌, ◌/◌, ◌&&◌, ◌==◌, nat_lt, not, Bool, List, length, slice_index, Option}
use Rattle.std.specs.Prelude.{Some, None, codes, if◌then◌else◌}
use Rattle.std.specs.Char.{is_digit}
use Rattle.std.specs.List.{list_all}
use Rattle.std.specs.Option.{option_and_then, option_map, option_or}
use Rattle.std.specs.Str.Parse.{digits_value}
use Rattle.rtr_types.specs.declared.instr.Instr.{Instr}
use Rattle.gdb_packets.specs.Numbers.{number_of}
use Rattle.gdb_packets.specs.Texts.{behind, cut_at}

-- several digits, of which the first is 0
abbrev pub is_padded : List ℕ → Bool
is_padded text = nat_lt 1 (length text) && slice_index text 0 == 48

-- decimal digits without a sign, and without a leading zero but for 0 itself
abbrev pub is_decimal : List ℕ → Bool
is_decimal text = not (length text == 0) && not (is_padded text) && list_all (λ c. is_digit c 10) text

-- the number that the text is, where it's below this one
unfoldable pub number_below : (past : ℕ) → List ℕ → Option ℕ
number_below past text =
    if is_decimal text && nat_lt (digits_value 10 text) past then Some (digits_value 10 text) else None

-- a core, of which there may be no such
abbrev pub core_of : List ℕ → Option ℕ
core_of text = number_below (2 ^ 8) text

-- a count of instructions
abbrev pub count_of : List ℕ → Option ℕ
count_of text = number_below (2 ^ 32) text

abbrev pub instr_of : (core count : Option ℕ) → Option Instr
instr_of core count =
    option_and_then (λ c. option_map (λ n. record { core = c; count = n }) count) core

-- `C:N`
abbrev pub named_instr : List ℕ → Option Instr
named_instr text = option_and_then (λ p. instr_of (core_of p.0) (count_of p.1)) (cut_at 58 text)

-- a number of 32 bits, or none
abbrev pub address_within : Option ℕ → Option ℕ
address_within number = option_and_then (λ n. if nat_lt n (2 ^ 32) then Some n else None) number

-- an address: decimal, or hexadecimal behind `0x`
abbrev pub address_of : List ℕ → Option ℕ
address_of text =
    option_or (option_and_then (λ digits. address_within (number_of digits)) (behind text (codes "0x"))) (count_of text)

-- the index of the word that an address lies in
abbrev pub word_of : List ℕ → Option ℕ
word_of text = option_map (λ address. address / 4) (address_of text)
