-- How answers on the end of a run are printed.
use Rattle.std.specs.Prelude.{ℕ, ◌*◌, ◌==◌, false, List, ◌++◌, codes, decimal, if◌then◌else◌}
use Rattle.std.specs.Fmt.{digits, signed_decimal}
use Rattle.rv_core.specs.Operations.{signed}
use Rattle.end_claims.specs.declared.claim.Place.{Place}
use Rattle.end_claims.specs.declared.claim.Place.TheVariants.{Word, Register, Ended}

-- the word for the stop of this number
abbrev pub stop_word : ℕ → List ℕ
stop_word number =
    if number == 0 then codes "exit" else if number == 1 then codes "break" else if number == 2 then codes "limit"
    else if number == 3 then codes "fetch" else if number == 4 then codes "illegal" else if number == 5 then codes "jump"
    else if number == 6 then codes "align" else if number == 7 then codes "address" else codes "total"

-- a place with its value: a byte address in hexadecimal without leading zeros, and a decimal number with its sign
abbrev pub answer : Place → (value : ℕ) → List ℕ
answer (Word word) value = codes "[" ++ digits 16 false (word * 4) ++ codes "]=" ++ signed_decimal (signed value)
answer (Register core number) value =
    decimal core ++ codes ":x" ++ decimal number ++ codes "=" ++ signed_decimal (signed value)
answer (Ended core) value = decimal core ++ codes ":" ++ stop_word value
