use Rattle.std.proofs.Common.{sym, ◌∙◌}
use Rattle.end_claims.proofs.HexNumbers.{hex-read, no-hex}
use Rattle.end_claims.proofs.numbers.hex_number.Goals as goal

pub returns : goal.returns
returns c =
    let yes = rw c.as_bytes.ensures.value at c.if-not-are_hex_digits.ensures in
    c.ok.ensures.value ∙ hex-read _ _ (sym yes) c.from_str_radix.ensures.value

pub returns-then-not-are_hex_digits : goal.returns-then-not-are_hex_digits
returns-then-not-are_hex_digits c =
    let no = rw c.as_bytes.ensures.value at c.if-not-are_hex_digits.ensures in no-hex _ (sym no)
