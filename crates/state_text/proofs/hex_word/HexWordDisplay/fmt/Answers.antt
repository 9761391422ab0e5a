-- what `{:08x}` writes is the word's eight digits
use Rattle.std.proofs.Common.{arith}
use Rattle.std.proofs.Output.{has_written_of_eq}
use Rattle.state_text.proofs.HexLemmas.{padded_hex_word}
use Rattle.state_text.proofs.hex_word.HexWordDisplay.fmt.Goals as goal

pub returns-clause-writes : goal.returns-clause-writes
returns-clause-writes g c = λ plain ok.
    let writes = rw (c.in_radix.ensures, c.laid_out.ensures) at c.write.ensures.writes in
    has_written_of_eq _ _ _ _ _ (padded_hex_word _ (omega arith)) (writes plain ok)
