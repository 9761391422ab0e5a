-- What holds of words and instructions in general.
use Rattle.std.specs.Prelude.{◌≡◌, ℕ, Some, IfSome}
use Rattle.rv_decode.specs.declared.op.Op.{Op}
use Rattle.rv_decode.specs.Ranges.{Fits}
use Rattle.rv_decode.specs.Table.{decoded}
use Rattle.rv_decode.specs.Words.{encoding}

-- an instruction that has a word is what its word means
abbrev pub DecodeOfEncodeLaw : Type 0
DecodeOfEncodeLaw = (op : Op) → Fits op → decoded (encoding op) ≡ Some op

-- what a word means has a word
abbrev pub DecodedFitsLaw : Type 0
DecodedFitsLaw = (word : ℕ) → IfSome (decoded word) (λ op. Fits op)
