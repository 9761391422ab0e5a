use Rattle.std.proofs.Common.{◌≡◌, ap, ◌∙◌, arith}
use Rattle.log_codec.proofs.Wholes.{reads}
use Rattle.tso_codec.specs.Reading.{parts_at, tso_at}
use Rattle.tso_codec.specs.Spelling.{tso_spelling}
use Rattle.tso_codec.specs.Validity.{IsTso}
use Rattle.tso_codec.proofs.RecordingLaws.{laws}
use Rattle.tso_codec.proofs.reading.tso_read.Goals as goal

pub returns : goal.returns
unfolding tso_at
returns c =
    let all = reads IsTso (λ r. c.args.bytes.now ≡ tso_spelling r) c.args.bytes.now _ c.read_all.result
    (λ i. omega (arith, c.type_inv.bytes i))
    (λ x are read. laws.read c.args.bytes.now x are read) (λ r valid is. ap tso_at is ∙ laws.spelled r valid)
    (c.read_all.ensures parts_at c.args.bytes.now c.parts.ensures) in
    record { found = all.found; only = all.only; exact = all.exact }
