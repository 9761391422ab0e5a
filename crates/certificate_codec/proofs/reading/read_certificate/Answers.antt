use Rattle.std.proofs.Common.{arith}
use Rattle.log_codec.proofs.Wholes.{reads}
use Rattle.certificate_codec.specs.Reading.{certificate_at, parts_at}
use Rattle.certificate_codec.specs.Spelling.{Spells}
use Rattle.certificate_codec.specs.Validity.{IsCertificate}
use Rattle.certificate_codec.proofs.CertificateLaws.{read_is_spelled, spelled_is_read}
use Rattle.certificate_codec.proofs.reading.read_certificate.Goals as goal

pub returns : goal.returns
unfolding certificate_at
returns c =
    let exact = c.read_all.ensures parts_at c.args.bytes.now c.parts.ensures in
    let all = reads IsCertificate (Spells c.args.bytes.now) c.args.bytes.now _ c.read_all.result
    (λ i. omega (arith, c.type_inv.bytes i))
    (λ x are read. read_is_spelled c.args.bytes.now x are read)
    (λ d valid spells. spelled_is_read d c.args.bytes.now valid spells) exact in
    record { found = all.found; only = all.only; exact = exact }
