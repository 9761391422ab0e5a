use Rattle.certificate_codec.proofs.CertificateLaws.{prefix_free, read_is_spelled, spelled_is_read, written_spells}
use Rattle.certificate_codec.proofs.laws.certificate_spellings.Goals as goal

pub returns : goal.returns
returns c = record { read = read_is_spelled; spelled = spelled_is_read; written = written_spells; prefix = prefix_free }
