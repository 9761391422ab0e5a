use Rattle.rtr_cli.proofs.CertificatesAccepted.{certified_is_accepted}
use Rattle.rtr_cli.proofs.laws.certify_laws.Goals as goal

pub returns : goal.returns
returns c = certified_is_accepted
