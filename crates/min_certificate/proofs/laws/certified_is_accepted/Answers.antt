use Rattle.min_certificate.proofs.FirstFailure as judged
use Rattle.min_certificate.proofs.CertifiedRecordings as shown
use Rattle.min_certificate.proofs.laws.certified_is_accepted.Goals as goal

pub returns : goal.returns
returns c = record {
  fits = shown.exact_fits;
  certified = judged.least_is_certified;
  accepted =
      judged.passed_is_accepted;
}
