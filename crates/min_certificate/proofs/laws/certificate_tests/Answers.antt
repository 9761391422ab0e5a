use Rattle.min_certificate.proofs.CertificateTests as tested
use Rattle.min_certificate.proofs.laws.certificate_tests.Goals as goal

pub returns : goal.returns
returns c = record { good = tested.good_in_test; needed = tested.needed_in_test; exact = tested.exact_in_test }
