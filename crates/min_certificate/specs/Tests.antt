-- A certificate's good and exact entries and its needed edges as tests, over as many places as there are cores.
use Rattle.std.specs.Prelude.{◌↔◌, IsTrue, Bool}
use Rattle.rtr_types.specs.declared.instr.Instr.{Instr}
use Rattle.rtr_types.specs.declared.pairs.Which.TheVariants.{Reduced}
use Rattle.clock_entries.specs.Tests.{are_exact, are_good, is_needed}
use Rattle.replay_audit.specs.Determinate.{IsDeterminate}
use Rattle.certificate_codec.specs.declared.certificate.Certificate.{Certificate}
use Rattle.certificate_codec.specs.Ends.{reduced_edges}
use Rattle.certificate_codec.specs.Validity.{IsCertificate}
use Rattle.min_certificate.specs.Places.{entry_in, AreExactIn, AreGoodIn, IsNeededIn}

abbrev pub are_good_in : Certificate → Bool
are_good_in c = are_good c.recording.params.cores (reduced_edges c.recording) (entry_in c)

abbrev pub are_exact_in : Certificate → Bool
are_exact_in c = are_exact c.recording.params.cores (reduced_edges c.recording) (entry_in c)

abbrev pub is_needed_in : Certificate → Instr → Instr → Bool
is_needed_in c = is_needed (reduced_edges c.recording) (entry_in c)

abbrev pub GoodInTest : Type 0
GoodInTest = (c : Certificate) → IsCertificate c → IsTrue (are_good_in c) ↔ AreGoodIn c

abbrev pub NeededInTest : Type 0
NeededInTest = (c : Certificate) (x y : Instr) → IsTrue (is_needed_in c x y) ↔ IsNeededIn c x y

abbrev pub ExactInTest : Type 0
ExactInTest = (c : Certificate) → IsCertificate c → IsDeterminate Reduced c.recording →
    IsTrue (are_exact_in c) ↔ AreExactIn c
