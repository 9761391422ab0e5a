use Rattle.exact_reduction.proofs.RetirementReduction.{access_reduces, found_exact}
use Rattle.exact_reduction.proofs.laws.a_retirement_keeps_it.Goals as goal

pub returns : goal.returns
returns c = record { found = found_exact; access = access_reduces }
