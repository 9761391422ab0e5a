use Rattle.rtr_cli.proofs.AcceptedLemmas.{accepted_is_not_refused}
use Rattle.rtr_cli.proofs.CompletenessLemmas.{written_is_accepted}
use Rattle.rtr_cli.proofs.laws.completeness_laws.Goals as goal

pub returns : goal.returns
returns c = record {
  accepted = accepted_is_not_refused;
  written = written_is_accepted
      c.thinned_spellings.ensures.spelled;
}
