use Rattle.rtr_cli.proofs.ThinLemmas.{thinned_is_replayed}
use Rattle.rtr_cli.proofs.laws.thin_laws.Goals as goal

pub returns : goal.returns
returns c = thinned_is_replayed
