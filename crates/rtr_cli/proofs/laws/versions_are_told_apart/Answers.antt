use Rattle.rtr_cli.proofs.Apart.{versions_apart}
use Rattle.rtr_cli.proofs.laws.versions_are_told_apart.Goals as goal

pub returns : goal.returns
returns c = versions_apart
