use Rattle.msi_laws.proofs.Ready.{memory_ready, links_hold}
use Rattle.msi_laws.proofs.laws.acts_are_ready.Goals as goal

pub returns-clause-ready : goal.returns-clause-ready
returns-clause-ready g c = memory_ready g.R.Rider.riding g.K.Carry.carrying

pub returns-clause-links : goal.returns-clause-links
returns-clause-links g c = links_hold g.R.Rider.riding g.K.Carry.carrying
