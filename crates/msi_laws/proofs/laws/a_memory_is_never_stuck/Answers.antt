use Rattle.msi_laws.proofs.TakenMessages.{waiting_moves, quiet_links}
use Rattle.msi_laws.proofs.laws.a_memory_is_never_stuck.Goals as goal

pub returns-clause-moving : goal.returns-clause-moving
returns-clause-moving g c = waiting_moves g.R.Rider.riding g.K.Carry.carrying

pub returns-clause-quiet : goal.returns-clause-quiet
returns-clause-quiet g c = quiet_links g.R.Rider.riding g.K.Carry.carrying
