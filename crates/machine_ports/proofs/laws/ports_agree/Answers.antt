use Rattle.machine_ports.proofs.AtHand.{ends_at_hand, one_writer}
use Rattle.machine_ports.proofs.laws.ports_agree.Goals as goal

pub returns-clause-writers : goal.returns-clause-writers
returns-clause-writers g c = one_writer g.R.Rider.riding g.K.Carry.carrying

pub returns-clause-words : goal.returns-clause-words
returns-clause-words g c = ends_at_hand g.R.Rider.riding g.K.Carry.carrying
