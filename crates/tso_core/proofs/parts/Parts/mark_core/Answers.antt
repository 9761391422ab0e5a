use Rattle.tso_core.proofs.MoveFrames.{marked_of_seen, port_of_seen}
use Rattle.tso_core.proofs.parts.Parts.mark_core.Goals as goal

pub mark_own-requires : goal.mark_own-requires
mark_own-requires g c = port_of_seen c.self.view_is c.requires.here c.index.ensures c.requires.port

pub returns : goal.returns
returns g c = marked_of_seen c.self.view_is c.requires.here c.index.ensures g.K.Carry.carrying c.mark_own.ensures
