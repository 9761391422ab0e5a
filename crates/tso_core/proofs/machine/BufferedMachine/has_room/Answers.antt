use Rattle.msi_laws.proofs.Ready.{memory_ready}
use Rattle.tso_core.proofs.machine.BufferedMachine.has_room.Goals as goal

pub has_room-requires : goal.has_room-requires
has_room-requires g c =
    let fit = (memory_ready g.R.Rider.riding g.K.Carry.carrying c.self.inside.parts.state.memory
    c.self.invariant.holds.memory).heads in
    rw (← c.parts.view_is) at fit
