use Rattle.msi_machine.proofs.RequestRoom.{room_made}
use Rattle.msi_machine.proofs.machine.Machine.make_room.Goals as goal

pub make_room-requires-clause-holds : goal.make_room-requires-clause-holds
make_room-requires-clause-holds g c = rw (← c.parts.view_is) at c.self.invariant.holds.memory

pub make_room-requires-clause-noted : goal.make_room-requires-clause-noted
make_room-requires-clause-noted g c = rw (← c.parts.view_is) at c.self.invariant.ports

pub invariant_of-self : goal.invariant_of-self
invariant_of-self g c =
    room_made g.R.Rider.riding g.K.Carry.carrying c.self.invariant c.parts.view_is c.make_room.ensures.memory
    c.make_room.ensures.noted c.make_room.ensures.own c.make_room.ensures.unmarked
