-- The home takes the response, and its answer goes on its way.
use Rattle.std.proofs.Common.{arith, ◌∙◌, refl}
use Rattle.msi_memory.proofs.HomeTurns.{oldest_response, sends, took}
use Rattle.msi_memory.proofs.ServedAnswers.{take_front}
use Rattle.msi_memory.proofs.memory.MemorySystem.take_response.Goals as goal

pub deliver-requires : goal.deliver-requires
deliver-requires g c =
    let can =
    sends c.self.inside.ports.items c.self.inside.home _ _ _ _ _ c.args.self.now _ _ _ c.self.view_is
    (oldest_response g.R.Rider.riding g.K.Carry.carrying _ c.args.core _ c.requires.row) c.requires.here
    c.index_mut.ensures.value c.as_mut_slice.ensures.value c.collect-turn.ensures.done refl
    c.requires.few c.requires.names c.requires.room in
    record { cores = can.cores; room = can.room; to = can.to }

pub returns : goal.returns
returns g c =
    let is =
    took c.self.inside.ports.items c.self.inside.home _ _ _ _ _ c.args.self.now _ _ _ c.self.view_is
    (oldest_response g.R.Rider.riding g.K.Carry.carrying _ c.args.core _ c.requires.row) c.requires.here
    c.index_mut.ensures.value c.as_mut_slice.ensures.value c.collect-turn.ensures.done
    (take_front c.self.inside.ports.len c.deliver.new.ports _
    (omega (arith, c.as_mut_slice.ensures.len, c.deliver.auto.ports)) ∙ c.deliver.ensures)
    c.collect-turn.ensures.room c.collect-turn.ensures.items in
    record { memory = is.memory; rooms = is.rooms; turn = is.turn; free = is.free }
