use Rattle.std.proofs.Common.{◌∙◌, ◌<◌, Bool, length, ap}
use Rattle.msi_memory.specs.Acts.{Act, TakeMessage, TakeResponse, can}
use Rattle.msi_laws.proofs.Ready.{memory_ready}
use Rattle.msi_state.specs.declared.moves.Move.TheVariants.{FromHome}
use Rattle.msi_state.specs.States.{Machinery, State}
use Rattle.msi_state.specs.Steps.{rider_left}
use Rattle.machine_invariant.proofs.MoveGrounds.{rows_there}
use Rattle.machine_invariant.proofs.Awaits.{core_port, enabled_core}
use Rattle.msi_machine.proofs.MoveFrames.{message_marks}
use Rattle.msi_machine.proofs.parts.Parts.take_message.Goals as goal

pub receive-retired-requires-clause-row : goal.receive-retired-requires-clause-row
receive-retired-requires-clause-row g c =
    rows_there g.R.Rider.riding g.K.Carry.carrying c.args.self.now.state (FromHome c.args.c) c.requires.can.holds
    c.requires.can.enabled

pub receive-retired-requires-clause-room : goal.receive-retired-requires-clause-room
receive-retired-requires-clause-room g c =
    (memory_ready g.R.Rider.riding g.K.Carry.carrying c.args.self.now.state.memory c.requires.can.holds.memory).rooms
    (TakeMessage c.args.c) c.requires.can.enabled

pub returns-clause-marked : goal.returns-clause-marked
returns-clause-marked g c =
    let s : State g.row.R.Denot g.row.K.Denot = c.args.self.now.state in
    let t : State g.row.R.Denot g.row.K.Denot = c.receive-retired.new.self.state in
    let here : c.args.c < length s.cores =
    enabled_core g.R.Rider.riding g.K.Carry.carrying s (FromHome c.args.c) c.requires.can.enabled
    c.requires.can.holds in
    let can_then : Act g.row.R.Denot → Machinery g.row.R.Denot g.row.K.Denot → Bool =
    λ act m. can g.R.Rider.riding g.K.Carry.carrying m.state.memory act in
    message_marks g.R.Rider.riding g.K.Carry.carrying (rider_left g.R.Rider.riding g.K.Carry.carrying s t
    (FromHome c.args.c)) s t c.args.marks.now c.set.new.self c.mark_port.new.marks c.args.c
    c.receive-retired.new.standing c.requires.marked c.receive-retired.ensures.made.state here
    (core_port g.R.Rider.riding g.K.Carry.carrying s c.args.c c.requires.can.holds here)
    c.receive-retired.ensures.renewed (c.set.ensures.this ∙ c.may_move.ensures) c.set.ensures.others
    (c.mark_port.ensures.response ∙ ap (can_then (TakeResponse c.args.c)) c.self.view_is)
    (c.mark_port.ensures.message ∙ ap (can_then (TakeMessage c.args.c)) c.self.view_is) c.mark_port.ensures.others
