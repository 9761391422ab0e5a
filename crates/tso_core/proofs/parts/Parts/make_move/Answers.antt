-- What is kept of the cores follows each move.
use Rattle.std.proofs.Common.{◌∙◌, ap, refl, sym}
use Rattle.rv_core.specs.declared.core_state.Need.TheVariants.{Local}
use Rattle.std.specs.Prelude.{None}
use Rattle.msi_memory.specs.Acts.{TakeMessage}
use Rattle.msi_laws.proofs.Ready.{memory_ready}
use Rattle.tso_state.specs.declared.moves.Move.TheVariants.{Order}
use Rattle.tso_state.specs.Moves.{core_of}
use Rattle.tso_invariant.proofs.MoveGrounds.{rows_there}
use Rattle.move_marks.proofs.NextMoves.{request_stays, response_stays}
use Rattle.tso_core.specs.Moving.{rider_left}
use Rattle.tso_core.proofs.MoveFrames.{at_port, core_after, core_moved, core_moves}
use Rattle.tso_core.proofs.MoveFrames.{kept_moved, message_moves, order_stands}
use Rattle.tso_core.proofs.MoveFrames.{own_marks, port_marks, port_seen, ports_few, room_still}
use Rattle.tso_core.proofs.MarksAfterMoves.{turn_kept}
use Rattle.tso_core.proofs.parts.Parts.make_move.Goals as goal

-- ---- what each move rests on

pub work-requires-clause-room : goal.work-requires-clause-room
work-requires-clause-room g c =
    room_still g.R.Rider.riding g.K.Carry.carrying c.args.self.now.state c.args.taken c.in-Core.c c.requires.holds
    c.requires.enabled (ap core_of c.in-Core.is)

pub receive-requires-clause-row : goal.receive-requires-clause-row
receive-requires-clause-row g c =
    let row = rows_there g.R.Rider.riding g.K.Carry.carrying c.args.self.now.state c.args.taken c.requires.holds
    c.requires.enabled in
    rw c.in-FromHome.is at row

pub receive-requires-clause-room : goal.receive-requires-clause-room
receive-requires-clause-room g c =
    let can_be = rw c.in-FromHome.is at c.requires.enabled in
    (memory_ready g.R.Rider.riding g.K.Carry.carrying c.args.self.now.state.memory c.requires.holds.memory).rooms
    (TakeMessage c.in-FromHome.c) can_be

-- ---- what each core stands at

pub returns-in-Core-clause-stands : goal.returns-in-Core-clause-stands
returns-in-Core-clause-stands g c =
    kept_moved g.R.Rider.riding g.K.Carry.carrying c.args.self.now.state c.work.new.self.state c.args.taken
    c.in-Core.c c.args.standings.now c.work.new.standing c.requires.holds c.requires.enabled
    (ap core_of c.in-Core.is) c.requires.stands
    (λ port. core_moves g.R.Rider.riding g.K.Carry.carrying _ c.args.self.now.state c.work.new.self.state
    c.in-Core.c port c.work.ensures.made.state) c.work.ensures.renewed

pub returns-in-Order-clause-stands : goal.returns-in-Order-clause-stands
returns-in-Order-clause-stands g c =
    order_stands g.R.Rider.riding g.K.Carry.carrying
    (rider_left g.R.Rider.riding g.K.Carry.carrying c.args.self.now.state c.move_order.new.self.state
    (Order c.in-Order.c)) c.args.self.now.state c.move_order.new.self.state c.args.taken c.in-Order.c
    c.args.standings.now (record { need = Local; op = None }) c.requires.holds c.requires.enabled
    (ap core_of c.in-Order.is) c.requires.stands c.move_order.ensures.made.state

pub returns-in-FromHome-clause-stands : goal.returns-in-FromHome-clause-stands
returns-in-FromHome-clause-stands g c =
    kept_moved g.R.Rider.riding g.K.Carry.carrying c.args.self.now.state c.receive.new.self.state c.args.taken
    c.in-FromHome.c c.args.standings.now c.receive.new.standing c.requires.holds c.requires.enabled
    (ap core_of c.in-FromHome.is) c.requires.stands
    (λ port. message_moves g.R.Rider.riding g.K.Carry.carrying _ c.args.self.now.state
    c.receive.new.self.state c.in-FromHome.c port c.receive.ensures.made.state)
    c.receive.ensures.renewed

-- ---- the marks

pub mark_core-requires-clause-here : goal.mark_core-requires-clause-here
mark_core-requires-clause-here g c =
    core_after c.work.new.self c.in-Core.is c.requires.holds c.requires.enabled c.work.ensures.made.state refl

pub mark_core-requires-clause-port : goal.mark_core-requires-clause-port
mark_core-requires-clause-port g c =
    at_port c.work.new.self c.in-Core.is c.requires.holds c.requires.enabled c.work.ensures.made.state refl

pub returns-in-Core-clause-marked : goal.returns-in-Core-clause-marked
returns-in-Core-clause-marked g c =
    rw (ap core_of c.in-Core.is)
    (own_marks c.work.new.self c.in-Core.is c.requires.holds c.requires.enabled c.work.ensures.made.state refl
    c.work.ensures.renewed c.requires.marked c.mark_core.ensures
    (λ port. core_moved g.R.Rider.riding g.K.Carry.carrying _ c.args.self.now.state c.work.new.self.state c.in-Core.c
    port c.work.ensures.made.state))

pub mark_core-requires-in-FromHome-clause-here : goal.mark_core-requires-in-FromHome-clause-here
mark_core-requires-in-FromHome-clause-here g c =
    core_after c.receive.new.self c.in-FromHome.is c.requires.holds c.requires.enabled c.receive.ensures.made.state
    refl

pub mark_core-requires-in-FromHome-clause-port : goal.mark_core-requires-in-FromHome-clause-port
mark_core-requires-in-FromHome-clause-port g c =
    at_port c.receive.new.self c.in-FromHome.is c.requires.holds c.requires.enabled c.receive.ensures.made.state refl

pub mark_port-requires-clause-few : goal.mark_port-requires-clause-few
mark_port-requires-clause-few g c =
    ports_few c.receive.new.self c.in-FromHome.is c.requires.holds c.requires.enabled c.receive.ensures.made.state refl
    c.self-in-FromHome.view_is

pub mark_port-requires-clause-here : goal.mark_port-requires-clause-here
mark_port-requires-clause-here g c =
    port_seen c.receive.new.self c.in-FromHome.is c.requires.holds c.requires.enabled c.receive.ensures.made.state refl
    c.self-in-FromHome.view_is

pub returns-in-FromHome-clause-marked : goal.returns-in-FromHome-clause-marked
returns-in-FromHome-clause-marked g c =
    rw (ap core_of c.in-FromHome.is)
    (port_marks c.receive.new.self c.in-FromHome.is c.requires.holds c.requires.enabled c.receive.ensures.made.state
    refl c.receive.ensures.renewed c.requires.marked c.mark_core-in-FromHome.ensures
    (λ port. message_moves g.R.Rider.riding g.K.Carry.carrying _ c.args.self.now.state c.receive.new.self.state
    c.in-FromHome.c port c.receive.ensures.made.state)
    c.self-in-FromHome.view_is c.mark_port.ensures.response c.mark_port.ensures.message c.mark_port.ensures.others)

pub returns-in-Request-clause-marked : goal.returns-in-Request-clause-marked
returns-in-Request-clause-marked g c =
    turn_kept g.R.Rider.riding g.K.Carry.carrying _ c.args.self.now c.self.view_is _ c.requires.marked
    c.take_request.ensures.memory
    (request_stays g.R.Rider.riding g.K.Carry.carrying c.self.inside.memory.memory c.in-Request.c)
    c.take_request.ensures.own c.take_request.ensures.marked

pub returns-in-Response-clause-marked : goal.returns-in-Response-clause-marked
returns-in-Response-clause-marked g c =
    turn_kept g.R.Rider.riding g.K.Carry.carrying _ c.args.self.now c.self-in-Response.view_is _ c.requires.marked
    c.take_response.ensures.memory
    (response_stays g.R.Rider.riding g.K.Carry.carrying c.self-in-Response.inside.memory.memory c.in-Response.c)
    c.take_response.ensures.own c.take_response.ensures.marked

pub take_request-requires-clause-cores : goal.take_request-requires-clause-cores
take_request-requires-clause-cores g c =
    let all = rw (← c.self.view_is) at c.requires.marked in
    let holds = rw (← c.self.view_is) at c.requires.holds in
    all.cores.cores ∙ sym holds.ports_there

pub take_response-requires-clause-cores : goal.take_response-requires-clause-cores
take_response-requires-clause-cores g c =
    let all = rw (← c.self-in-Response.view_is) at c.requires.marked in
    let holds = rw (← c.self-in-Response.view_is) at c.requires.holds in
    all.cores.cores ∙ sym holds.ports_there
