-- What is kept of the cores follows each move.
use Rattle.std.proofs.Common.{ap, ℕ}
use Rattle.rtr_types.specs.declared.TheConstants.{CORES_MAX}
use Rattle.move_marks.proofs.NextMoves.{request_stays, response_stays}
use Rattle.msi_state.specs.declared.moves.Move.TheVariants.{FromHome}
use Rattle.msi_state.specs.Moves.{core_of}
use Rattle.msi_state.specs.States.{State}
use Rattle.msi_state.specs.Steps.{rider_left}
use Rattle.msi_machine.proofs.MarksAndEnd.{no_asker}
use Rattle.msi_machine.proofs.MoveFrames.{core_moves, kept_here, kept_moved, message_moves, turn_kept}
use Rattle.msi_machine.proofs.MarksAfterMoves.{all_others}
use Rattle.msi_machine.proofs.parts.Parts.make_move.Goals as goal

pub move_core-requires-clause-stands : goal.move_core-requires-clause-stands
move_core-requires-clause-stands g c =
    kept_here g.R.Rider.riding g.K.Carry.carrying c.args.self.now.state c.args.taken c.in-Core.c c.args.standings.now _
    c.requires.holds c.requires.enabled
    (ap core_of c.in-Core.is) c.requires.stands

pub take_message-requires-clause-stands : goal.take_message-requires-clause-stands
take_message-requires-clause-stands g c =
    kept_here g.R.Rider.riding g.K.Carry.carrying c.args.self.now.state c.args.taken c.in-FromHome.c
    c.args.standings.now _ c.requires.holds
    c.requires.enabled (ap core_of c.in-FromHome.is) c.requires.stands

pub returns-in-Core-clause-noted : goal.returns-in-Core-clause-noted
returns-in-Core-clause-noted g c =
    record {
      stands = kept_moved g.R.Rider.riding g.K.Carry.carrying c.args.self.now.state c.move_core.new.self.state
          c.args.taken c.in-Core.c c.args.standings.now c.move_core.new.standing c.requires.holds c.requires.enabled
          (ap core_of c.in-Core.is) c.requires.stands
          (λ port. core_moves g.R.Rider.riding g.K.Carry.carrying _ c.args.self.now.state c.move_core.new.self.state
          c.in-Core.c port c.move_core.ensures.made.state) c.move_core.ensures.renewed;
      marked = c.move_core.ensures.open.others;
      unmarked = c.move_core.ensures.open.unmarked;
    }

pub returns-in-FromHome-clause-noted : goal.returns-in-FromHome-clause-noted
returns-in-FromHome-clause-noted g c =
    let s : State g.row.R.Denot g.row.K.Denot = c.args.self.now.state in
    let t : State g.row.R.Denot g.row.K.Denot = c.take_message.new.self.state in
    let core : ℕ = c.in-FromHome.c in
    record {
      stands = kept_moved g.R.Rider.riding g.K.Carry.carrying s t c.args.taken core c.args.standings.now
          c.take_message.new.standing c.requires.holds c.requires.enabled (ap core_of c.in-FromHome.is)
          c.requires.stands (λ port. message_moves g.R.Rider.riding g.K.Carry.carrying _ s t core port
          c.take_message.ensures.made.state) c.take_message.ensures.renewed;
      marked = all_others g.R.Rider.riding g.K.Carry.carrying t c.take_message.new.marks c.take_message.ensures.marked
          CORES_MAX;
      unmarked = no_asker g.R.Rider.riding g.K.Carry.carrying
          (rider_left g.R.Rider.riding g.K.Carry.carrying s t (FromHome core)) s t (FromHome core)
          c.take_message.new.marks c.requires.holds c.take_message.ensures.made.state c.take_message.ensures.marked;
    }

pub returns-in-Request-clause-noted : goal.returns-in-Request-clause-noted
returns-in-Request-clause-noted g c =
    turn_kept g.R.Rider.riding g.K.Carry.carrying _ c.args.self.now c.self.view_is c.requires.holds c.requires.stands
    c.requires.marked c.take_request.ensures.memory
    (request_stays g.R.Rider.riding g.K.Carry.carrying c.self.inside.memory.memory c.in-Request.c)
    c.take_request.ensures.own c.take_request.ensures.marked

pub returns-in-Response-clause-noted : goal.returns-in-Response-clause-noted
returns-in-Response-clause-noted g c =
    turn_kept g.R.Rider.riding g.K.Carry.carrying _ c.args.self.now c.self-in-Response.view_is c.requires.holds
    c.requires.stands c.requires.marked c.take_response.ensures.memory
    (response_stays g.R.Rider.riding g.K.Carry.carrying c.self-in-Response.inside.memory.memory c.in-Response.c)
    c.take_response.ensures.own c.take_response.ensures.marked
