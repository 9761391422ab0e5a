-- The mover's oldest request is looked at, and then all moves that can be made are marked.
use Rattle.tso_core.proofs.NoMoveAtEnd.{holds_seen}
use Rattle.tso_core.proofs.MarksAfterMoves.{all_moves}
use Rattle.tso_core.proofs.RequestRoom.{all_looked_at}
use Rattle.tso_core.proofs.machine.BufferedMachine.all_marks.Goals as goal

pub with_late-moves-requires-clause-holds : goal.with_late-moves-requires-clause-holds
with_late-moves-requires-clause-holds g c = rw (← c.parts.view_is) at c.self.invariant.holds.memory

pub returns-clause-all : goal.returns-clause-all
returns-clause-all g c =
    all_looked_at g.R.Rider.riding g.K.Carry.carrying c.parts.view_is c.self.invariant c.with_late-moves.ensures.own
    c.with_late-moves.ensures.marked c.self.view_is

pub with_late-moves-requires-clause-noted : goal.with_late-moves-requires-clause-noted
with_late-moves-requires-clause-noted g c = rw (← c.parts.view_is) at c.self.invariant.ports

pub returns-clause-moves : goal.returns-clause-moves
returns-clause-moves g c =
    all_moves g.R.Rider.riding g.K.Carry.carrying c.args.self.now.state _
    (holds_seen g.R.Rider.riding g.K.Carry.carrying c.self.view_is c.self.invariant.holds) (returns-clause-all g c)
