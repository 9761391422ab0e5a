-- The request of the core that asked is looked at, and then all moves that can be made are marked.
use Rattle.msi_machine.proofs.ChosenMove.{seen_holds}
use Rattle.msi_machine.proofs.MarksAfterMoves.{all_moves}
use Rattle.msi_machine.proofs.RequestRoom.{all_looked_at}
use Rattle.msi_machine.proofs.machine.Machine.all_marks.Goals as goal

pub with_late-moves-requires-clause-holds : goal.with_late-moves-requires-clause-holds
with_late-moves-requires-clause-holds g c = rw (← c.parts.view_is) at c.self.invariant.holds.memory

pub with_late-moves-requires-clause-noted : goal.with_late-moves-requires-clause-noted
with_late-moves-requires-clause-noted g c = rw (← c.parts.view_is) at c.self.invariant.ports

pub returns-clause-all : goal.returns-clause-all
returns-clause-all g c =
    all_looked_at g.R.Rider.riding g.K.Carry.carrying c.self.invariant c.parts.view_is c.self.view_is
    c.with_late-moves.ensures.marked c.with_late-moves.ensures.own

pub returns-clause-moves : goal.returns-clause-moves
returns-clause-moves g c =
    all_moves g.R.Rider.riding g.K.Carry.carrying c.args.self.now.state _
    (seen_holds g.R.Rider.riding g.K.Carry.carrying c.self.view_is c.self.invariant.holds) (returns-clause-all g c)
