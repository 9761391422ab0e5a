use Rattle.edge_regulate.proofs.SeatSources.{Looking}
use Rattle.edge_regulate.proofs.seat.Seat.look.Given as goal

-- the sources before this one were looked at
abbrev pub invariant-loop-source : goal.invariant-loop-source
invariant-loop-source l = Looking l.fn.self l.self l.count l.known l.next l.source
