use Rattle.cut_moves.specs.Seats.{SeatsUpTo}
use Rattle.cut_moves.proofs.seats.seats_in.Given as goal

abbrev pub invariant-loop-number : goal.invariant-loop-number
invariant-loop-number l = SeatsUpTo l.places l.number l.seats.items
