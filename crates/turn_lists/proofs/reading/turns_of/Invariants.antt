use Rattle.std.proofs.Common.{IsUtf8, length}
use Rattle.turn_lists.proofs.ReadingPlaces.{StandsAt}
use Rattle.turn_lists.proofs.reading.turns_of.Given as goal

abbrev pub invariant-loop-front : goal.invariant-loop-front
invariant-loop-front l = StandsAt l.fn.text l.turns l.left × IsUtf8 l.left

abbrev pub decreases-loop-front : goal.decreases-loop-front
decreases-loop-front l = length l.left
