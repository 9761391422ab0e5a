use Rattle.debug_place.specs.Hits.{stops_on}
use Rattle.debug_place.proofs.SeatTests.{IsFoundLast}
use Rattle.debug_place.proofs.looks.last_within.Given as goal

-- of the cores so far the last stop was found
abbrev pub invariant-loop-core : goal.invariant-loop-core
invariant-loop-core g l =
    IsFoundLast (stops_on (g.S.Stops.hits l.stops) l.index.which l.index.recording l.low l.high l.timeline) l.timeline
    l.core l.fn.from l.past l.from l.found
