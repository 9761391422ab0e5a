use Rattle.debug_place.specs.Hits.{stops_on}
use Rattle.debug_place.proofs.SeatTests.{IsFoundFirst}
use Rattle.debug_place.proofs.looks.first_within.Given as goal

-- of the cores so far the first stop was found
abbrev pub invariant-loop-core : goal.invariant-loop-core
invariant-loop-core g l =
    IsFoundFirst (stops_on (g.S.Stops.hits l.stops) l.index.which l.index.recording l.low l.high l.timeline) l.timeline
    l.core l.from l.fn.past l.past l.found
