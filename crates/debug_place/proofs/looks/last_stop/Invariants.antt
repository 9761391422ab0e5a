use Rattle.std.proofs.Common.{◌≤◌, length}
use Rattle.debug_place.specs.Hits.{NoneIn, stops_on}
use Rattle.debug_place.proofs.looks.last_stop.Given as goal

-- so far none of the places from a number on is a stop
abbrev pub invariant-loop-span : goal.invariant-loop-span
invariant-loop-span g l = record {
  inside : l.past ≤ length l.timeline;
  none : NoneIn (stops_on (g.S.Stops.hits l.stops) l.index.which l.index.recording l.low l.high l.timeline) l.past
      (length l.timeline);
}
