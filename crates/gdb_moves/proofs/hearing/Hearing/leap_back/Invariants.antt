use Rattle.std.proofs.Common.{◌≤◌, ◌-◌, length}
use Rattle.gdb_moves.specs.declared.direction.Direction.TheVariants.{Back}
use Rattle.gdb_moves.specs.Leaps.{HasLeapt}
use Rattle.gdb_moves.specs.Stopping.{stopping_of}
use Rattle.gdb_moves.specs.Turns.{timeline_at}
use Rattle.gdb_moves.proofs.hearing.Hearing.leap_back.Given as goal

-- so many turns were taken
abbrev pub invariant-loop-least : goal.invariant-loop-least
invariant-loop-least l = record {
  leapt : HasLeapt Back (stopping_of l.self) l.cores l.fn.place l.known l.place;
  order : l.least ≤ l.known;
  within : l.known ≤ length (timeline_at l.fn.place);
}

abbrev pub decreases-loop-least : goal.decreases-loop-least
decreases-loop-least l = l.known - l.least
