use Rattle.std.proofs.Common.{◌≤◌, ◌-◌, length}
use Rattle.gdb_moves.specs.declared.direction.Direction.TheVariants.{Forward}
use Rattle.gdb_moves.specs.Leaps.{HasLeapt}
use Rattle.gdb_moves.specs.Stopping.{stopping_of}
use Rattle.gdb_moves.specs.Turns.{timeline_at}
use Rattle.gdb_moves.proofs.hearing.Hearing.leap.Given as goal

-- so many turns were taken
abbrev pub invariant-loop-known : goal.invariant-loop-known
invariant-loop-known l = record {
  leapt : HasLeapt Forward (stopping_of l.self) l.cores l.fn.place l.known l.place;
  order : l.known ≤ l.most;
  within : l.most ≤ length (timeline_at l.fn.place);
}

abbrev pub decreases-loop-known : goal.decreases-loop-known
decreases-loop-known l = l.most - l.known
