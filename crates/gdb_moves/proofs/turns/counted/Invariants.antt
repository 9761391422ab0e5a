use Rattle.std.proofs.Common.{◌≡◌, ◌<◌, ◌≤◌, ℕ, length, take}
use Rattle.std.specs.Prelude.{slice_index}
use Rattle.gdb_moves.proofs.Gathered.{IsCountedTo}
use Rattle.gdb_moves.proofs.turns.counted.Given as goal

abbrev pub invariant-loop-core : goal.invariant-loop-core
invariant-loop-core l = IsCountedTo l.place l.number l.core l.at
