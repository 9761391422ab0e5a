use Rattle.std.proofs.Common.{◌≡◌}
use Rattle.std.specs.Prelude.{replicate}
use Rattle.edge_regulate.specs.Seats.{no_seat}
use Rattle.edge_regulate.proofs.regulator.Regulator.new.Given as goal

-- there is one for as many cores as turns were taken
abbrev pub invariant-loop-core : goal.invariant-loop-core
invariant-loop-core l = l.seats.items ≡ replicate l.core no_seat
