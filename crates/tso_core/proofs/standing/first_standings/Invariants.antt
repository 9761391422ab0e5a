use Rattle.std.proofs.Common.{◌≡◌}
use Rattle.std.specs.Prelude.{map, take}
use Rattle.tso_state.specs.States.{BufferedCore}
use Rattle.tso_core.specs.Standings.{standing_with}
use Rattle.tso_core.proofs.standing.first_standings.Given as goal

abbrev pub invariant-loop-station : goal.invariant-loop-station
invariant-loop-station l = l.found.items ≡ map (λ (t : BufferedCore). standing_with l.program t.core)
    (take l.station-index l.cores)
