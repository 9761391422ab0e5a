use Rattle.std.proofs.Common.{◌≡◌, false}
use Rattle.std.specs.Prelude.{map, take}
use Rattle.rv_core.specs.declared.core_state.Core.{Core}
use Rattle.msi_machine.specs.Standings.{standing_with}
use Rattle.msi_machine.proofs.standing.first_standings.Given as goal

abbrev pub invariant-loop-core : goal.invariant-loop-core
invariant-loop-core l = l.found.items ≡ map (λ (core : Core). standing_with l.program core false)
    (take l.core-index l.cores)
