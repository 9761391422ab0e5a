use Rattle.std.proofs.Common.{◌≡◌, map, take}
use Rattle.rv_core.specs.declared.core_state.Core.{Core}
use Rattle.run_steps.proofs.ends.totals_of.Given as goal

-- the totals of the cores so far
abbrev pub invariant-loop-core : goal.invariant-loop-core
invariant-loop-core g l =
    l.totals ≡ map (λ (k : Core). k.count) (take l.core (g.M.SteppedMachine.cores l.machine))
