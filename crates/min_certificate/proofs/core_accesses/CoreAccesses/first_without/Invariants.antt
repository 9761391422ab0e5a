use Rattle.std.proofs.Common.{take}
use Rattle.rtr_types.specs.declared.instr.Instr.{Instr}
use Rattle.clock_core.specs.Order.{Among}
use Rattle.min_certificate.specs.Conflicting.{BothConflict}
use Rattle.min_certificate.proofs.core_accesses.CoreAccesses.first_without.Given as goal

abbrev pub invariant-loop-edge : goal.invariant-loop-edge
invariant-loop-edge l = (x y : Instr) → Among (take l.edge-index l.edges) x y → BothConflict l.self x y
