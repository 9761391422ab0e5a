use Rattle.std.proofs.Common.{take}
use Rattle.rtr_types.specs.declared.instr.Instr.{Instr}
use Rattle.clock_core.specs.Order.{Among}
use Rattle.min_certificate.specs.Places.{IsNeededIn}
use Rattle.min_certificate.proofs.entries.Entries.first_not_needed.Given as goal

abbrev pub invariant-loop-edge : goal.invariant-loop-edge
invariant-loop-edge l = (x y : Instr) → Among (take l.edge-index l.edge-items) x y → IsNeededIn l.self x y
