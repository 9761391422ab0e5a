use Rattle.std.proofs.Common.{take}
use Rattle.rtr_types.specs.declared.instr.Instr.{Instr}
use Rattle.clock_core.specs.Order.{Among}
use Rattle.min_certificate.specs.Sound.{IsSound}
use Rattle.min_certificate.proofs.entries.Entries.first_amiss.Given as goal

abbrev pub invariant-loop-edge : goal.invariant-loop-edge
invariant-loop-edge l = (x y : Instr) → Among (take l.edge-index l.edge-items) x y → IsSound l.self l.accesses x y
