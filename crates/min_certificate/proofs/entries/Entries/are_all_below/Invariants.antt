use Rattle.std.proofs.Common.{◌≤◌, ℕ, take}
use Rattle.rtr_types.specs.declared.instr.Instr.{Instr}
use Rattle.clock_core.specs.Order.{Among}
use Rattle.min_certificate.specs.Places.{entry_in}
use Rattle.min_certificate.proofs.entries.Entries.are_all_below.Given as goal

abbrev pub invariant-loop-edge : goal.invariant-loop-edge
invariant-loop-edge l = (x y : Instr) → Among (take l.edge-index l.edge-items) x y → (i : ℕ) →
    entry_in l.self x i ≤ entry_in l.self y i
