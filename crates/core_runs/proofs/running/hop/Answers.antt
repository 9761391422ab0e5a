use Rattle.std.proofs.Common.{◌≡◌, ◌∙◌, ap, rules, subst, sym}
use Rattle.rv_decode.specs.declared.op.Op.{Op}
use Rattle.rv_core.specs.Operations.{moved, without_low_bit}
use Rattle.core_runs.specs.Runs.{Hops, HopsTo, core_of}
use Rattle.core_runs.proofs.RunSteps.{address_is, branch_hops, branch_passes, branches_is, jal_hops, jalr_hops}
use Rattle.core_runs.proofs.running.hop.Goals as goal

pub returns-in-Jal : goal.returns-in-Jal
returns-in-Jal c =
    let to : c.moved.result ≡ moved c.args.head.now.pc c.in-Jal.offset = search rules in
    subst (λ (o : Op). HopsTo o (core_of c.args.head.now c.args.registers.now) c.jump.result
    (core_of c.jump.new.head c.jump.new.registers)) (sym c.in-Jal.is)
    (jal_hops c.args.head.now c.jump.new.head c.args.registers.now c.jump.new.registers c.moved.result c.jump.result
    c.in-Jal.rd c.in-Jal.offset to c.jump.ensures.result c.jump.ensures.head c.jump.ensures.registers)

pub returns-in-Jalr : goal.returns-in-Jalr
returns-in-Jalr c =
    let to : c.moved-in-Jalr.result ≡ moved c.get.result c.in-Jalr.imm = search rules in
    let base = address_is c.args.head.now c.args.registers.now c.in-Jalr.rs1 c.in-Jalr.imm c.get.result
    c.moved-in-Jalr.result c.get.ensures to in
    subst (λ (o : Op). HopsTo o (core_of c.args.head.now c.args.registers.now) c.jump-in-Jalr.result
    (core_of c.jump-in-Jalr.new.head c.jump-in-Jalr.new.registers)) (sym c.in-Jalr.is)
    (jalr_hops c.args.head.now c.jump-in-Jalr.new.head c.args.registers.now c.jump-in-Jalr.new.registers
    c.without_low_bit-target.result c.jump-in-Jalr.result c.in-Jalr.rd c.in-Jalr.rs1 c.in-Jalr.imm
    (c.without_low_bit-target.ensures ∙ ap without_low_bit base) c.jump-in-Jalr.ensures.result
    c.jump-in-Jalr.ensures.head c.jump-in-Jalr.ensures.registers)

pub returns-then-is_taken : goal.returns-then-is_taken
returns-then-is_taken c =
    let to : c.moved-then-is_taken.result ≡ moved c.args.head.now.pc c.in-Branch.offset = search rules in
    subst (λ (o : Op). HopsTo o (core_of c.args.head.now c.args.registers.now) c.jump-then-is_taken.result
    (core_of c.jump-then-is_taken.new.self c.args.registers.now)) (sym c.in-Branch.is)
    (branch_hops c.args.head.now c.jump-then-is_taken.new.self c.args.registers.now c.args.registers.now
    c.moved-then-is_taken.result c.jump-then-is_taken.result c.in-Branch.cond c.in-Branch.rs1 c.in-Branch.rs2
    c.in-Branch.offset
    (branches_is c.args.head.now c.args.registers.now c.in-Branch.cond c.in-Branch.rs1 c.in-Branch.rs2 _ _ _
    c.get-in-Branch.ensures c.get-in-Branch-2.ensures c.is_taken.ensures ∙ c.if-is_taken.true)
    to c.jump-then-is_taken.ensures.result c.jump-then-is_taken.ensures.head)

pub returns-else-is_taken : goal.returns-else-is_taken
returns-else-is_taken c =
    subst (λ (o : Op). Hops o (core_of c.args.head.now c.args.registers.now)
    (core_of c.go_on.new.self c.args.registers.now)) (sym c.in-Branch.is)
    (branch_passes c.args.head.now c.go_on.new.self c.args.registers.now c.in-Branch.cond c.in-Branch.rs1
    c.in-Branch.rs2 c.in-Branch.offset
    (branches_is c.args.head.now c.args.registers.now c.in-Branch.cond c.in-Branch.rs1 c.in-Branch.rs2 _ _ _
    c.get-in-Branch.ensures c.get-in-Branch-2.ensures c.is_taken.ensures ∙ c.if-is_taken.false)
    c.go_on.ensures)
