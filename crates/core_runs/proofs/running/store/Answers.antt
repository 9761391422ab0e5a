use Rattle.rv_core.specs.Operations.{moved}
use Rattle.std.proofs.Common.{◌≡◌, ◌/◌, ◌%◌, Some, rules, refl, subst}
use Rattle.rtr_types.specs.declared.access.Kind.TheVariants.{Store as Storing}
use Rattle.rtr_types.specs.declared.instr.Instr.{Instr}
use Rattle.image_mem.specs.Lanes.{merged}
use Rattle.rv_core.specs.Operations.{size_of}
use Rattle.core_runs.specs.Runs.{stands}
use Rattle.core_runs.proofs.RunSteps.{address_is, get_is, right_is, store_goes, store_stops, wrong_is}
use Rattle.core_runs.proofs.running.store.Goals as goal

pub returns-then-not-reaches : goal.returns-then-not-reaches
returns-then-not-reaches g c =
    let to : c.moved-address.result ≡ moved c.get.result c.args.imm = search rules in
    store_stops (stands c.args.head.now c.args.registers.now c.args.reach.now c.args.watch.now) c.moved-address.result
    c.args.width c.args.rs1 c.args.rs2 c.args.imm
    (address_is c.args.head.now c.args.registers.now c.args.rs1 c.args.imm _ _ c.get.ensures to)
    (wrong_is c.args.words c.moved-address.result _ c.args.width c.size_of.ensures
    (λ right. let is = c.reaches.ensures.1 right in let is_not = c.if-not-reaches.true in cc))

pub returns : goal.returns
returns g c =
    let to : c.moved-address.result ≡ moved c.get.result c.args.imm = search rules in
    store_goes c.args.head.now c.go_on.new.self c.args.registers.now c.args.registers.now c.moved-address.result
    c.args.width c.args.rs1 c.args.rs2 c.args.imm c.in-Ok.ensures.0 c.get-value.result
    (address_is c.args.head.now c.args.registers.now c.args.rs1 c.args.imm _ _ c.get.ensures to)
    (get_is c.args.head.now c.args.registers.now c.args.rs2 _ c.get-value.ensures)
    (right_is c.args.words c.moved-address.result _ c.args.width c.size_of.ensures
    (c.reaches.ensures.0 c.if-not-reaches.false))
    (subst (λ (at : Instr). g.R.Reach.told c.args.reach.now c.args.watch.now at
    (Some (Storing, c.moved-address.result / 4)) c.in-Ok.ensures.0
    (merged c.in-Ok.ensures.0 c.get-value.result (c.moved-address.result % 4) (size_of c.args.width)) c.leave.new.reach
    c.leave.new.watch) c.next.ensures c.in-Ok.ensures.1)
    refl c.go_on.ensures
