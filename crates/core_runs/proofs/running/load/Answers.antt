use Rattle.rv_core.specs.Operations.{moved}
use Rattle.std.proofs.Common.{◌≡◌, ◌∙◌, ◌/◌, ℕ, Some, ap, rules, subst}
use Rattle.rtr_types.specs.declared.access.Kind.TheVariants.{Load as Loading}
use Rattle.rtr_types.specs.declared.instr.Instr.{Instr}
use Rattle.rv_core.specs.States.{written}
use Rattle.core_runs.specs.Runs.{stands}
use Rattle.core_runs.proofs.RunSteps.{address_is, load_goes, load_stops, right_is, wrong_is}
use Rattle.core_runs.proofs.running.load.Goals as goal

pub returns-then-not-reaches : goal.returns-then-not-reaches
returns-then-not-reaches g c =
    let to : c.moved-address.result ≡ moved c.get.result c.args.imm = search rules in
    load_stops (stands c.args.head.now c.args.registers.now c.args.reach.now c.args.watch.now) c.moved-address.result
    c.args.width c.args.rd c.args.rs1 c.args.imm
    (address_is c.args.head.now c.args.registers.now c.args.rs1 c.args.imm _ _ c.get.ensures to)
    (wrong_is c.args.words c.moved-address.result _ c.args.width c.size_of.ensures
    (λ right. let is = c.reaches.ensures.1 right in let is_not = c.if-not-reaches.true in cc))

pub returns : goal.returns
returns g c =
    let to : c.moved-address.result ≡ moved c.get.result c.args.imm = search rules in
    load_goes c.args.head.now c.go_on.new.self c.args.registers.now c.put.new.registers c.moved-address.result
    c.args.width c.args.rd c.args.rs1 c.args.imm c.in-Ok.old
    (address_is c.args.head.now c.args.registers.now c.args.rs1 c.args.imm _ _ c.get.ensures to)
    (right_is c.args.words c.moved-address.result _ c.args.width c.size_of.ensures
    (c.reaches.ensures.0 c.if-not-reaches.false))
    (subst (λ (at : Instr). g.R.Reach.told c.args.reach.now c.args.watch.now at
    (Some (Loading, c.moved-address.result / 4)) c.in-Ok.old c.in-Ok.old c.load.new.self c.load.new.watch)
    c.next.ensures
    c.in-Ok.ensures)
    (c.put.ensures ∙ ap (λ (v : ℕ). written c.args.registers.now c.args.rd v) c.loaded.ensures)
    c.go_on.ensures
