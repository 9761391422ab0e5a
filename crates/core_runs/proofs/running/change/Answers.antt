use Rattle.std.proofs.Common.{◌/◌, Some, subst}
use Rattle.rtr_types.specs.declared.access.Kind.TheVariants.{Amo as Exchanging}
use Rattle.rtr_types.specs.declared.instr.Instr.{Instr}
use Rattle.rv_core.specs.Atomics.{exchanged}
use Rattle.core_runs.specs.Runs.{stands}
use Rattle.core_runs.proofs.RunSteps.{change_goes, change_stops, get_is}
use Rattle.core_runs.proofs.running.change.Goals as goal

pub returns-then-not-reaches : goal.returns-then-not-reaches
returns-then-not-reaches g c =
    change_stops (stands c.args.head.now c.args.registers.now c.args.reach.now c.args.watch.now) c.get-address.result
    c.args.op c.args.rd c.args.rs1 c.args.rs2
    (get_is c.args.head.now c.args.registers.now c.args.rs1 _ c.get-address.ensures)
    (λ right. let is = c.reaches.ensures.1 right in let is_not = c.if-not-reaches.true in cc)

pub returns : goal.returns
returns g c =
    change_goes c.args.head.now c.go_on.new.self c.args.registers.now c.put.new.registers c.get-address.result
    c.args.op c.args.rd c.args.rs1 c.args.rs2 c.in-Ok.old c.get-value.result
    (get_is c.args.head.now c.args.registers.now c.args.rs1 _ c.get-address.ensures)
    (get_is c.args.head.now c.args.registers.now c.args.rs2 _ c.get-value.ensures)
    (c.reaches.ensures.0 c.if-not-reaches.false)
    (subst (λ (at : Instr). g.R.Reach.told c.args.reach.now c.args.watch.now at
    (Some (Exchanging, c.get-address.result / 4)) c.in-Ok.old (exchanged c.args.op c.in-Ok.old c.get-value.result)
    c.change.new.self c.change.new.watch) c.next.ensures c.in-Ok.ensures)
    c.put.ensures c.go_on.ensures
