use Rattle.std.proofs.Common.{◌≡◌, ℤ, None, of_z, rules, subst, sym, to_z, w32}
use Rattle.rtr_types.specs.declared.instr.Instr.{Instr}
use Rattle.rv_decode.specs.declared.op.Op.{Op}
use Rattle.rv_decode.specs.declared.op.Op.TheVariants.{Load as Loads, Store as Stores}
use Rattle.core_runs.specs.Runs.{StepsTo, core_of, stands}
use Rattle.core_runs.proofs.RunSteps.{local_goes, local_stops}
use Rattle.core_runs.proofs.running.step.Goals as goal

pub returns-in-Load : goal.returns-in-Load
returns-in-Load g c =
    let same : to_z w32 (of_z w32 c.in-Load.imm) ≡ c.in-Load.imm = search rules in
    subst (λ (o : Op). StepsTo g.R.Reach.told g.R.Reach.refused c.args.words o
    (stands c.args.head.now c.args.registers.now c.args.reach.now c.args.watch.now) c.load.result
    (stands c.load.new.head c.load.new.registers c.load.new.reach c.load.new.watch)) (sym c.in-Load.is)
    (subst (λ (z : ℤ). StepsTo g.R.Reach.told g.R.Reach.refused c.args.words (Loads c.in-Load.width c.in-Load.rd
    c.in-Load.rs1 z)
    (stands c.args.head.now c.args.registers.now c.args.reach.now c.args.watch.now) c.load.result
    (stands c.load.new.head c.load.new.registers c.load.new.reach c.load.new.watch)) same
    c.load.ensures)

pub returns-in-Store : goal.returns-in-Store
returns-in-Store g c =
    let same : to_z w32 (of_z w32 c.in-Store.imm) ≡ c.in-Store.imm = search rules in
    subst (λ (o : Op). StepsTo g.R.Reach.told g.R.Reach.refused c.args.words o
    (stands c.args.head.now c.args.registers.now c.args.reach.now c.args.watch.now) c.store.result
    (stands c.store.new.head c.store.new.registers c.store.new.reach c.store.new.watch)) (sym c.in-Store.is)
    (subst (λ (z : ℤ). StepsTo g.R.Reach.told g.R.Reach.refused c.args.words (Stores c.in-Store.width c.in-Store.rs1
    c.in-Store.rs2 z)
    (stands c.args.head.now c.args.registers.now c.args.reach.now c.args.watch.now) c.store.result
    (stands c.store.new.head c.store.new.registers c.store.new.reach c.store.new.watch)) same
    c.store.ensures)

pub returns-in-Amo : goal.returns-in-Amo
returns-in-Amo g c =
    subst (λ (o : Op). StepsTo g.R.Reach.told g.R.Reach.refused c.args.words o
    (stands c.args.head.now c.args.registers.now c.args.reach.now c.args.watch.now) c.change.result
    (stands c.change.new.head c.change.new.registers c.change.new.reach c.change.new.watch)) (sym c.in-Amo.is)
    c.change.ensures

pub returns-then-not-hop : goal.returns-then-not-hop
returns-then-not-hop g c =
    local_stops c.args.op (core_of c.args.head.now c.args.registers.now) (core_of c.hop.new.head c.hop.new.registers)
    c.hop.result c.hop.ensures c.args.words c.args.reach.now c.args.watch.now c.if-not-hop.true

pub returns-else-not-hop : goal.returns-else-not-hop
returns-else-not-hop g c =
    local_goes c.args.op (core_of c.args.head.now c.args.registers.now) (core_of c.hop.new.head c.hop.new.registers)
    c.hop.result c.hop.ensures c.args.words c.args.reach.now c.local.new.self c.args.watch.now c.local.new.watch
    c.if-not-hop.false
    (subst (λ (at : Instr). g.R.Reach.told c.args.reach.now c.args.watch.now at None 0 0 c.local.new.self
    c.local.new.watch) c.next-at.ensures c.local.ensures)
