use Rattle.std.proofs.Common.{◌≡◌, ◌∙◌, ◌+◌, ℕ, length, sym, subst, arith}
use Rattle.rtr_types.specs.declared.core_set.CoreSet.{CoreSet}
use Rattle.msi_memory.specs.declared.port.Port.{Port}
use Rattle.msi_memory.proofs.AskerSets.{AskedBelow, asked_all, asked_no, asked_none, asked_yes}
use Rattle.msi_memory.proofs.memory.askers.Goals.{then-asks, else-asks}
use Rattle.msi_memory.proofs.memory.askers.Goals as goal

pub loop-n-init : goal.loop-n-init
loop-n-init g c =
    subst (λ (set : CoreSet). AskedBelow c.args.ports.now 0 c.args.block set) (sym c.empty-set.ensures)
    (asked_none c.args.ports.now c.args.block)

pub loop-n-preserved : goal.loop-n-preserved
loop-n-preserved g c =
    let port : Port g.row.R.Denot g.row.K.Denot = c.index-ports-n.result in
    elim c.if-asks.branch [
      | then-asks w ↦ subst (λ (set : CoreSet). AskedBelow c.args.ports.now (c.loop-n.n + 1) c.args.block set)
          (sym (w.set-is ∙ w.with-set.ensures))
          (asked_yes c.args.ports.now c.loop-n.n c.args.block c.loop-n.set port (omega (arith, c.requires.few))
          c.loop-n-test.true (sym c.index-ports-n.is)
          (sym c.asks.ensures ∙ w.if-asks.true) c.loop-n.invariant)
      | else-asks w ↦ subst (λ (set : CoreSet). AskedBelow c.args.ports.now (c.loop-n.n + 1) c.args.block set)
          (sym w.set-is)
          (asked_no c.args.ports.now c.loop-n.n c.args.block c.loop-n.set port c.loop-n-test.true
          (sym c.index-ports-n.is)
          (sym c.asks.ensures ∙ w.if-asks.false) c.loop-n.invariant)
    ]

pub returns : goal.returns
returns g c =
    let all : c.loop-n.n ≡ length c.args.ports.now = omega (arith, c.loop-n.auto.n-end, c.loop-n-test.false) in
    asked_all c.args.ports.now c.args.block c.loop-n.set
    (subst (λ (n : ℕ). AskedBelow c.args.ports.now n c.args.block c.loop-n.set) all c.loop-n.invariant)
