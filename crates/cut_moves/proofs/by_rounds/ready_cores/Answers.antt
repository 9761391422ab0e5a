use Rattle.std.proofs.Common.{◌+◌, ◌∙◌, sym, arith, true}
use Rattle.rtr_types.specs.CoreSets.{with_core}
use Rattle.replay_core.specs.Tallies.{count_of}
use Rattle.cut_moves.proofs.TakenRounds.{found_as, found_by, found_on, found_start}
use Rattle.cut_moves.proofs.by_rounds.ready_cores.Goals as goal
use Rattle.cut_moves.proofs.by_rounds.ready_cores.Goals.{then-is_ready, else-is_ready}

pub loop-core-init : goal.loop-core-init
loop-core-init c =
    let t = c.args.tally.now in
    found_start t.plan (count_of t.counts) c.empty-ready.result c.empty-ready.ensures

pub loop-core-preserved : goal.loop-core-preserved
loop-core-preserved c =
    let t = c.args.tally.now in
    let k = c.loop-core.core in
    let few = c.cores-core-end.ensures.few in
    let lt = c.loop-core-test.true in
    elim c.if-is_ready.branch [
      | then-is_ready w ↦
          found_as t.plan (count_of t.counts) (k + 1) (with_core c.loop-core.ready k) c.if-is_ready.ready true
          c.if-is_ready.some
          (found_on t.plan (count_of t.counts) k c.loop-core.ready c.loop-core.some c.loop-core.invariant (omega arith)
          (sym c.is_ready.ensures ∙ w.if-is_ready.true))
          (w.ready-is ∙ w.with-ready.ensures) w.some-is
      | else-is_ready w ↦
          found_as t.plan (count_of t.counts) (k + 1) c.loop-core.ready c.if-is_ready.ready c.loop-core.some
          c.if-is_ready.some
          (found_by t.plan (count_of t.counts) k c.loop-core.ready c.loop-core.some c.loop-core.invariant
          (sym c.is_ready.ensures ∙ w.if-is_ready.false))
          w.ready-is w.some-is
    ]
