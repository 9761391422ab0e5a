use Rattle.std.proofs.Common.{◌≡◌, ◌<◌, ◌≤◌, ◌+◌, ◌∙◌, sym, ap, ℕ, Bool, false, List, length, arith}
use Rattle.turn_lists.specs.Turns.{left_out}
use Rattle.turn_lists.specs.declared.actor.Turn.{Turn}
use Rattle.small_turns.proofs.PassSteps.{left_out_falls, needed_more, not_both, one_left_out, passed_by_falls}
use Rattle.small_turns.proofs.passes.leave_out.Goals as goal
use Rattle.small_turns.proofs.passes.leave_out.Goals.{then-asked, else-asked}

pub loop-from-smaller : goal.loop-from-smaller
loop-from-smaller g c =
    let from : ℕ = c.loop-from.from in
    let to : ℕ = c.loop-from.from + c.min.result in
    let ts : List Turn = c.loop-from.turns in
    let up : from < to = omega arith in
    let within : to ≤ length ts = omega arith in
    elim c.if-asked.branch [
      | then-asked w ↦
          let is : c.if-asked.turns ≡ left_out from to ts =
          w.turns-is ∙ c.in_ok-fewer.ensures ∙ ap (left_out from to) c.as_slice.ensures in
          left_out_falls ts c.if-asked.turns from to c.if-asked.from is w.from-is up within
      | else-asked w ↦ passed_by_falls ts c.if-asked.turns from to c.if-asked.from w.turns-is w.from-is up within
    ]

pub loop-from-preserved : goal.loop-from-preserved
loop-from-preserved g c =
    let from : ℕ = c.loop-from.from in
    let to : ℕ = c.loop-from.from + c.min.result in
    let ts : List Turn = c.loop-from.turns in
    let up : from < to = omega arith in
    let within : to ≤ length ts = omega arith in
    let breaks : List Turn → Bool = g.T.Tries.breaks c.args.tries.now in
    let is : c.in_ok-fewer.fewer ≡ left_out from to ts =
    c.in_ok-fewer.ensures ∙ ap (left_out from to) c.as_slice.ensures in
    let asked : breaks c.in_ok-fewer.fewer ≡ c.in_ok-asked.asked.breaks =
    ap breaks (sym c.as_slice-in-loop-from.ensures) ∙ sym c.in_ok-asked.ensures.breaks in
    elim c.if-asked.branch [
      | then-asked w ↦
          rw (w.turns-is, w.changed-is, w.from-is) (record {
            pass = one_left_out breaks c.args.before.turns c.args.before.changed ts
                c.loop-from.changed c.in_ok-fewer.fewer from to c.loop-from.invariant.pass is up within
                (asked ∙ w.if-asked.true);
            needed = λ _ no. not_both _ no;
            bench = rw c.into_bench-bench.ensures c.in_ok-asked.ensures.bench;
          })
      | else-asked w ↦
          let so : breaks (left_out from to ts) ≡ false = ap breaks (sym is) ∙ asked ∙ w.if-asked.false in
          rw (w.turns-is, w.changed-is, w.from-is) (record {
            pass = c.loop-from.invariant.pass;
            needed = λ one same. needed_more breaks ts from to (omega arith) so
                (c.loop-from.invariant.needed one same);
            bench = rw c.into_bench-bench.ensures c.in_ok-asked.ensures.bench;
          })
    ]
