use Rattle.std.proofs.Common.{◌≡◌, ◌<◌, ◌≤◌, ◌∙◌, sym, ap, ℕ, List, length, arith}
use Rattle.turn_lists.specs.Turns.{count_at, with_count}
use Rattle.turn_lists.specs.declared.actor.Turn.{Turn}
use Rattle.small_turns.proofs.Weights.{read_less, read_most}
use Rattle.small_turns.proofs.PassSteps.{not_both, one_shorter, shorter_long, shortest_more}
use Rattle.small_turns.proofs.passes.shorten.Goals as goal
use Rattle.small_turns.proofs.passes.shorten.Goals.{then-count-as_slice+in_ok-turns, else-count-as_slice}

pub loop-place-preserved : goal.loop-place-preserved
loop-place-preserved g c =
    let place : ℕ = c.loop-place.place in
    let ts : List Turn = c.loop-place.turns in
    let within : place < length ts = omega arith in
    elim c.if-count-as_slice.branch [
      | then-count-as_slice+in_ok-turns w ↦
          let is : c.if-count-as_slice.turns ≡ with_count place c.in_ok-count.count ts =
          w.turns-is ∙ w.in_ok-turns.ensures
          ∙ ap (with_count place c.in_ok-count.count) w.as_slice-then-count-as_slice.ensures in
          let less : c.in_ok-count.count < count_at place ts =
          read_less ts _ place c.in_ok-count.count _ c.as_slice-in-loop-place.ensures within w.if-count-as_slice.true in
          record {
            pass = rw w.changed-is (one_shorter (g.T.Tries.breaks c.args.tries.now) c.args.before.turns
                c.args.before.changed ts c.loop-place.changed _ c.if-count-as_slice.turns place c.in_ok-count.count
                c.as_slice.ensures c.loop-place.invariant.pass is within less c.in_ok-count.ensures.breaks);
            long = shorter_long ts c.if-count-as_slice.turns place c.in_ok-count.count _ is c.loop-place.invariant.long;
            shortest = λ same. not_both _ (sym w.changed-is ∙ same);
            bench = c.in_ok-count.ensures.bench;
          }
      | else-count-as_slice w ↦
          let most : count_at place ts ≤ c.in_ok-count.count =
          read_most ts _ place c.in_ok-count.count _ c.as_slice-in-loop-place.ensures within
          w.if-count-as_slice.false in
          rw (w.turns-is, w.changed-is) (record {
            pass = c.loop-place.invariant.pass;
            long = c.loop-place.invariant.long;
            shortest = λ same. shortest_more (g.T.Tries.breaks c.args.tries.now) ts _ place c.in_ok-count.count
                c.as_slice.ensures c.in_ok-count.ensures.most most c.in_ok-count.ensures.least
                (c.loop-place.invariant.shortest same);
            bench = c.in_ok-count.ensures.bench;
          })
    ]
