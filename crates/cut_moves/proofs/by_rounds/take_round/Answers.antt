use Rattle.std.proofs.Common.{Global, Vec, ℕ, List, ◌+◌, ◌<◌, ◌∙◌, ap, sym, subst, arith, length}
use Rattle.replay_core.specs.Tallies.{Tallied, count_of}
use Rattle.cut_moves.proofs.TakenRounds.{IsTaking, taking_by, taking_on}
use Rattle.cut_moves.proofs.by_rounds.take_round.Goals as goal
use Rattle.cut_moves.proofs.by_rounds.take_round.Goals.{then-has+in_ok-push, else-has}

pub loop-core-preserved : goal.loop-core-preserved
loop-core-preserved c =
    let t = c.args.tally.now in
    let f : ℕ → ℕ = count_of t.counts in
    let k = c.loop-core.core in
    let all = c.cores-core-end.ensures.all in
    let end = c.loop-core-test.true in
    let lt : k < length t.plan.totals = omega arith in
    let is = c.requires.ready k lt in
    elim c.if-has.branch [
      | then-has+in_ok-push w ↦
          subst (λ (u : Tallied). IsTaking t.plan f (k + 1) c.args.list.now.items u c.if-has.list.items)
          (sym w.tally-is)
          (subst (λ (l : List ℕ). IsTaking t.plan f (k + 1) c.args.list.now.items w.advance.new.self l)
          (sym (ap (λ (v : Vec ℕ Global). v.items) w.list-is ∙ w.in_ok-push.ensures.items))
          (taking_on t.plan f k c.args.list.now.items c.loop-core.tally c.loop-core.list.items c.loop-core.invariant lt
          (sym is ∙ sym c.has.ensures ∙ w.if-has.true) w.advance.new.self w.advance.ensures.plan
          w.advance.ensures.counts))
      | else-has w ↦
          subst (λ (u : Tallied). IsTaking t.plan f (k + 1) c.args.list.now.items u c.if-has.list.items)
          (sym w.tally-is)
          (subst (λ (l : List ℕ). IsTaking t.plan f (k + 1) c.args.list.now.items c.loop-core.tally l)
          (sym (ap (λ (v : Vec ℕ Global). v.items) w.list-is))
          (taking_by t.plan f k c.args.list.now.items c.loop-core.tally c.loop-core.list.items c.loop-core.invariant lt
          (sym is ∙ sym c.has.ensures ∙ w.if-has.false)))
    ]
