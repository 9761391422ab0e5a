use Rattle.std.proofs.Common.{◌+◌, ◌∙◌, ◌<◌, ℕ, List, ap, arith, length, sym, subst}
use Rattle.std.specs.Prelude.{Bool}
use Rattle.std.proofs.lemmas.List.{length_push}
use Rattle.vector_reduce.specs.declared.thinned.Shown.{Shown}
use Rattle.vector_reduce.specs.Arrivals.{Tries}
use Rattle.vector_reduce.specs.Kept.{beside}
use Rattle.vector_reduce.specs.Showing.{IsFormed, IsLeastShown}
use Rattle.vector_reduce.specs.Vectors.{others_of, vector_at}
use Rattle.vector_reduce.proofs.Trials.{AllStay, more_at, none_stay, one_more_stays, tried_is_shown}
use Rattle.vector_reduce.proofs.thinning.shown.Goals as goal

pub loop-number-init : goal.loop-number-init
loop-number-init c = record {
  stays = subst (λ (l : List Bool). AllStay c.args.arrivals.now.vectors l 0) (sym c.new-stays.ensures.items)
      (none_stay c.args.arrivals.now.vectors);
  number = ap length c.new-shown.ensures;
  least = λ k lt. absurd (omega (arith, lt));
  formed = λ k lt. absurd (omega (arith, lt));
}

pub loop-number-preserved : goal.loop-number-preserved
loop-number-preserved c =
    let vs = c.args.arrivals.now.vectors in
    let k = c.loop-number.number in
    let i = c.loop-number.invariant in
    let all = ap length c.vectors-number-end.ensures in
    let lt : c.loop-number.number < length c.args.arrivals.now.vectors = omega (arith, all, c.loop-number-test.true) in
    record {
      stays = subst (λ (l : List Bool). AllStay c.args.arrivals.now.vectors l (c.loop-number.number + 1))
          (sym c.in_ok-push-2.ensures.items)
          (one_more_stays vs c.loop-number.stays.items k lt i.stays);
      number = ap length c.in_ok-push.ensures.ok ∙ length_push c.loop-number.shown c.trial.result
          ∙ ap (λ (n : ℕ). n + 1) i.number;
      least = more_at (λ (j : ℕ) (s : Shown). IsLeastShown (others_of c.args.arrivals.now.vectors j)
          (vector_at c.args.arrivals.now.vectors j) s)
          c.loop-number.shown c.push.new.self k c.trial.result i.number c.in_ok-push.ensures.ok i.least
          (tried_is_shown vs c.loop-number.stays.items k c.trial.result lt i.stays c.requires
          (subst (λ (b : List Bool). Tries (beside c.args.arrivals.now.vectors b)
          (vector_at c.args.arrivals.now.vectors (length b)) c.trial.result)
          c.as_slice.ensures.value c.trial.ensures.tried));
      formed = more_at (λ (j : ℕ) (s : Shown). IsFormed (length c.args.arrivals.now.lists) s)
          c.loop-number.shown c.push.new.self k c.trial.result i.number c.in_ok-push.ensures.ok i.formed
          c.trial.ensures.formed;
    }
