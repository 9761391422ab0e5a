use Rattle.std.proofs.Common.{◌+◌, ◌∙◌, ◌<◌, ℕ, List, ap, arith, get_or, length, nat_lt, sym, subst}
use Rattle.std.specs.Prelude.{Bool}
use Rattle.std.proofs.lemmas.List.{length_push}
use Rattle.vector_reduce.specs.declared.pair_vector.PairVector.{PairVector}
use Rattle.vector_reduce.specs.Arrivals.{Tries}
use Rattle.vector_reduce.specs.Kept.{beside}
use Rattle.vector_reduce.specs.Vectors.{no_vector, vector_at}
use Rattle.vector_reduce.proofs.Trials.{SoFar, so_far_all, so_far_more, so_far_none}
use Rattle.vector_reduce.proofs.thinning.stays.Goals as goal

pub loop-number-init : goal.loop-number-init
loop-number-init c = record {
  number = ap length c.new-stays.ensures.items;
  so_far = subst (λ (l : List Bool). SoFar c.args.arrivals.now.vectors l) (sym c.new-stays.ensures.items)
      (so_far_none c.args.arrivals.now.vectors);
}

pub loop-number-preserved : goal.loop-number-preserved
loop-number-preserved c =
    let vs = c.args.arrivals.now.vectors in
    let stays = c.loop-number.stays.items in
    let number = c.loop-number.invariant.number in
    let all = ap length c.vectors-vectors.ensures in
    let lt : length c.loop-number.stays.items < length c.args.arrivals.now.vectors =
    omega (arith, number, all, c.loop-number-test.true) in
    record {
      number = ap length c.in_ok-push.ensures.items ∙ length_push stays _ ∙ ap (λ (n : ℕ). n + 1) number;
      so_far = subst (λ (l : List Bool). SoFar c.args.arrivals.now.vectors l) (sym c.in_ok-push.ensures.items)
          (so_far_more vs stays c.trial-trial.result _ lt c.loop-number.invariant.so_far
          (subst (λ (b : List Bool). Tries (beside c.args.arrivals.now.vectors b)
          (vector_at c.args.arrivals.now.vectors (length b)) c.trial-trial.result)
          c.as_slice.ensures.value c.trial-trial.ensures.tried)
          (ap (λ (l : List PairVector). nat_lt c.trial-trial.result.edge
          (get_or l c.loop-number.number no_vector).vector.n) c.vectors-vectors.ensures
          ∙ ap (λ (n : ℕ). nat_lt c.trial-trial.result.edge (get_or c.args.arrivals.now.vectors n no_vector).vector.n)
          (sym number)));
    }

pub returns-clause-thinned : goal.returns-clause-thinned
returns-clause-thinned c =
    let number = c.loop-number.invariant.number in
    let all = ap length c.vectors-vectors.ensures in
    so_far_all c.args.arrivals.now.vectors c.loop-number.stays.items
    (omega (arith, number, all, c.loop-number-test.false, c.loop-number.auto.number-end)) c.loop-number.invariant.so_far
