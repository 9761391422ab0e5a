use Rattle.std.proofs.Common.{◌≡◌, ◌+◌, ◌∙◌, ℕ, List, ap, length, arith, sym, subst}
use Rattle.std.proofs.lemmas.List.{length_push}
use Rattle.vector_reduce.specs.declared.pair_vector.PairVector.{PairVector}
use Rattle.vector_reduce.specs.Arrivals.{AreBetween, AreInto}
use Rattle.vector_reduce.proofs.Next.{more_into}
use Rattle.vector_reduce.proofs.arrivals.Arrivals.new.Goals as goal

pub loop-core-preserved : goal.loop-core-preserved
loop-core-preserved c =
    let into : AreInto c.args.vectors c.loop-core.core c.in_ok-arrivals_into.field-0 =
    subst (λ (l : List PairVector). AreInto l c.loop-core.core c.in_ok-arrivals_into.field-0) c.as_slice.ensures
    c.in_ok-arrivals_into.ensures in
    record {
      number = ap length c.in_ok-push.ensures.items ∙ length_push c.loop-core.lists.items c.in_ok-arrivals_into.field-0
          ∙ ap (λ (n : ℕ). n + 1) c.loop-core.invariant.number;
      each = more_into c.args.vectors c.loop-core.lists.items c.push.new.self.items c.loop-core.core
          c.in_ok-arrivals_into.field-0
          c.loop-core.invariant.number c.in_ok-push.ensures.items c.loop-core.invariant.each into;
    }

pub invariant_of-result : goal.invariant_of-result
invariant_of-result c =
    let number = c.loop-core.invariant.number in
    let n : c.loop-core.core ≡ c.args.cores = omega (arith, c.loop-core-test.false, c.loop-core.auto.core-end) in
    let all : length c.loop-core.lists.items ≡ c.args.cores = omega (arith, number, n) in
    record {
      all = all;
      arranges = record {
        few = omega (arith, c.requires.few, all);
        between = subst (λ (m : ℕ). AreBetween m c.args.vectors) (sym all) c.requires.between;
        each = λ core lt. c.loop-core.invariant.each core (omega (arith, lt, number));
      };
    }

pub returns-clause-cores : goal.returns-clause-cores
returns-clause-cores c =
    let number = c.loop-core.invariant.number in
    omega (arith, number, c.loop-core-test.false, c.loop-core.auto.core-end)
