use Rattle.std.proofs.Common.{rules, List, sym, subst}
use Rattle.std.proofs.lemmas.List.Sorted.{IsNonDecreasingBy-from_sort_by_key}
use Rattle.vector_reduce.specs.declared.arrivals.Arrival.{Arrival}
use Rattle.vector_reduce.specs.Arrivals.{AreInto}
use Rattle.vector_reduce.proofs.GatheredEdges.{Gathers, are_into, gathers_none}
use Rattle.vector_reduce.proofs.arrivals.arrivals_into.Goals as goal

pub loop-number-init : goal.loop-number-init
loop-number-init c =
    subst (λ (l : List Arrival). Gathers c.args.vectors.now c.args.core 0 l) (sym c.new-list.ensures.items)
    (gathers_none c.args.vectors.now c.args.core)

pub returns : goal.returns
returns c =
    subst (λ (l : List Arrival). AreInto c.args.vectors.now c.args.core l) (sym c.from_vec.ensures)
    (are_into c.args.vectors.now c.args.core c.loop-number.number c.loop-number.list.items c.sort_by_key.new.self.items
    c.loop-number-test.false
    c.loop-number.invariant c.sort_by_key.ensures.permutation
    (IsNonDecreasingBy-from_sort_by_key (λ (a : Arrival). a.count) _ c.in_ok-sort_by_key.ensures.sorted
    (λ a r q k. search rules)))
