use Rattle.std.proofs.Common.{◌≡◌, ◌∙◌, ◌<◌, List, [], None, ap, get_or, length, subst, arith}
use Rattle.std.proofs.lemmas.List.{get_or_default}
use Rattle.vector_reduce.specs.declared.arrivals.Arrival.{Arrival}
use Rattle.vector_reduce.specs.Arrivals.{Arranged, NextDue, list_at, no_arrival, passed_of}
use Rattle.vector_reduce.proofs.Next.{not_due}
use Rattle.vector_reduce.proofs.arrivals.Arrivals.next.Goals as goal

pub returns-else-arrival-closing : goal.returns-else-arrival-closing
returns-else-arrival-closing c =
    let s = c.args.closing.now in
    let core = c.args.core in
    let all = ap (λ (a : Arranged). length a.lists) c.self.view_is in
    let lists = c.self.inside.lists.items in
    let inside : core < length c.self.inside.lists.items = omega (arith, all, c.requires) in
    let list_is : c.as_slice.result.now ≡ list_at c.self.inside.lists.items c.args.core =
    c.as_slice.ensures ∙ c.index.ensures
    ∙ get_or_default c.self.inside.lists.items c.args.core c.index.result.now [] inside in
    let here : c.in-Some.arrival.now
    ≡ get_or (list_at c.self.inside.lists.items c.args.core) (passed_of c.args.closing.now c.args.core) no_arrival =
    c.in-Some.ensures.lookup.3.1 no_arrival
    ∙ ap (λ (l : List Arrival). get_or l (passed_of c.args.closing.now c.args.core) no_arrival) list_is in
    subst (λ (a : Arranged). NextDue (list_at a.lists c.args.core) c.args.closing.now c.args.core None) c.self.view_is
    (not_due c.self.inside.vectors c.args.core (list_at c.self.inside.lists.items c.args.core) c.args.closing.now
    c.in-Some.arrival.now
    (c.self.invariant.arranges.each c.args.core inside) here c.if-arrival-closing.false)
