use Rattle.std.proofs.Common.{length, ap, subst, arith}
use Rattle.std.specs.Prelude.{Option}
use Rattle.vector_reduce.specs.declared.arrivals.Arrival.{Arrival}
use Rattle.vector_reduce.specs.Arrivals.{Arranged, NextDue, list_at}
use Rattle.vector_reduce.proofs.Next.{more_none}
use Rattle.vector_reduce.proofs.arrivals.Arrivals.due.Goals as goal

pub loop-core-preserved : goal.loop-core-preserved
loop-core-preserved c =
    more_none c.args.self.now.lists c.args.closing.now c.loop-core.core c.loop-core.invariant
    (subst (λ (o : Option Arrival). NextDue (list_at c.args.self.now.lists c.loop-core.core) c.args.closing.now
    c.loop-core.core o)
    c.in_default.is c.next.ensures)

pub returns : goal.returns
returns c k lt =
    let all = c.self.invariant.all in
    let seen = ap (λ (a : Arranged). length a.lists) c.self.view_is in
    c.loop-core.invariant k (omega (arith, lt, all, seen, c.loop-core-test.false))
