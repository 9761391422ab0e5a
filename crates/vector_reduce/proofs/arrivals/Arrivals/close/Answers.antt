-- Arrival by arrival: the cut has taken in what leads to the instruction by the arrivals passed, and each turn leaves
-- fewer. Where none is due, the cut is closed.
use Rattle.std.proofs.Common.{ℕ, subst, arith}
use Rattle.std.specs.Prelude.{Bool, Option}
use Rattle.vector_reduce.specs.declared.arrivals.Arrival.{Arrival}
use Rattle.vector_reduce.specs.Arrivals.{AnyDue, Arranged, Arranges, Takes}
use Rattle.vector_reduce.proofs.ClosingCuts.{closed_at_end, due_is, goes, goes_on}
use Rattle.vector_reduce.proofs.ClosingCuts.{less_to_go, source_inside, still_fits}
use Rattle.vector_reduce.proofs.arrivals.Arrivals.close.Goals as goal

pub loop-core-init : goal.loop-core-init
loop-core-init c = goes c.args.self.now c.args.stays.now c.args.at c.args.closing.now c.raise.new.self
    c.requires.closing c.raise.ensures

pub raise-requires : goal.raise-requires
raise-requires c =
    let r : Arranges c.args.self.now.vectors c.args.self.now.lists =
    subst (λ (a : Arranged). Arranges a.vectors a.lists) c.self.view_is c.self.invariant.arranges in
    let few = r.few in
    omega (arith, few, c.requires.core)

pub take-requires : goal.take-requires
take-requires c =
    let r : Arranges c.args.self.now.vectors c.args.self.now.lists =
    subst (λ (a : Arranged). Arranges a.vectors a.lists) c.self.view_is c.self.invariant.arranges in
    let due = due_is c.args.self.now c.loop-core.closing c.due.result c.in-Some.core c.in-Some.arrival c.due.ensures
    c.in-Some.is in
    source_inside c.args.self.now c.loop-core.closing c.in-Some.core c.in-Some.arrival r due.0 due.1

pub pass-requires-clause-core : goal.pass-requires-clause-core
pass-requires-clause-core c =
    let r : Arranges c.args.self.now.vectors c.args.self.now.lists =
    subst (λ (a : Arranged). Arranges a.vectors a.lists) c.self.view_is c.self.invariant.arranges in
    let few = r.few in
    let due = due_is c.args.self.now c.loop-core.closing c.due.result c.in-Some.core c.in-Some.arrival c.due.ensures
    c.in-Some.is in
    let inside = due.0 in
    omega (arith, few, inside)

pub pass-requires-clause-fits : goal.pass-requires-clause-fits
pass-requires-clause-fits c =
    let due = due_is c.args.self.now c.loop-core.closing c.due.result c.in-Some.core c.in-Some.arrival c.due.ensures
    c.in-Some.is in
    still_fits _ c.loop-core.closing c.take.new.self c.in-Some.core c.in-Some.arrival _ due.1 c.take.ensures

pub loop-core-smaller : goal.loop-core-smaller
loop-core-smaller c =
    let due = due_is c.args.self.now c.loop-core.closing c.due.result c.in-Some.core c.in-Some.arrival c.due.ensures
    c.in-Some.is in
    less_to_go c.args.self.now c.args.stays.now c.loop-core.closing c.take.new.self c.pass.new.self c.in-Some.core
    c.in-Some.arrival due.0 due.1
    (subst (λ (b : Bool). Takes c.loop-core.closing b c.in-Some.arrival.from c.take.new.self) c.is_beside.ensures
    c.take.ensures) c.pass.ensures

pub loop-core-preserved : goal.loop-core-preserved
loop-core-preserved c =
    let r : Arranges c.args.self.now.vectors c.args.self.now.lists =
    subst (λ (a : Arranged). Arranges a.vectors a.lists) c.self.view_is c.self.invariant.arranges in
    let due = due_is c.args.self.now c.loop-core.closing c.due.result c.in-Some.core c.in-Some.arrival c.due.ensures
    c.in-Some.is in
    goes_on c.args.self.now c.args.stays.now c.args.at c.loop-core.closing c.take.new.self c.pass.new.self
    c.in-Some.core c.in-Some.arrival r due.0 due.1
    (subst (λ (b : Bool). Takes c.loop-core.closing b c.in-Some.arrival.from c.take.new.self) c.is_beside.ensures
    c.take.ensures) c.pass.ensures
    c.loop-core.invariant

pub returns : goal.returns
returns c =
    let r : Arranges c.args.self.now.vectors c.args.self.now.lists =
    subst (λ (a : Arranged). Arranges a.vectors a.lists) c.self.view_is c.self.invariant.arranges in
    closed_at_end c.args.self.now c.args.stays.now c.args.at c.loop-core.closing r
    (subst (λ (o : Option (ℕ × Arrival)). AnyDue c.args.self.now.lists c.loop-core.closing o) c.in_default.is
    c.due.ensures) c.loop-core.invariant
