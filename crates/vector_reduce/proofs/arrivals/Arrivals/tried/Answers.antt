-- Edge by edge: the cut is the least one closed at the targets so far, so it holds an edge's source exactly where the
-- other vectors imply the edge.
use Rattle.std.proofs.Common.{◌<◌, ◌∙◌, length, refl, sym, ap, subst, arith}
use Rattle.rtr_types.specs.declared.TheConstants.{CORES_MAX}
use Rattle.rtr_types.specs.declared.instr.Edge.{Edge}
use Rattle.vector_reduce.specs.Arrivals.{Arranged, IsClosedAt, IsClosing, counts_of}
use Rattle.vector_reduce.specs.Cuts.{Holds}
use Rattle.vector_reduce.specs.Vectors.{edge_at}
use Rattle.vector_reduce.proofs.ClosingCuts.{tries_first, tries_implied, tries_next, tries_shown}
use Rattle.vector_reduce.proofs.arrivals.Arrivals.tried.Goals as goal

pub loop-position-init : goal.loop-position-init
loop-position-init c =
    tries_first c.args.self.now c.args.stays.now c.args.vector.now c.none-closing.result c.none-closing.ensures.counts
    c.none-closing.ensures.passed

pub close-requires-clause-core : goal.close-requires-clause-core
close-requires-clause-core c =
    subst (λ (e : Edge). e.to.core < length c.args.self.now.lists) (sym c.edge-edge.ensures) c.requires.pair.target

pub close-requires-clause-closing : goal.close-requires-clause-closing
close-requires-clause-closing c =
    subst (λ (e : Edge). IsClosing c.args.self.now c.args.stays.now e.to c.loop-position.closing)
    (sym c.edge-edge.ensures)
    (c.loop-position.invariant.closing (edge_at c.args.vector.now c.loop-position.position).to refl (omega arith))

pub holds-requires : goal.holds-requires
holds-requires c =
    let source = c.requires.pair.source in
    let few = c.self.invariant.arranges.few in
    let all = ap (λ (a : Arranged). length a.lists) c.self.view_is in
    subst (λ (e : Edge). e.from.core < CORES_MAX) (sym c.edge-edge.ensures) (omega (arith, source, few, all))

pub loop-position-preserved : goal.loop-position-preserved
loop-position-preserved c =
    let closed : IsClosedAt c.args.self.now c.args.stays.now (edge_at c.args.vector.now c.loop-position.position).to
    c.close.new.closing =
    subst (λ (e : Edge). IsClosedAt c.args.self.now c.args.stays.now e.to c.close.new.closing) c.edge-edge.ensures
    c.close.ensures in
    let held : Holds (counts_of c.close.new.closing) (edge_at c.args.vector.now c.loop-position.position).from =
    subst (λ (e : Edge). Holds (counts_of c.close.new.closing) e.from) c.edge-edge.ensures
    (c.holds.ensures.0 c.if-not-holds.false) in
    tries_next c.args.self.now c.args.stays.now c.args.vector.now c.loop-position.position c.loop-position.closing
    c.close.new.closing c.requires
    c.loop-position.invariant closed held

pub returns-then-not-holds-clause-tried : goal.returns-then-not-holds-clause-tried
returns-then-not-holds-clause-tried c =
    let closed : IsClosedAt c.args.self.now c.args.stays.now (edge_at c.args.vector.now c.loop-position.position).to
    c.close.new.closing =
    subst (λ (e : Edge). IsClosedAt c.args.self.now c.args.stays.now e.to c.close.new.closing) c.edge-edge.ensures
    c.close.ensures in
    tries_shown c.args.self.now c.args.stays.now c.args.vector.now c.loop-position.position c.loop-position.closing
    c.close.new.closing _
    c.loop-position-test.true c.loop-position.invariant closed
    (λ held. let t = c.holds.ensures.1
    (subst (λ (e : Edge). Holds (counts_of c.close.new.closing) e.from) (sym c.edge-edge.ensures) held) in
    let f = c.if-not-holds.true in absurd cc) refl c.cut-least.ensures.counts

pub returns-clause-tried : goal.returns-clause-tried
returns-clause-tried c =
    tries_implied c.args.self.now c.args.stays.now c.args.vector.now c.loop-position.position c.loop-position.closing _
    c.loop-position-test.false
    c.loop-position.invariant refl

pub returns-then-not-holds-clause-formed : goal.returns-then-not-holds-clause-formed
returns-then-not-holds-clause-formed c = record {
  cores_is = c.cut-least.ensures.cores ∙ sym c.self.invariant.all
      ∙ ap (λ (a : Arranged). length a.lists) c.self.view_is;
  places = c.cut-least.ensures.places;
}

pub returns-clause-formed : goal.returns-clause-formed
returns-clause-formed c = record {
  cores_is = c.cut-cut.ensures.cores ∙ sym c.self.invariant.all ∙ ap (λ (a : Arranged). length a.lists) c.self.view_is;
  places = c.cut-cut.ensures.places;
}
