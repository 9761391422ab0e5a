use Rattle.std.proofs.Common.{subst, sym}
use Rattle.cut_replay.specs.ClosedCuts.{IsClosed}
use Rattle.debug_place.specs.Places.{Placed}
use Rattle.debug_place.proofs.AtCuts.{cut_is}
use Rattle.debug_place.proofs.place.Place.move_on.Goals as goal

pub invariant_of-self : goal.invariant_of-self
invariant_of-self c = record {
  valid = c.self.invariant.valid;
  determinate = c.self.invariant.determinate;
  timeline_is = c.self.invariant.timeline_is;
  index_is = c.self.invariant.index_is;
  closed = subst (λ (p : Placed). IsClosed p.which p.recording c.args.to.now) (sym c.self.view_is) c.requires.closed;
}

pub returns-clause-ok : goal.returns-clause-ok
returns-clause-ok c =
    let a = c.self.inside.audited.now in
    cut_is a.which a.recording c.self.invariant.valid c.self.invariant.determinate c.args.to.now
    (subst (λ (p : Placed). IsClosed p.which p.recording c.args.to.now) (sym c.self.view_is) c.requires.closed)
