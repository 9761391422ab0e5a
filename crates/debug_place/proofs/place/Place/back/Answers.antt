use Rattle.std.proofs.Common.{◌∙◌, List, ℕ, ap, length, subst, sym}
use Rattle.std.specs.Prelude.{None, Option, Some, slice_index}
use Rattle.rtr_types.specs.declared.cut.Cut.{Cut}
use Rattle.cut_replay.specs.ClosedCuts.{IsClosed, IsContained}
use Rattle.cut_moves.specs.Rounds.{rounds_of}
use Rattle.debug_place.specs.Backs.{GoesBack}
use Rattle.debug_place.specs.Hits.{LastIn, stops_on}
use Rattle.debug_place.specs.Places.{Placed, cut_at}
use Rattle.debug_place.proofs.AtCuts.{cut_is}
use Rattle.debug_place.proofs.PlaceMoves.{before_there, last_there, most_there}
use Rattle.debug_place.proofs.StopPlaces.{IsCutBefore, closed_here, backs_all, backs_to, placed_at}
use Rattle.debug_place.proofs.place.Place.back.Goals as goal

pub last_stop-requires-clause-within : goal.last_stop-requires-clause-within
last_stop-requires-clause-within g c =
    let a = c.self.inside.audited.now in
    let i = c.self.invariant in
    let cut = c.self.inside.cut in
    let to = c.args.to.now in
    subst (λ (k : Cut). IsContained to k)
    (sym (ap cut_at c.self.view_is) ∙ cut_is a.which a.recording i.valid i.determinate cut i.closed)
    c.requires.within

pub cut_before-self-inside-requires-clause-within : goal.cut_before-self-inside-requires-clause-within
cut_before-self-inside-requires-clause-within g c =
    let a = c.self.inside.audited.now in
    let i = c.self.invariant in
    let cut = c.self.inside.cut in
    let to = c.args.to.now in
    subst (λ (k : Cut). IsContained to k)
    (sym (ap cut_at c.self.view_is) ∙ cut_is a.which a.recording i.valid i.determinate cut i.closed)
    c.requires.within

pub cut_before-self-inside-requires-clause-most : goal.cut_before-self-inside-requires-clause-most
cut_before-self-inside-requires-clause-most g c =
    let a = c.self.inside.audited.now in
    let i = c.self.invariant in
    let cut = c.self.inside.cut in
    let to = c.args.to.now in
    let within : IsContained to cut = subst (λ (k : Cut). IsContained to k)
    (sym (ap cut_at c.self.view_is) ∙ cut_is a.which a.recording i.valid i.determinate cut i.closed)
    c.requires.within in
    most_there a c.self.inside.timeline c.self.inside.index cut i to cut within i.closed

pub invariant_of-self : goal.invariant_of-self
invariant_of-self g c =
    let a = c.self.inside.audited.now in
    let i = c.self.invariant in
    let cut = c.self.inside.cut in
    let to = c.args.to.now in
    let within : IsContained to cut = subst (λ (k : Cut). IsContained to k)
    (sym (ap cut_at c.self.view_is) ∙ cut_is a.which a.recording i.valid i.determinate cut i.closed)
    c.requires.within in
    let closed : IsClosed a.which a.recording to =
    subst (λ (p : Placed). IsClosed p.which p.recording to) (sym c.self.view_is) c.requires.closed in
    let stops = g.S.Stops.stops c.args.stops.now in
    let hits = g.S.Stops.hits c.args.stops.now in
    let own = g.S.Stops.own c.args.stops.now in
    let e = c.cut_before-self-inside.ensures in
    let n = c.in-Some.number in
    let new = c.cut_before-self-inside.result in
    let is : IsCutBefore a.which a.recording to cut n new =
    before_there a c.self.inside.timeline c.self.inside.index cut i to cut n new e.cores e.places e.counts in
    record {
      valid = i.valid;
      determinate = i.determinate;
      timeline_is = i.timeline_is;
      index_is = i.index_is;
      closed = closed_here stops hits own a.which a.recording i.valid i.determinate to cut closed i.closed within
          n new is;
    }

pub returns-in-Some-clause-ok : goal.returns-in-Some-clause-ok
returns-in-Some-clause-ok g c =
    let a = c.self.inside.audited.now in
    let i = c.self.invariant in
    let cut = c.self.inside.cut in
    let to = c.args.to.now in
    let within : IsContained to cut = subst (λ (k : Cut). IsContained to k)
    (sym (ap cut_at c.self.view_is) ∙ cut_is a.which a.recording i.valid i.determinate cut i.closed)
    c.requires.within in
    let closed : IsClosed a.which a.recording to =
    subst (λ (p : Placed). IsClosed p.which p.recording to) (sym c.self.view_is) c.requires.closed in
    let stops = g.S.Stops.stops c.args.stops.now in
    let hits = g.S.Stops.hits c.args.stops.now in
    let own = g.S.Stops.own c.args.stops.now in
    let e = c.cut_before-self-inside.ensures in
    let n = c.in-Some.number in
    let new = c.cut_before-self-inside.result in
    let is : IsCutBefore a.which a.recording to cut n new =
    before_there a c.self.inside.timeline c.self.inside.index cut i to cut n new e.cores e.places e.counts in
    let line : List ℕ = rounds_of a.which a.recording in
    let after : Placed = placed_at a.which a.recording new in
    let found = last_there a c.self.inside.timeline c.self.inside.index cut i to cut hits (Some n)
    (subst (λ (found : Option ℕ).
    LastIn (stops_on hits c.self.inside.index.which c.self.inside.index.recording to cut c.self.inside.timeline)
    0 (length c.self.inside.timeline) found) c.in-Some.is c.last_stop.ensures) in
    subst (λ (core : ℕ). GoesBack stops c.args.self.now to after (Some core))
    (sym (ap (λ (l : List ℕ). slice_index l n) (c.as_slice.ensures ∙ i.timeline_is)))
    (subst (λ (p : Placed). GoesBack stops p to after (Some (slice_index line n))) c.self.view_is
    (backs_to stops hits own a.which a.recording i.valid i.determinate to cut closed i.closed within
    n found new is))

pub returns-in-None-clause-ok : goal.returns-in-None-clause-ok
returns-in-None-clause-ok g c =
    let a = c.self.inside.audited.now in
    let i = c.self.invariant in
    let cut = c.self.inside.cut in
    let to = c.args.to.now in
    let within : IsContained to cut = subst (λ (k : Cut). IsContained to k)
    (sym (ap cut_at c.self.view_is) ∙ cut_is a.which a.recording i.valid i.determinate cut i.closed)
    c.requires.within in
    let closed : IsClosed a.which a.recording to =
    subst (λ (p : Placed). IsClosed p.which p.recording to) (sym c.self.view_is) c.requires.closed in
    let stops = g.S.Stops.stops c.args.stops.now in
    let hits = g.S.Stops.hits c.args.stops.now in
    let own = g.S.Stops.own c.args.stops.now in
    let found = last_there a c.self.inside.timeline c.self.inside.index cut i to cut hits None
    (subst (λ (found : Option ℕ).
    LastIn (stops_on hits c.self.inside.index.which c.self.inside.index.recording to cut c.self.inside.timeline)
    0 (length c.self.inside.timeline) found) c.in-None.is c.last_stop.ensures) in
    subst (λ (p : Placed). GoesBack stops p to (placed_at a.which a.recording to) None) c.self.view_is
    (backs_all stops hits own a.which a.recording i.valid i.determinate to cut closed i.closed within
    found)
