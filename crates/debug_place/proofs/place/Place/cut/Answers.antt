use Rattle.std.proofs.Common.{◌∙◌, ap, subst, sym}
use Rattle.debug_place.specs.Places.{Stands, cut_at}
use Rattle.debug_place.proofs.AtCuts.{cut_is, place_stands}
use Rattle.debug_place.proofs.place.Place.cut.Goals as goal

pub returns-clause-cut : goal.returns-clause-cut
returns-clause-cut c =
    let a = c.self.inside.audited.now in
    let i = c.self.invariant in
    sym (cut_is a.which a.recording i.valid i.determinate c.self.inside.cut i.closed) ∙ ap cut_at c.self.view_is

pub returns-clause-stands : goal.returns-clause-stands
returns-clause-stands c =
    let a = c.self.inside.audited.now in
    let i = c.self.invariant in
    subst Stands c.self.view_is (place_stands a.which a.recording i.valid i.determinate c.self.inside.cut i.closed)
