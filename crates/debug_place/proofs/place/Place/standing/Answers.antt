use Rattle.debug_place.proofs.AtCuts.{closed_there, shows_place}
use Rattle.debug_place.proofs.place.Place.standing.Goals as goal

pub at-requires : goal.at-requires
at-requires c =
    let i = c.self.invariant in
    closed_there c.self.inside.audited.now c.self.inside.index c.self.inside.cut i.valid i.determinate i.index_is
    i.closed

pub returns : goal.returns
returns c =
    let i = c.self.invariant in
    shows_place c.self.inside.audited.now c.self.inside.index c.self.inside.cut i.valid i.determinate i.index_is
    i.closed
    c.at.result c.at.ensures c.args.self.now c.self.view_is
