use Rattle.debug_place.proofs.CountTests.{last_found}
use Rattle.debug_place.proofs.counts.last_count.Goals as goal

pub returns : goal.returns
returns g c =
    last_found (g.S.Stops.hits c.args.stops.now) c.args.index.now c.args.core c.args.from c.args.past c.requires.past
    (c.ends_in.ensures.no c.if-ends_in.false) c.last_hit.result c.last_hit.ensures
