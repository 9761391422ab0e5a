use Rattle.std.proofs.Common.{arith}
use Rattle.race_log.proofs.Near.{from_neighbours}
use Rattle.race_log.proofs.sources.is_from.Goals as goal

pub returns-then-is_past : goal.returns-then-is_past
returns-then-is_past c up_to =
    from_neighbours c.args.edges.now c.requires c.args.target c.args.place (omega (arith, c.if-place-edges.false))
    (c.is_past.ensures c.if-is_past.true) (c.is_up_to.ensures up_to)
