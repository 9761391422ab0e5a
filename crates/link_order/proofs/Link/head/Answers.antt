-- The first place has the oldest item.
use Rattle.link_order.proofs.Rings.{all_but_oldest, oldest}
use Rattle.link_order.proofs.Link.head.Goals as goal

pub returns-clause-item : goal.returns-clause-item
returns-clause-item g c =
    oldest c.args.self.now c.self.inside.slots.items c.self.inside.capacity c.self.inside.first c.self.inside.count
    c.index.result.now c.self.view_is
    c.self.invariant.0 c.self.invariant.1 c.self.invariant.2 c.if-self-eq0.false c.index.ensures

pub returns-clause-rest : goal.returns-clause-rest
returns-clause-rest g c =
    all_but_oldest c.args.self.now c.self.inside.slots.items c.self.inside.capacity c.self.inside.first
    c.self.inside.count c.index.result.now c.self.view_is
    c.self.invariant.0 c.self.invariant.1 c.self.invariant.2 c.if-self-eq0.false c.index.ensures
