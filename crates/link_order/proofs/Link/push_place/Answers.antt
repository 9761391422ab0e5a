-- Whatever is left in the lent place, the ring is as a ring is to be.
use Rattle.link_order.proofs.Rings.{lent_fits}
use Rattle.link_order.proofs.Link.push_place.Goals as goal

pub invariant_of-self-lent : goal.invariant_of-self-lent
invariant_of-self-lent g c =
    lent_fits c.args.self.now c.self.inside.slots.items c.self.inside.next c.self.inside.capacity c.self.inside.first
    c.self.inside.count c.place_behind-self-inside.result c.self.view_is
    c.self.invariant.0 c.self.invariant.1 c.self.invariant.2 c.self.invariant.4 c.requires
    c.place_behind-self-inside.ensures.within c.place_behind-self-inside.ensures.round
