-- Whatever is left where the oldest item lay, the others are as they were.
use Rattle.std.proofs.Common.{refl}
use Rattle.link_order.proofs.Rings.{head_lent, head_read}
use Rattle.link_order.proofs.Link.head_place.Goals as goal

pub returns : goal.returns
returns g c = (
  (
    refl,
    λ w.
        head_lent c.args.self.now c.self.inside.slots.items c.self.inside.capacity c.self.inside.first
        c.self.inside.count c.self.view_is
        c.self.invariant.0 c.self.invariant.1 c.self.invariant.2 c.requires w,
  ),
  record {
    lends = tt;
    item =
        head_read c.args.self.now c.self.inside.slots.items c.self.inside.capacity c.self.inside.first
        c.self.inside.count c.index_mut.result.now c.self.view_is
        c.self.invariant.0 c.self.invariant.1 c.self.invariant.2 c.requires c.index_mut.ensures.value;
  },
)
