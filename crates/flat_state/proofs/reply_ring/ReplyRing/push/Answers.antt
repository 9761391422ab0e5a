use Rattle.std.proofs.Common.{◌∙◌, ap, ◌+◌, ◌%◌, arith, length}
use Rattle.std.proofs.lemmas.List.{length-set}
use Rattle.link_order.proofs.Rings.{length_around}
use Rattle.flat_state.proofs.reply_ring.ReplyRing.push.Goals as goal

pub invariant_of-self : goal.invariant_of-self
invariant_of-self c =
    let i = c.self.inside in
    let whole = c.self.invariant.0 in
    let fits = c.self.invariant.2 in
    let long = length_around i.slots i.first i.count (omega (arith, whole, fits)) in
    let seen = ap length c.self.view_is in
    let room = c.requires in (
      length-set i.slots ((i.first + i.count) % 16) c.args.reply ∙ whole,
      c.self.invariant.1,
      omega (
        arith,
        long,
        seen,
        room,
      ),
    )
