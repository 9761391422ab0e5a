use Rattle.std.proofs.Common.{◌∙◌, ap, sym, ℕ, arith, nat_eq}
use Rattle.link_order.specs.Queue.{around, is_nil}
use Rattle.link_order.proofs.Rings.{length_around, nil_length}
use Rattle.flat_state.proofs.message_ring.MessageRing.is_empty.Goals as goal

pub returns : goal.returns
returns c =
    let i = c.self.inside in
    let whole = c.self.invariant.0 in
    let fits = c.self.invariant.2 in
    let long = length_around i.slots i.first i.count (omega (arith, whole, fits)) in
    ap (λ (n : ℕ). nat_eq n 0) (sym long)
    ∙ (sym (nil_length (around i.slots i.first i.count)) ∙ ap is_nil c.self.view_is)
