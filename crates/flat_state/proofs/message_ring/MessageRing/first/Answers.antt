use Rattle.std.proofs.Common.{◌∙◌, ap, sym, ℕ, ◌<◌, ◌+◌, ◌%◌, ◌-◌, subst}
use Rattle.std.proofs.lemmas.List.{get_or_default}
use Rattle.link_order.specs.Queue.{around, is_nil}
use Rattle.flat_state.proofs.RingWrites.{some_around, taken}
use Rattle.flat_state.proofs.message_ring.MessageRing.first.Goals as goal

pub returns : goal.returns
returns c =
    let i = c.self.inside in
    let whole = c.self.invariant.0 in
    let starts = c.self.invariant.1 in
    let fits = c.self.invariant.2 in
    let some = some_around i.slots i.first i.count whole fits (ap is_nil c.self.view_is ∙ c.requires) in (
      around i.slots ((i.first + 1) % 16) (i.count - 1),
      sym c.self.view_is ∙ taken i.slots i.first i.count _ whole starts some fits
          (get_or_default i.slots i.first _ _ (subst (λ (n : ℕ). i.first < n) (sym whole) starts)),
    )
