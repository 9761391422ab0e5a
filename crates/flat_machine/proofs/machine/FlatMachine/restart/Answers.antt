use Rattle.std.proofs.Common.{◌≡◌, ◌∙◌, ap, ℕ, List, length}
use Rattle.std.specs.Prelude.{replicate}
use Rattle.std.proofs.lemmas.List.{with_items_is}
use Rattle.flat_machine.proofs.machine.FlatMachine.restart.Goals as goal

pub over-requires-clause-places : goal.over-requires-clause-places
over-requires-clause-places c =
    let places = c.args.self.places in
    let slots = c.forget_places.new.places in
    let long : length c.as_mut_slice.result.now ≡ places.len = c.as_mut_slice.ensures.len in
    with_items_is places slots (c.forget_places.auto.places ∙ long) ∙ (c.forget_places.ensures
    ∙ ap (λ (n : ℕ). replicate {A = ℕ} n 0) (ap (λ (l : List ℕ). length l) c.as_mut_slice.ensures.value
    ∙ c.requires.kept.long))
