use Rattle.std.proofs.Common.{◌∙◌, ap, ℕ, arith}
use Rattle.std.specs.Prelude.{replicate}
use Rattle.image_mem.specs.Contents.{Contents}
use Rattle.flat_machine.proofs.machine.FlatMachine.of_program.Goals as goal

pub over-requires-clause-places : goal.over-requires-clause-places
over-requires-clause-places c =
    let words = c.words.ensures.value ∙ ap (λ (image : Contents). image.words) c.image.ensures in
    c.in_ok-places.ensures.items_if_clones_equal (λ y q. q) ∙ ap (λ (n : ℕ). replicate n 0) (omega (arith, words))
