use Rattle.std.proofs.Common.{◌∙◌, ◌==◌, sym, ap, ℕ}
use Rattle.std.proofs.lemmas.List.{length-map}
use Rattle.move_marks.specs.Kinds.{marked}
use Rattle.msi_machine.specs.Marks.{move_of}
use Rattle.msi_machine.proofs.marks.Marks.is_empty.Goals as goal

pub returns : goal.returns
returns c = c.is_empty.ensures ∙ ap (λ (n : ℕ). n == 0) (sym (length-map (marked c.args.self.moves) move_of))
