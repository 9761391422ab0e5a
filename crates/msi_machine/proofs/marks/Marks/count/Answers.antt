use Rattle.std.proofs.Common.{◌∙◌, sym}
use Rattle.std.proofs.lemmas.List.{length-map}
use Rattle.move_marks.specs.Kinds.{marked}
use Rattle.msi_machine.specs.Marks.{move_of}
use Rattle.msi_machine.proofs.marks.Marks.count.Goals as goal

pub returns : goal.returns
returns c = c.count.ensures.value ∙ sym (length-map (marked c.args.self.moves) move_of)
