use Rattle.std.proofs.Common.{◌∙◌, sym, ap, ℕ, length}
use Rattle.std.proofs.lemmas.List.{length-map}
use Rattle.rtr_types.specs.declared.core_set.CoreSet.{CoreSet}
use Rattle.move_marks.specs.declared.marks.MarkedMove.{MarkedMove}
use Rattle.move_marks.specs.Kinds.{set_of}
use Rattle.move_marks.specs.Members.{members}
use Rattle.move_marks.proofs.marks.MoveMarks.count_of.Goals as goal

pub returns : goal.returns
returns c =
    c.count.ensures.value ∙ ap (λ (s : CoreSet). length (members s)) c.set_of.ensures
    ∙ sym (length-map {B = MarkedMove} (members (set_of c.args.kind c.args.self)) (λ (n : ℕ).
    record { kind = c.args.kind; core = n }))
