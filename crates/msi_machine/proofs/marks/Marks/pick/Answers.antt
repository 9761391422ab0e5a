use Rattle.std.proofs.Common.{◌∙◌, ◌<◌, subst, sym, ap, ℕ}
use Rattle.std.proofs.lemmas.List.{get_or-map, length-map}
use Rattle.move_marks.specs.declared.marks.MarkedMove.{MarkedMove}
use Rattle.move_marks.specs.declared.marks.MoveKind.TheVariants.{Own}
use Rattle.move_marks.specs.Kinds.{marked}
use Rattle.msi_machine.specs.Marks.{move_of}
use Rattle.msi_machine.proofs.marks.Marks.pick.Goals as goal

pub pick-kind-requires : goal.pick-kind-requires
pick-kind-requires c = subst (λ (n : ℕ). c.args.number < n) (length-map (marked c.args.self.moves) move_of) c.requires

pub returns : goal.returns
returns c = λ d.
    let first : MarkedMove = record { kind = Own; core = 0 } in
    c.made_of.ensures
    ∙ ap move_of (c.pick-kind.ensures.value first)
    ∙ sym (get_or-map move_of (marked c.args.self.moves) c.args.number first d
    (subst (λ (n : ℕ). c.args.number < n) (length-map (marked c.args.self.moves) move_of) c.requires))
