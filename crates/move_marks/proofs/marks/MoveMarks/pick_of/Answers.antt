use Rattle.std.proofs.Common.{◌∙◌, ◌<◌, sym, subst, ap, ℕ, get_or, length}
use Rattle.std.proofs.lemmas.List.{length-map}
use Rattle.rtr_types.specs.declared.core_set.CoreSet.{CoreSet}
use Rattle.move_marks.specs.declared.marks.MarkedMove.{MarkedMove}
use Rattle.move_marks.specs.Kinds.{set_of}
use Rattle.move_marks.specs.Members.{members}
use Rattle.move_marks.proofs.Picks.{found_last}
use Rattle.move_marks.proofs.marks.MoveMarks.pick_of.Goals as goal

pub nth-core-requires : goal.nth-core-requires
nth-core-requires c =
    subst (λ (s : CoreSet). c.args.number < length (members s)) (sym c.set_of.ensures)
    (subst (λ (k : ℕ). c.args.number < k)
    (length-map {B = MarkedMove} (members (set_of c.args.kind c.args.self)) (λ (n : ℕ).
    record { kind = c.args.kind; core = n })) c.requires)

pub returns-clause-value : goal.returns-clause-value
returns-clause-value c = λ d.
    found_last (λ (n : ℕ). record { kind = c.args.kind; core = n }) (members (set_of c.args.kind c.args.self))
    c.args.number c.nth-core.result d
    (subst (λ (k : ℕ). c.args.number < k)
    (length-map {B = MarkedMove} (members (set_of c.args.kind c.args.self)) (λ (n : ℕ).
    record { kind = c.args.kind; core = n })) c.requires)
    (λ e. c.nth-core.ensures.value e ∙ ap (λ (s : CoreSet). get_or (members s) c.args.number e) c.set_of.ensures)
