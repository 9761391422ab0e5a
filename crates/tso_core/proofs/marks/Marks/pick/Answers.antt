use Rattle.std.proofs.Common.{◌∙◌, ap, ℕ, length, get_or, arith}
use Rattle.rtr_types.specs.declared.core_set.CoreSet.{CoreSet}
use Rattle.move_marks.specs.declared.marks.MoveKind.TheVariants.{Own}
use Rattle.move_marks.specs.Kinds.{set_of}
use Rattle.move_marks.specs.Members.{members}
use Rattle.move_marks.proofs.Picks.{found_here, found_past}
use Rattle.tso_state.specs.declared.moves.Move.TheVariants.{Core}
use Rattle.tso_core.specs.Marks.{marked_past_own}
use Rattle.tso_core.proofs.marks.Marks.pick.Goals as goal

pub returns-then-number-many : goal.returns-then-number-many
returns-then-number-many c = λ d.
    found_here (λ (n : ℕ). Core n) (members (set_of Own c.args.self.moves)) (marked_past_own c.args.self)
    c.args.number c.nth.result d
    (omega (
      arith,
      c.count-many.ensures.value,
      ap (λ (s : CoreSet). length (members s)) c.set_of-own.ensures,
      c.if-number-many.true,
    ))
    (λ e. c.nth.ensures.value e ∙ ap (λ (s : CoreSet). get_or (members s) c.args.number e) c.set_of-own.ensures)

pub returns : goal.returns
returns c = λ d.
    found_past (λ (n : ℕ). Core n) (members (set_of Own c.args.self.moves)) (marked_past_own c.args.self)
    c.args.number c.count-many.result c.pick_past_own.result d
    (c.count-many.ensures.value ∙ ap (λ (s : CoreSet). length (members s)) c.set_of-own.ensures)
    c.if-number-many.false (c.pick_past_own.ensures d)
