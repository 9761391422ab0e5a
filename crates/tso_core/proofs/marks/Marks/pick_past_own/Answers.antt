use Rattle.std.proofs.Common.{◌-◌, ◌∙◌, ap, sym, ℕ, arith}
use Rattle.std.specs.Prelude.{map}
use Rattle.std.proofs.lemmas.List.{get_or-map}
use Rattle.move_marks.specs.declared.marks.MarkedMove.{MarkedMove}
use Rattle.move_marks.specs.declared.marks.MoveKind.TheVariants.{Own}
use Rattle.move_marks.specs.Kinds.{marked_at_ports}
use Rattle.move_marks.specs.Members.{members}
use Rattle.move_marks.proofs.Picks.{found_here, found_past}
use Rattle.tso_state.specs.declared.moves.Move.TheVariants.{Order}
use Rattle.tso_core.specs.Marks.{move_of}
use Rattle.tso_core.proofs.MarkCounts.{past_own_long}
use Rattle.tso_core.proofs.marks.Marks.pick_past_own.Goals as goal

pub returns-then-number-many : goal.returns-then-number-many
returns-then-number-many c = λ d.
    found_here (λ (n : ℕ). Order n) (members c.args.self.orders) (map move_of (marked_at_ports c.args.self.moves))
    c.args.number c.nth.result d (omega (arith, c.count-many.ensures.value, c.if-number-many.true)) c.nth.ensures.value

pub returns : goal.returns
returns c = λ d.
    let first : MarkedMove = record { kind = Own; core = 0 } in
    found_past (λ (n : ℕ). Order n) (members c.args.self.orders) (map move_of (marked_at_ports c.args.self.moves))
    c.args.number c.count-many.result c.move_of.result d c.count-many.ensures.value c.if-number-many.false
    (c.move_of.ensures
    ∙ ap move_of (c.pick_at_port.ensures.value first)
    ∙ sym (get_or-map move_of (marked_at_ports c.args.self.moves) (c.args.number - c.count-many.result) first d
    (omega (arith, past_own_long c.args.self, c.requires, c.count-many.ensures.value, c.if-number-many.false))))
