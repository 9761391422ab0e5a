use Rattle.std.proofs.Common.{◌<◌, ℕ, subst}
use Rattle.move_marks.specs.declared.marks.MoveKind.TheVariants.{Own}
use Rattle.move_marks.specs.Kinds.{marked_at_ports, marked_of}
use Rattle.move_marks.proofs.Picks.{picked_here, picked_past}
use Rattle.move_marks.proofs.marks.MoveMarks.pick.Goals as goal

pub returns-then-number-many-clause-value : goal.returns-then-number-many-clause-value
returns-then-number-many-clause-value c = λ d.
    picked_here (marked_of Own c.args.self) (marked_at_ports c.args.self) c.args.number c.pick_of.result d
    (subst (λ (k : ℕ). c.args.number < k) c.count_of-many.ensures c.if-number-many.true) (c.pick_of.ensures.value d)

pub returns-clause-value : goal.returns-clause-value
returns-clause-value c = λ d.
    picked_past (marked_of Own c.args.self) (marked_at_ports c.args.self) c.args.number c.count_of-many.result
    c.pick_at_port.result d c.count_of-many.ensures c.if-number-many.false (c.pick_at_port.ensures.value d)
