use Rattle.std.proofs.Common.{◌∙◌, ◌-◌, ap, ℕ, length, Some, arith}
use Rattle.move_marks.specs.Kinds.{marked as marked_in, marked_at_ports}
use Rattle.tso_core.specs.Marks.{marked}
use Rattle.tso_core.proofs.MarkNumbers.{none_at_port, some_at_port, some_there}
use Rattle.tso_core.proofs.marks.Marks.last_at_port.Goals as goal

pub returns-in-None : goal.returns-in-None
returns-in-None c =
    none_at_port (length (marked_at_ports c.args.self.moves)) (length (marked_in c.args.self.moves))
    (length (marked c.args.self)) c.in-None.ensures

pub overflow_sub-result : goal.overflow_sub-result
overflow_sub-result c = omega (arith, c.count.ensures, some_there c.args.self c.in-Some.field-0 c.in-Some.ensures)

pub returns-in-Some : goal.returns-in-Some
returns-in-Some c =
    ap (λ (n : ℕ). Some (n - 1)) c.count.ensures
    ∙ some_at_port (length (marked_at_ports c.args.self.moves)) (length (marked_in c.args.self.moves))
    (length (marked c.args.self)) c.in-Some.field-0 c.in-Some.ensures
