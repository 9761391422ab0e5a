use Rattle.std.proofs.Common.{◌∙◌, ap, ℕ, ◌-◌, Some, arith}
use Rattle.std.proofs.lemmas.List.{length-append}
use Rattle.move_marks.specs.Kinds.{marked_at_ports, marked_of}
use Rattle.move_marks.specs.declared.marks.MoveKind.TheVariants.{Own}
use Rattle.move_marks.proofs.MemberNumbers.{last_none, last_some}
use Rattle.move_marks.proofs.marks.MoveMarks.last_at_port.Goals as goal

pub overflow_sub-result : goal.overflow_sub-result
overflow_sub-result c =
    omega (
      arith,
      c.count-many.ensures.value,
      c.count_of.ensures,
      c.if-many-count_of.false,
      length-append (marked_of Own c.args.self) (marked_at_ports c.args.self),
    )

pub returns-then-many-count_of : goal.returns-then-many-count_of
returns-then-many-count_of c =
    let own = marked_of Own c.args.self in
    let ports = marked_at_ports c.args.self in
    last_none own ports (omega (
      arith,
      c.count-many.ensures.value,
      c.count_of.ensures,
      c.if-many-count_of.true,
      length-append own ports,
    ))

pub returns : goal.returns
returns c =
    let own = marked_of Own c.args.self in
    let ports = marked_at_ports c.args.self in
    ap (λ (n : ℕ). Some (n - 1)) c.count-many.ensures.value
    ∙ last_some own ports (omega (
      arith,
      c.count-many.ensures.value,
      c.count_of.ensures,
      c.if-many-count_of.false,
      length-append own ports,
    ))
