use Rattle.std.proofs.Common.{◌<◌, ◌-◌, ◌++◌, ℕ, subst}
use Rattle.move_marks.specs.declared.marks.MoveKind.TheVariants.{Request, Response, FromHome}
use Rattle.move_marks.specs.Kinds.{marked_of}
use Rattle.move_marks.proofs.Picks.{picked_here, picked_past}
use Rattle.move_marks.proofs.marks.MoveMarks.pick_at_port.Goals as goal

pub returns-then-number-requests-clause-value : goal.returns-then-number-requests-clause-value
returns-then-number-requests-clause-value c = λ d.
    picked_here (marked_of Request c.args.self) (marked_of Response c.args.self ++ marked_of FromHome c.args.self)
    c.args.number c.pick_of.result d
    (subst (λ (k : ℕ). c.args.number < k) c.count_of-requests.ensures c.if-number-requests.true)
    (c.pick_of.ensures.value d)

pub returns-then-left-responses-clause-value : goal.returns-then-left-responses-clause-value
returns-then-left-responses-clause-value c = λ d.
    picked_past (marked_of Request c.args.self) (marked_of Response c.args.self ++ marked_of FromHome c.args.self)
    c.args.number c.count_of-requests.result _ d c.count_of-requests.ensures c.if-number-requests.false
    (picked_here (marked_of Response c.args.self) (marked_of FromHome c.args.self)
    (c.args.number - c.count_of-requests.result) c.pick_of-then-left-responses.result d
    (subst (λ (k : ℕ). c.args.number - c.count_of-requests.result < k) c.count_of-responses.ensures
    c.if-left-responses.true)
    (c.pick_of-then-left-responses.ensures.value d))

pub returns-clause-value : goal.returns-clause-value
returns-clause-value c = λ d.
    picked_past (marked_of Request c.args.self) (marked_of Response c.args.self ++ marked_of FromHome c.args.self)
    c.args.number c.count_of-requests.result _ d c.count_of-requests.ensures c.if-number-requests.false
    (picked_past (marked_of Response c.args.self) (marked_of FromHome c.args.self)
    (c.args.number - c.count_of-requests.result) c.count_of-responses.result c.pick_of-2.result d
    c.count_of-responses.ensures c.if-left-responses.false (c.pick_of-2.ensures.value d))
