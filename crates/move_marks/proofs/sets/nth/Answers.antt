use Rattle.std.proofs.Common.{◌≡◌, ◌∙◌, ap, ℕ, arith}
use lib.Lanes.{mask_l}
use Rattle.move_marks.proofs.Bits.{begin, flags, later, more_left, nth_below, nth_found, one_less}
use Rattle.move_marks.proofs.sets.nth.Goals as goal

pub loop-passed-init : goal.loop-passed-init
loop-passed-init c = begin c.args.set (omega arith)

pub overflow_sub-rest : goal.overflow_sub-rest
overflow_sub-rest c =
    more_left c.args.set c.loop-passed._passed c.args.number c.loop-passed.rest c.requires (omega arith)
    c.loop-passed.invariant

pub loop-passed-preserved : goal.loop-passed-preserved
loop-passed-preserved c =
    one_less c.args.set c.loop-passed._passed c.loop-passed.rest
    (more_left c.args.set c.loop-passed._passed c.args.number c.loop-passed.rest c.requires (omega arith)
    c.loop-passed.invariant)
    c.loop-passed.invariant

pub returns-clause-value : goal.returns-clause-value
returns-clause-value c = λ d.
    let end : c.loop-passed._passed ≡ c.args.number = omega arith in
    nth_found c.args.set c.args.number c.loop-passed.rest c.requires
    (c.loop-passed.invariant ∙ ap (λ (n : ℕ). mask_l (later (flags c.args.set) n)) end) d

pub returns-clause-within : goal.returns-clause-within
returns-clause-within c =
    let end : c.loop-passed._passed ≡ c.args.number = omega arith in
    nth_below c.args.set c.args.number c.loop-passed.rest c.requires
    (c.loop-passed.invariant ∙ ap (λ (n : ℕ). mask_l (later (flags c.args.set) n)) end)
