use Rattle.std.proofs.Common.{◌∙◌, ap, ℕ, ◌*◌, ◌%◌, ◌^◌, arith}
use Rattle.std.specs.Prelude.{bit_or}
use Rattle.rtr_types.specs.CoreSets.{has}
use Rattle.move_marks.specs.Kinds.{set_of}
use Rattle.move_marks.proofs.KindBits.{join_others, join_these}
use Rattle.move_marks.proofs.marks.MoveMarks.mark_all.Goals as goal

pub returns-clause-these : goal.returns-clause-these
returns-clause-these c = λ n.
    ap (λ (p : ℕ). has (set_of c.args.kind
    (record { bits = bit_or c.args.self.now.bits (c.args.set.bits * 2 ^ p % 2 ^ 64) })) n)
    c.place.ensures.value
    ∙ join_these c.args.kind c.args.self.now.bits c.args.set (omega arith) n

pub returns-clause-others : goal.returns-clause-others
returns-clause-others c = λ k n other.
    ap (λ (p : ℕ). has (set_of k
    (record { bits = bit_or c.args.self.now.bits (c.args.set.bits * 2 ^ p % 2 ^ 64) })) n)
    c.place.ensures.value
    ∙ join_others c.args.kind c.args.self.now.bits c.args.set (omega arith) k n other
