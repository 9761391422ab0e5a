use Rattle.std.proofs.Common.{◌∙◌, ap, ℕ, ◌*◌, ◌%◌, ◌^◌, arith}
use Rattle.std.specs.Prelude.{bit_and}
use Rattle.std.specs.Int.{bit_not, w64}
use Rattle.rtr_types.specs.CoreSets.{has}
use Rattle.move_marks.specs.Kinds.{set_of}
use Rattle.move_marks.proofs.KindBits.{but_others, but_these}
use Rattle.move_marks.proofs.marks.MoveMarks.clear_all.Goals as goal

pub returns-clause-these : goal.returns-clause-these
returns-clause-these c = λ n.
    ap (λ (p : ℕ). has (set_of c.args.kind
    (record { bits = bit_and c.args.self.now.bits (bit_not w64 (c.args.set.bits * 2 ^ p % 2 ^ 64)) })) n)
    c.place.ensures.value
    ∙ but_these c.args.kind c.args.self.now.bits c.args.set (omega arith) n

pub returns-clause-others : goal.returns-clause-others
returns-clause-others c = λ k n other.
    ap (λ (p : ℕ). has (set_of k
    (record { bits = bit_and c.args.self.now.bits (bit_not w64 (c.args.set.bits * 2 ^ p % 2 ^ 64)) })) n)
    c.place.ensures.value
    ∙ but_others c.args.kind c.args.self.now.bits c.args.set (omega arith) k n other
