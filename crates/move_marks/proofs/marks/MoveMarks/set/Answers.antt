use Rattle.std.proofs.Common.{◌∙◌, sym, ap, ℕ, ◌+◌, ◌*◌, ◌%◌, ◌^◌}
use Rattle.std.specs.Prelude.{bit_and, bit_or}
use Rattle.std.specs.Int.{bit_not, w64}
use Rattle.rtr_types.specs.CoreSets.{has}
use Rattle.move_marks.specs.Kinds.{set_of}
use Rattle.move_marks.proofs.KindBits.{clear_others, clear_this, mark_others, mark_this}
use Rattle.move_marks.proofs.marks.MoveMarks.set.Goals as goal

pub returns-then-can-clause-this : goal.returns-then-can-clause-this
returns-then-can-clause-this c =
    ap (λ (p : ℕ). has (set_of c.args.kind
    (record { bits = bit_or c.args.self.now.bits (1 * 2 ^ (p + c.args.core) % 2 ^ 64) })) c.args.core)
    c.place.ensures.value
    ∙ mark_this c.args.kind c.args.self.now.bits c.args.core c.requires ∙ sym c.if-can.true

pub returns-then-can-clause-others : goal.returns-then-can-clause-others
returns-then-can-clause-others c = λ k n other.
    ap (λ (p : ℕ). has (set_of k
    (record { bits = bit_or c.args.self.now.bits (1 * 2 ^ (p + c.args.core) % 2 ^ 64) })) n)
    c.place.ensures.value
    ∙ mark_others c.args.kind c.args.self.now.bits c.args.core c.requires k n other

pub returns-else-can-clause-this : goal.returns-else-can-clause-this
returns-else-can-clause-this c =
    ap (λ (p : ℕ). has (set_of c.args.kind
    (record { bits = bit_and c.args.self.now.bits (bit_not w64 (1 * 2 ^ (p + c.args.core) % 2 ^ 64)) })) c.args.core)
    c.place.ensures.value
    ∙ clear_this c.args.kind c.args.self.now.bits c.args.core c.requires ∙ sym c.if-can.false

pub returns-else-can-clause-others : goal.returns-else-can-clause-others
returns-else-can-clause-others c = λ k n other.
    ap (λ (p : ℕ). has (set_of k
    (record { bits = bit_and c.args.self.now.bits (bit_not w64 (1 * 2 ^ (p + c.args.core) % 2 ^ 64)) })) n)
    c.place.ensures.value
    ∙ clear_others c.args.kind c.args.self.now.bits c.args.core c.requires k n other
