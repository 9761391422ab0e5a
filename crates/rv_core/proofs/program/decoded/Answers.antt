use Rattle.std.proofs.Common.{◌∙◌, sym, ◌*◌, arith, inl, inr}
use Rattle.std.specs.Prelude.{None}
use Rattle.std.proofs.lemmas.Bool.{cases_lt}
use Rattle.std.proofs.lemmas.List.{get_or_past}
use Rattle.rv_core.proofs.Programs.{none_past}
use Rattle.rv_core.proofs.program.decoded.Goals as goal

pub returns : goal.returns
returns c =
    record {
      each = λ k small. elim (cases_lt k c.loop-k.k) [
        | inl here ↦ c.loop-k.invariant.each k here
        | inr beyond ↦
            (let long = c.loop-k.invariant.long in get_or_past c.loop-k.ops.items k None (omega arith))
            ∙ sym (none_past c.args.image.now (4 * k)
            (let end = c.loop-k-test.false in let least = c.min-count.ensures in let bytes = c.bytes.ensures.value in
            grind (arith)))
      ];
    }
