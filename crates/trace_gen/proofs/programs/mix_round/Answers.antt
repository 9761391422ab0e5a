-- each word makes one instruction
use Rattle.std.proofs.Common.{◌≡◌, ℕ, ap, ◌∙◌, arith, [], ◌∷◌, ◌++◌}
use Rattle.rv_decode.specs.declared.op.Op.{Op}
use Rattle.std.specs.Prelude.{map}
use Rattle.std.specs.List.{range_with_len}
use Rattle.trace_gen.specs.Programs.{mixed, mix_word, mix_round}
use Rattle.trace_gen.proofs.MixLemmas.{one_more_drawn}
use Rattle.trace_gen.proofs.programs.mix_round.Goals as goal

pub loop-count-preserved : goal.loop-count-preserved
loop-count-preserved c =
    one_more_drawn c.args.number c.loop-count._count c.loop-count.words c.next_word.new.self c.loop-count.ops.items
    c.push.new.self.items
    c.next_word.result c.loop-count.invariant c.next_word.ensures
    (c.in_ok-push.ensures.items ∙ ap (λ (op : Op). c.loop-count.ops.items ++ op ∷ []) c.mixed.ensures)

pub returns : goal.returns
unfolding mix_round
returns c =
    let whole : c.loop-count._count ≡ 256 = omega arith in
    c.loop-count.invariant.made ∙ ap (λ (n : ℕ). map (λ k. mixed (mix_word c.args.number k)) (range_with_len 0 n)) whole
