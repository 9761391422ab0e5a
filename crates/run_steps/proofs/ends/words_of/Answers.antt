use Rattle.std.proofs.Common.{◌∙◌, arith}
use Rattle.run_steps.proofs.BlockWords.{words_more}
use Rattle.run_steps.proofs.ends.words_of.Goals as goal

pub loop-block-preserved : goal.loop-block-preserved
loop-block-preserved g c =
    c.in_ok-extend_from_slice.ensures.items
    ∙ words_more (g.M.SteppedMachine.words c.args.machine.now) c.loop-block.block _ c.final_words.result
    c.loop-block.invariant (grind arith) c.final_words.ensures
