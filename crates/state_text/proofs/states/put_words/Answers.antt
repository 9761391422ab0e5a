-- each word puts its line
use Rattle.std.proofs.Common.{arith}
use Rattle.state_text.specs.States.{memory_line}
use Rattle.state_text.proofs.PlaceLemmas.{grown, placed_more_from}
use Rattle.state_text.proofs.states.put_words.Goals as goal

pub loop-k-preserved : goal.loop-k-preserved
loop-k-preserved c =
    grown _ c.in_ok-put_word.ensures c.loop-k.invariant
    (placed_more_from (memory_line c.args.image.now) _ c.args.first c.args.words.now c.loop-k.k _ (omega arith))
