-- each core puts its lines
use Rattle.std.proofs.Common.{arith}
use Rattle.state_text.specs.States.{core_lines}
use Rattle.state_text.proofs.PlaceLemmas.{grown, placed_more}
use Rattle.state_text.proofs.states.put_cores.Goals as goal

pub loop-number-preserved : goal.loop-number-preserved
loop-number-preserved c =
    grown _ c.in_ok-put_core.ensures c.loop-number.invariant
    (placed_more (core_lines c.args.image.now) _ c.args.cores.now c.loop-number.number _ (omega arith))
