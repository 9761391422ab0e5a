-- each core's loads put their lines
use Rattle.std.proofs.Common.{arith}
use Rattle.state_text.specs.States.{load_lines}
use Rattle.state_text.proofs.PlaceLemmas.{grown, placed_more}
use Rattle.state_text.proofs.states.put_loads.Goals as goal

pub loop-number-preserved : goal.loop-number-preserved
loop-number-preserved c =
    grown _ (rw (c.as_slice.ensures, c.index-loads-number.is) at c.in_ok-put_loads_of.ensures) c.loop-number.invariant
    (placed_more load_lines _ c.args.loads.now c.loop-number.number _ (omega arith))
