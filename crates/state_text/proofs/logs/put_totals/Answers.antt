-- each core puts its line
use Rattle.std.proofs.Common.{arith}
use Rattle.state_text.specs.Logs.{total_line}
use Rattle.state_text.proofs.PlaceLemmas.{grown, placed_more}
use Rattle.state_text.proofs.logs.put_totals.Goals as goal

pub loop-core-preserved : goal.loop-core-preserved
loop-core-preserved c =
    grown _ c.in_ok-put_total.ensures c.loop-core.invariant
    (placed_more total_line _ c.args.totals.now c.loop-core.core _ (omega arith))
