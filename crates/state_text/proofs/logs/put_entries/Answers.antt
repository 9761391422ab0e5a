-- each pair puts its entries
use Rattle.std.proofs.Common.{arith}
use Rattle.state_text.specs.Logs.{lines_at}
use Rattle.state_text.proofs.PlaceLemmas.{grown, placed_more}
use Rattle.state_text.proofs.logs.put_entries.Goals as goal

pub loop-place-preserved : goal.loop-place-preserved
loop-place-preserved g c =
    grown _ (rw (c.as_slice.ensures, c.index-lists-place.is) at c.in_ok-put_entries_at.ensures) c.loop-place.invariant
    (placed_more (lines_at g.T.Entry.line c.args.cores) _ c.args.lists.now c.loop-place.place _ (omega arith))
