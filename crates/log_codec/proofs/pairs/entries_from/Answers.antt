use Rattle.log_codec.proofs.InTurn.{reads_one}
use Rattle.log_codec.proofs.pairs.entries_from.Goals as goal

pub loop-preserved : goal.loop-preserved
loop-preserved g c =
    rw (c.in_ok-next.ensures.end, c.in_ok-push.ensures.ok)
    (reads_one c.loop.invariant c.loop-test.true c.in_ok-next.ensures.read)
