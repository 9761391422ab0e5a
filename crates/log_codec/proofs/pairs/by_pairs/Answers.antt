use Rattle.log_codec.proofs.InTurn.{reads_one}
use Rattle.log_codec.proofs.pairs.by_pairs.Goals as goal

pub loop-place-preserved : goal.loop-place-preserved
loop-place-preserved g c =
    let inside = rw c.pair_count-place-end.ensures at c.loop-place-test.true in
    rw c.in_ok-push.ensures.ok
    (reads_one c.loop-place.invariant inside (rw c.bound-most.ensures at c.in_ok-next.ensures))
