use Rattle.std.proofs.lemmas.Result.{err_from_is_err_and}
use Rattle.log_codec.proofs.InTurn.{reads_all, reads_no_more, reads_one}
use Rattle.part_lists.proofs.reading.read_items.Goals as goal

pub returns-in_err-next : goal.returns-in_err-next
returns-in_err-next g c =
    let p = err_from_is_err_and c.from_residual.result c.from_residual.ensures.1 in
    rw (p.1, p.2)
    (reads_no_more c.in_err-next.field-0.0 c.loop-place.invariant c.loop-place-test.true c.in_err-next.ensures)

pub loop-place-preserved : goal.loop-place-preserved
loop-place-preserved g c =
    rw c.in_ok-push.ensures.ok (reads_one c.loop-place.invariant c.loop-place-test.true c.in_ok-next.ensures)

pub returns : goal.returns
returns g c = reads_all c.loop-place.invariant c.loop-place-test.false
