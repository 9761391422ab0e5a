use Rattle.std.proofs.lemmas.Result.{err_from_is_err_and}
use Rattle.log_codec.specs.Reading.{into_at}
use Rattle.log_codec.proofs.EdgeReader.{reads-start, reads-more, reads-fails, reads-done}
use Rattle.log_codec.proofs.targets.into.Goals as goal

pub loop-init : goal.loop-init
loop-init c = reads-start c.args.totals.now c.args.target c.in_ok-count.count c.args.lists.now.items
    c.in_ok-count.rest.now c.requires.lists

pub loop-preserved : goal.loop-preserved
loop-preserved c =
    reads-more c.args.totals.now c.args.target c.in_ok-count.count c.loop.counter c.args.lists.now.items
    c.loop.lists.items c.loop.last c.loop.counts c.in_ok-count.rest.now
    c.loop.rest.now c.in_ok-next.next c.in_ok-next.after.now c.pair_at.result c.index_mut.result.now c.push.new.self
    c.requires.few c.loop-test.true c.in_ok-next.ensures.pair c.loop.invariant c.in_ok-next.ensures.read
    c.pair_at.ensures.place c.index_mut.ensures.value
    c.in_ok-push.ensures.ok

pub returns-in_err-next : goal.returns-in_err-next
unfolding into_at
returns-in_err-next c =
    let p = err_from_is_err_and c.from_residual-in_err-next.result c.from_residual-in_err-next.ensures.1 in
    rw (p.1, p.2, c.in_ok-count.ensures) (reads-fails c.args.totals.now c.args.target c.in_ok-count.count c.loop.counter
    c.args.lists.now.items c.loop.lists.items c.loop.last c.loop.counts
    c.in_ok-count.rest.now c.loop.rest.now c.in_err-next.field-0.0 c.loop-test.true c.loop.invariant
    c.in_err-next.ensures.read)

pub returns : goal.returns
unfolding into_at
returns c =
    rw c.in_ok-count.ensures
    (reads-done c.args.totals.now c.args.target c.in_ok-count.count c.loop.counter c.args.lists.now.items
    c.loop.lists.items c.loop.last c.loop.counts
    c.in_ok-count.rest.now c.loop.rest.now c.loop-test.false c.loop.invariant)
