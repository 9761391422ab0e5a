use Rattle.vector_reduce.proofs.Parts.{cut_made}
use Rattle.vector_reduce.proofs.reading.cut_of.Goals as goal

pub returns : goal.returns
returns c = cut_made c.args.counts.now c.loop-core.places c.loop-core.core c.loop-core-test.false
    c.loop-core.invariant.wide c.loop-core.invariant.done c.loop-core.invariant.rest
