use Rattle.race_queries.proofs.LogEdges.{vectors_more}
use Rattle.race_queries.proofs.log_edges.put_vectors.Goals as goal

pub put_vector-requires : goal.put_vector-requires
put_vector-requires c = c.requires.each c.loop-vector.vector-index _ c.loop-vector-test.true

pub loop-vector-preserved : goal.loop-vector-preserved
loop-vector-preserved c =
    vectors_more c.args.from c.args.to c.args.list.now c.loop-vector.list _ c.args.vectors.now
    c.loop-vector.vector-index _ c.loop-vector-test.true c.loop-vector.invariant c.in_ok-put_vector.ensures
