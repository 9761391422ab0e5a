use Rattle.std.proofs.Common.{ap, ◌∙◌}
use Rattle.race_log.specs.Sources.{edge_between}
use Rattle.race_queries.proofs.LogEdges.{positions_more}
use Rattle.race_queries.proofs.log_edges.put_vector.Goals as goal

pub loop-k-preserved : goal.loop-k-preserved
loop-k-preserved c =
    positions_more c.args.from c.args.to c.args.list.now c.loop-k.list _ c.args.vector.now c.loop-k.k _
    c.loop-k.invariant
    (c.edge_between.ensures ∙ ap (edge_between c.args.from c.args.to) c.position.ensures) c.in_ok-push.ensures.ok
