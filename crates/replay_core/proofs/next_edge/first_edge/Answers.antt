use Rattle.std.proofs.Common.{ℕ, ltb, rules}
use Rattle.std.proofs.lemmas.List.Sorted.{IsPartitionPoint-from_clause, IsPartitionedBy-ltb}
use Rattle.race_log.proofs.RisingSearch.{rising-falls_not}
use Rattle.race_log.proofs.PairRises.{no_edge, targets-rise}
use Rattle.replay_core.proofs.NextEdges.{next_at, next_first}
use Rattle.replay_core.proofs.next_edge.first_edge.Goals as goal

pub returns-then-is_first : goal.returns-then-is_first
returns-then-is_first c =
    next_first c.args.edges.now c.args.least _ c.edge_at.result (targets-rise (0, 0) c.args.edges.now c.requires)
    (c.is_first.ensures c.if-is_first.true)
    c.edge_at.ensures

pub returns : goal.returns
returns c =
    let edges = c.args.edges.now in
    next_at edges c.args.least c.partition_point-below.result c.edge_at-2.result (targets-rise (0, 0) edges c.requires)
    (IsPartitionPoint-from_clause (λ (e : ℕ × ℕ). ltb e.1 c.args.least) edges c.partition_point-below.result
    c.partition_point-below.ensures.partitioned
    (IsPartitionedBy-ltb (λ (e : ℕ × ℕ). e.1) edges c.args.least
    (rising-falls_not (λ (e : ℕ × ℕ). e.1) edges no_edge (targets-rise (0, 0) edges c.requires)))
    (λ a r g called. search rules)) c.edge_at-2.ensures
