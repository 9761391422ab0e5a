use Rattle.std.proofs.Common.{ℕ, ltb, rules}
use Rattle.std.proofs.lemmas.List.Sorted.{IsPartitionPoint-from_clause, IsPartitionedBy-ltb}
use Rattle.race_log.proofs.RisingSearch.{rising-falls_not}
use Rattle.race_log.proofs.Near.{from_partition}
use Rattle.race_log.proofs.PairRises.{no_edge, targets-rise}
use Rattle.race_log.proofs.sources.place_near.Goals as goal

pub returns : goal.returns
returns c =
    let edges = c.args.edges.now in
    let target = c.args.target in
    let f = c.partition_point.ensures in
    from_partition edges c.requires target c.partition_point.result f.bound
    (IsPartitionPoint-from_clause (λ e. ltb e.1 target) edges c.partition_point.result f.partitioned
    (IsPartitionedBy-ltb (λ (e : ℕ × ℕ). e.1) edges target
    (rising-falls_not (λ (e : ℕ × ℕ). e.1) edges no_edge (targets-rise (0, 0) edges c.requires)))
    (λ a r g called. search rules))
