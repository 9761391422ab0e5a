use Rattle.std.proofs.Common.{ℕ, ◌-◌, subst, arith, rules, leb}
use Rattle.std.proofs.lemmas.List.Sorted.{IsPartitionPoint-from_clause, IsPartitionedBy-leb}
use Rattle.stride_vector.specs.declared.StrideVector.{StrideVector}
use Rattle.race_log.proofs.SourceLaws.{begins-rise}
use Rattle.replay_core.proofs.NextEdges.{Begun, ended_none, from_last, from_next, from_beginning, begins_before}
use Rattle.replay_core.proofs.next_edge.first_position.Goals as goal
use Rattle.replay_core.proofs.next_edge.first_position.Goals.{After-partition_point-begun}

-- so many vectors begin at or before the least count
parted : (c : After-partition_point-begun) → Begun c.args.vectors.now c.args.least c.partition_point-begun.result
parted c = IsPartitionPoint-from_clause (λ v. leb v.b0 c.args.least) c.args.vectors.now c.partition_point-begun.result
    c.partition_point-begun.ensures.partitioned
    (IsPartitionedBy-leb (λ (v : StrideVector). v.b0) c.args.vectors.now c.args.least
    (begins-rise c.args.vectors.now c.requires))
    (λ a r g called. search rules)

pub returns-then-begun-eq0 : goal.returns-then-begun-eq0
returns-then-begun-eq0 c = from_beginning c.args.vectors.now c.args.least 0 c.beginning.result c.requires
    (subst (λ (n : ℕ). Begun c.args.vectors.now c.args.least n) c.if-begun-eq0.true
    (parted (goal.at.returns-then-begun-eq0 c).After-partition_point-begun))
    (ended_none c.args.vectors.now c.args.least) c.beginning.ensures

pub position_from-requires-clause-vector : goal.position_from-requires-clause-vector
position_from-requires-clause-vector c =
    let bound = c.partition_point-begun.ensures.bound in
    let some = c.if-begun-eq0.false in
    c.requires.each (c.partition_point-begun.result - 1) _ (omega arith)

pub position_from-requires-clause-begun : goal.position_from-requires-clause-begun
position_from-requires-clause-begun c =
    let bound = c.partition_point-begun.ensures.bound in
    let some = c.if-begun-eq0.false in
    begins_before c.args.vectors.now c.args.least c.partition_point-begun.result _
    (parted (goal.at.position_from-requires-clause-begun c).After-partition_point-begun) (omega arith) (omega arith)

pub returns-in-Some : goal.returns-in-Some
returns-in-Some c =
    let bound = c.partition_point-begun.ensures.bound in
    let some = c.if-begun-eq0.false in
    from_last c.args.vectors.now c.args.least c.partition_point-begun.result _ _ c.requires
    (parted (goal.at.returns-in-Some c).After-partition_point-begun) (omega arith) (omega arith) c.in-Some.ensures

pub returns-in-None : goal.returns-in-None
returns-in-None c =
    let bound = c.partition_point-begun.ensures.bound in
    let some = c.if-begun-eq0.false in
    from_next c.args.vectors.now c.args.least c.partition_point-begun.result _ c.beginning-in-None.result c.requires
    (parted (goal.at.returns-in-None c).After-partition_point-begun) (omega arith) (omega arith) c.in-None.ensures
    c.beginning-in-None.ensures
