use Rattle.std.proofs.Common.{ℕ, ◌-◌, subst, arith, rules, leb}
use Rattle.std.proofs.lemmas.List.Sorted.{IsPartitionPoint-from_clause, IsPartitionedBy-leb}
use Rattle.stride_vector.specs.declared.StrideVector.{StrideVector}
use Rattle.race_log.proofs.SourceLaws.{Begun, none_begun, source_only, source_found, begins-rise}
use Rattle.race_log.proofs.sources.vector_source.Goals as goal
use Rattle.race_log.proofs.sources.vector_source.Goals.{After-partition_point-begun}

parted : (c : After-partition_point-begun) →
    Begun c.args.vectors.now c.args.target c.partition_point-begun.result
parted c =
    let vectors = c.args.vectors.now in
    IsPartitionPoint-from_clause (λ v. leb v.b0 c.args.target) vectors c.partition_point-begun.result
    c.partition_point-begun.ensures.partitioned
    (IsPartitionedBy-leb (λ (v : StrideVector). v.b0) vectors c.args.target (begins-rise vectors c.requires))
    (λ a r g called. search rules)

pub returns-then-begun-eq0-clause-only : goal.returns-then-begun-eq0-clause-only
returns-then-begun-eq0-clause-only c a has = absurd (none_begun c.args.vectors.now a c.args.target
    (subst (λ (n : ℕ). Begun c.args.vectors.now c.args.target n) c.if-begun-eq0.true
    (parted (goal.at.returns-then-begun-eq0-clause-only c).After-partition_point-begun)) has)

pub returns-clause-found : goal.returns-clause-found
returns-clause-found c =
    source_found c.args.vectors.now c.args.target (c.partition_point-begun.result - 1) _ c.source_of.result
    (omega (arith, c.partition_point-begun.ensures.bound)) c.source_of.ensures.found

pub returns-clause-only : goal.returns-clause-only
returns-clause-only c a has =
    source_only c.args.vectors.now a c.args.target c.partition_point-begun.result _ c.source_of.result c.requires
    c.partition_point-begun.ensures.bound (parted (goal.at.returns-clause-only c).After-partition_point-begun)
    c.source_of.ensures.only has
