use Rattle.std.proofs.Common.{◌≡◌, ◌∙◌, sym, rules, true, false, arith, nat_lt}
use Rattle.std.specs.Prelude.{nat_le}
use Rattle.std.proofs.lemmas.Bool.{cond-true, cond-false}
use Rattle.std.proofs.lemmas.Bool.Decides.{nat_tests}
use Rattle.std.specs.List.Sorted.{IsPartitionPoint}
use Rattle.std.proofs.lemmas.List.Sorted.{IsPartitionPoint-from_clause, IsPartitionedBy-leb}
use Rattle.know_history.specs.declared.changes.Change.{Change}
use Rattle.know_history.proofs.OneList.{searched}
use Rattle.know_history.proofs.changes.known_by.Goals as goal
use Rattle.know_history.proofs.changes.known_by.Goals.{After-partition_point-within}

abbrev no_change : Change
no_change = record { count = 0; known = 0 }

-- so many changes lie at or before the count
point : (c : After-partition_point-within) →
    IsPartitionPoint (λ (d : Change). nat_le d.count c.args.count ≡ true)
    (λ (d : Change). nat_le d.count c.args.count ≡ false) c.args.changes.now c.partition_point-within.result
point c = IsPartitionPoint-from_clause (λ (d : Change). nat_le d.count c.args.count) _ _
    c.partition_point-within.ensures.partitioned
    (IsPartitionedBy-leb (λ (d : Change). d.count) c.args.changes.now c.args.count c.requires)
    (λ a r q k. search rules)

pub returns-then-within-eq0 : goal.returns-then-within-eq0
returns-then-within-eq0 c =
    let none : nat_lt 0 c.partition_point-within.result ≡ false = (let e = c.if-within-eq0.true in
    grind (arith, nat_tests)) in
    sym (searched c.args.changes.now 0 c.args.count c.partition_point-within.result no_change
    (point (goal.at.returns-then-within-eq0 c).After-partition_point-within) c.partition_point-within.ensures.bound
    ∙ cond-false (nat_lt 0 c.partition_point-within.result) _ 0 none)

pub returns : goal.returns
returns c =
    let some : nat_lt 0 c.partition_point-within.result ≡ true = (let e = c.if-within-eq0.false in
    grind (arith, nat_tests)) in
    sym (searched c.args.changes.now 0 c.args.count c.partition_point-within.result no_change
    (point (goal.at.returns c).After-partition_point-within) c.partition_point-within.ensures.bound
    ∙ cond-true (nat_lt 0 c.partition_point-within.result) _ 0 some)
