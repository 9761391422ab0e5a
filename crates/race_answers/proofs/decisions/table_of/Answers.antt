use Rattle.std.proofs.Common.{List, arith, subst}
use Rattle.std.proofs.lemmas.List.{take_all}
use Rattle.roomy_lists.specs.Lists.{items_in}
use Rattle.race_queries.specs.declared.ends.Ends.{Ends}
use Rattle.race_answers.specs.Decisions.{CountsEdges}
use Rattle.race_answers.proofs.TableCounts.{counts_more, few_so_far, none_counted}
use Rattle.race_answers.proofs.decisions.table_of.Goals as goal

pub loop-ends-init : goal.loop-ends-init
loop-ends-init c = none_counted (items_in c.args.pcs.now) c.new-table.result c.new-table.ensures.empty

pub count-requires : goal.count-requires
count-requires c =
    let few = few_so_far (items_in c.args.pcs.now) c.loop-ends.table c.loop-ends.table c.args.all.now
    c.loop-ends.ends-index _ c.loop-ends-test.true c.loop-ends.invariant c.pair_of.result c.pair_of.ensures in
    let inside = c.loop-ends-test.true in
    omega arith

pub loop-ends-preserved : goal.loop-ends-preserved
loop-ends-preserved c =
    counts_more (items_in c.args.pcs.now) c.loop-ends.table _ c.args.all.now c.loop-ends.ends-index _
    c.loop-ends-test.true c.loop-ends.invariant c.pair_of.result c.pair_of.ensures c.in_ok-count.ensures

pub returns : goal.returns
returns c =
    subst (λ (all : List Ends). CountsEdges (items_in c.args.pcs.now) all c.loop-ends.table)
    (take_all c.loop-ends.ends-index c.args.all.now c.loop-ends-test.false) c.loop-ends.invariant
