use Rattle.std.proofs.Common.{rules}
use Rattle.std.proofs.lemmas.List.Sorted.{answers_always, IsPermutation-sym}
use Rattle.conflict_edge.specs.Least.{pair_and_target}
use Rattle.conflict_edge.proofs.Next.{history_rises, history_cores}
use Rattle.conflict_edge.proofs.Once.{once_shuffled}
use Rattle.conflict_edge.proofs.EdgeOrders.{least_shuffled}
use Rattle.conflict_edge.proofs.least_set.least_of.Goals as goal

pub returns-clause-least : goal.returns-clause-least
returns-clause-least c =
    least_shuffled c.args.list.now c.in_ok-edges.edges.items c.sort_by_key.new.self.items
    (history_rises c.args.list.now c.requires) c.in_ok-edges.ensures.covering c.sort_by_key.ensures.permutation
    (IsPermutation-sym _ _ c.sort_by_key.ensures.permutation)

pub returns-clause-order : goal.returns-clause-order
returns-clause-order c = c.in_ok-sort_by_key.ensures.sorted pair_and_target
    (answers_always _ _ _ (λ f a r g h. search rules))

pub covering_pairs-requires-clause-rise : goal.covering_pairs-requires-clause-rise
covering_pairs-requires-clause-rise c = history_rises c.args.list.now c.requires

pub covering_pairs-requires-clause-cores : goal.covering_pairs-requires-clause-cores
covering_pairs-requires-clause-cores c = history_cores c.args.list.now c.requires

pub returns-clause-once : goal.returns-clause-once
returns-clause-once c = once_shuffled c.in_ok-edges.edges.items c.sort_by_key.new.self.items
    c.sort_by_key.ensures.permutation c.in_ok-edges.ensures.once
