use Rattle.std.proofs.Common.{rules}
use Rattle.std.proofs.lemmas.List.Sorted.{answers_always}
use Rattle.race_answers.proofs.AllDecisions.{all_decisions, rank_of}
use Rattle.race_answers.proofs.decisions.decisions_of.Goals as goal

pub returns : goal.returns
returns c =
    all_decisions _ c.args.all.now _ c.in_ok-table.ensures _ c.in_ok-list.ensures _ c.sort_by_key.ensures.permutation
    (c.in_ok-sort_by_key.ensures.sorted rank_of (answers_always _ _ _ (λ f a r g called. search rules)))
