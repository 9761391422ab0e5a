use Rattle.roomy_lists.specs.Lists.{items_in}
use Rattle.know_history.proofs.Places.{PutDown}
use Rattle.know_history.proofs.changes.put_news.Given as goal

-- what is new of the cores before this one was put down
abbrev pub invariant-loop-of : goal.invariant-loop-of
invariant-loop-of l = PutDown l.at l.counts (items_in l.fn.changes) l.fn.newest l.changes l.newest l.of
