use Rattle.turn_lists.proofs.ListByNumber.{Counts}
use Rattle.turn_lists.proofs.few.FewLists.list.Given as goal

abbrev pub invariant-loop-turns : goal.invariant-loop-turns
invariant-loop-turns l = Counts l.self l.fn.number l.left l.turns
