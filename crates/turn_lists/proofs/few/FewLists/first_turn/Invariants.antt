use Rattle.turn_lists.proofs.ListByNumber.{Seeks}
use Rattle.turn_lists.proofs.few.FewLists.first_turn.Given as goal

abbrev pub invariant-loop-place : goal.invariant-loop-place
invariant-loop-place l = Seeks l.all l.fn.after l.last l.fn.number l.left l.place
