use Rattle.std.proofs.Common.{◌-◌}
use Rattle.turn_lists.proofs.ListByNumber.{Builds}
use Rattle.turn_lists.proofs.few.FewLists.list_of.Given as goal

abbrev pub invariant-loop-made : goal.invariant-loop-made
invariant-loop-made l = Builds l.self l.turns l.fn.number l.list l.last l.left (l.turns - l.made)
