use Rattle.flat_home.proofs.Tells.{ToldBelow}
use Rattle.flat_home.proofs.tellings.tell_each.Given as goal

abbrev pub invariant-loop-core : goal.invariant-loop-core
invariant-loop-core l = ToldBelow l.set l.place l.fn.nodes.items l.nodes.items l.core
