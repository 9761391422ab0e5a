use Rattle.replay_core.proofs.AwaitedEdges.{AreUnknown}
use Rattle.replay_core.proofs.coming.Sources.new.Given as goal

abbrev pub invariant-loop-core : goal.invariant-loop-core
invariant-loop-core l = AreUnknown l.core l.coming.items
