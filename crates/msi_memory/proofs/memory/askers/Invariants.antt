use Rattle.msi_memory.proofs.AskerSets.{AskedBelow}
use Rattle.msi_memory.proofs.memory.askers.Given as goal

abbrev pub invariant-loop-n : goal.invariant-loop-n
invariant-loop-n g l = AskedBelow l.ports l.n l.block l.set
