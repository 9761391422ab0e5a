use Rattle.std.proofs.Common.{refl}
use Rattle.msi_memory.proofs.memory.MemorySystem.new.Goals as goal

pub returns-clause-memory : goal.returns-clause-memory
returns-clause-memory g c = rw (c.in_ok-ports.ensures, c.none.ensures, c.in_ok-home.ensures.opening) refl
