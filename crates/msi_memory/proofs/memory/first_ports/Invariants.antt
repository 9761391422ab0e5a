use Rattle.std.proofs.Common.{◌≡◌, replicate}
use Rattle.msi_memory.specs.Memories.{port_start}
use Rattle.msi_memory.proofs.memory.first_ports.Given as goal

-- each port made so far is one at the start
abbrev pub invariant-loop-core : goal.invariant-loop-core
invariant-loop-core g l = l.made.items ≡ replicate l.core (port_start g.R.Rider.riding g.K.Carry.carrying)
