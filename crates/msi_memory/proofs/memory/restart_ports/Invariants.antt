use Rattle.std.proofs.Common.{◌≡◌, ◌++◌, drop, replicate}
use Rattle.msi_memory.specs.Memories.{port_start}
use Rattle.msi_memory.proofs.memory.restart_ports.Given as goal

-- the ports up to here are at the start, and the others as they were
abbrev pub invariant-loop-place : goal.invariant-loop-place
invariant-loop-place g l =
    l.ports ≡ replicate l.place (port_start g.R.Rider.riding g.K.Carry.carrying) ++ drop l.place l.fn.ports
