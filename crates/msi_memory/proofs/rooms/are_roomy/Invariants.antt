use Rattle.std.proofs.Common.{◌≡◌, true}
use Rattle.std.specs.Prelude.{take}
use Rattle.std.specs.List.{list_all}
use Rattle.msi_memory.specs.Rests.{head_roomy}
use Rattle.msi_memory.proofs.rooms.are_roomy.Given as goal

-- the home has room for the ports' oldest requests so far
abbrev pub invariant-loop-port : goal.invariant-loop-port
invariant-loop-port g l = list_all (λ p. head_roomy p.requests.items l.home.rooms) (take l.port-index l.ports) ≡ true
