use Rattle.std.proofs.Common.{ap}
use Rattle.hunt_runs.specs.BufferedSeen.{seen_of}
use Rattle.hunt_runs.proofs.buffered.BufferedMachineNoRiderNoCarryHuntedMachine.is_seen.Goals as goal

pub returns-clause-seen : goal.returns-clause-seen
returns-clause-seen c = λ image params schedule t rest stands. ap seen_of stands.state
