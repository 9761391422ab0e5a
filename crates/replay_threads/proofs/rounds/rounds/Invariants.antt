use Rattle.replay_threads.specs.Groups.{AreKept}
use Rattle.replay_threads.proofs.rounds.rounds.Given as goal

abbrev pub invariant-loop : goal.invariant-loop
invariant-loop g l = AreKept l.table l.fn.groups l.groups
