use Rattle.replay_core.specs.Tallies.{count_of}
use Rattle.cut_moves.proofs.TakenRounds.{AreFound}
use Rattle.cut_moves.proofs.by_rounds.ready_cores.Given as goal

abbrev pub invariant-loop-core : goal.invariant-loop-core
invariant-loop-core l = AreFound l.tally.plan (count_of l.tally.counts) l.core l.ready l.some
