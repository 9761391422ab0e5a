use Rattle.replay_core.specs.Plans.{plan_of}
use Rattle.replay_core.specs.Tallies.{count_of}
use Rattle.replay_core.proofs.Low.{left}
use Rattle.cut_moves.proofs.TakenRounds.{IsSoFar}
use Rattle.cut_moves.proofs.by_rounds.rounds_in.Given as goal

abbrev pub invariant-loop-ready : goal.invariant-loop-ready
invariant-loop-ready l = IsSoFar (plan_of l.audited.which l.audited.recording) l.tally l.list.items

abbrev pub decreases-loop-ready : goal.decreases-loop-ready
decreases-loop-ready l = left l.tally.plan.totals (count_of l.tally.counts) 0
