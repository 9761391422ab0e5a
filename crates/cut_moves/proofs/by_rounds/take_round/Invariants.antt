use Rattle.replay_core.specs.Tallies.{count_of}
use Rattle.cut_moves.proofs.TakenRounds.{IsTaking}
use Rattle.cut_moves.proofs.by_rounds.take_round.Given as goal

-- what the cores so far have of the round was taken
abbrev pub invariant-loop-core : goal.invariant-loop-core
invariant-loop-core l =
    IsTaking l.fn.tally.plan (count_of l.fn.tally.counts) l.core l.fn.list.items l.tally l.list.items
