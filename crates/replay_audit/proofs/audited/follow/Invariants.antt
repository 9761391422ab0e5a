-- the pass has come along a front of the low order
use Rattle.std.proofs.Common.{◌≡◌, ℕ, List}
use Rattle.replay_core.proofs.Low.{left}
use Rattle.replay_core.specs.Tallies.{count_of}
use Rattle.replay_audit.proofs.LowAudit.{Along}
use Rattle.replay_audit.proofs.audited.follow.Given as goal

abbrev pub invariant-loop-core : goal.invariant-loop-core
invariant-loop-core l = (order : List ℕ) × Along l.fn.which l.recording order l.tally l.replay l.trail
    × (l.trail.listed ≡ l.fn.trail.listed)

abbrev pub decreases-loop-core : goal.decreases-loop-core
decreases-loop-core l = left l.tally.plan.totals (count_of l.tally.counts) 0
