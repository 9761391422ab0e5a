use Rattle.machine_invariant.proofs.MoveInvariant.{holds_kept}
use Rattle.machine_bound.proofs.Payments.{earns}
use Rattle.machine_bound.proofs.Capacity.{nearer, total_earned_le}
use Rattle.machine_bound.proofs.laws.every_step_earns.Goals as goal

pub returns-clause-earns : goal.returns-clause-earns
returns-clause-earns g c = λ s move rider e h. earns g.R.Rider.riding g.K.Carry.carrying s move rider e h

pub returns-clause-nearer : goal.returns-clause-nearer
returns-clause-nearer g c = λ s move rider e h.
    nearer g.R.Rider.riding g.K.Carry.carrying s move rider e h (holds_kept g.R.Rider.riding g.K.Carry.carrying s move
    rider e h)

pub returns-clause-within : goal.returns-clause-within
returns-clause-within g c = λ s h. total_earned_le g.R.Rider.riding g.K.Carry.carrying s h
