use Rattle.machine_times.specs.TimedSteps.{times_parts}
use Rattle.machine_times.proofs.RiderLaws.{times_absorb, times_fresh}
use Rattle.tso_times.proofs.NoAccessYet.{buffered_start}
use Rattle.tso_times.proofs.MoveTimes.{finds_exact, timed_step}
use Rattle.tso_times.proofs.laws.timed_steps.Goals as goal

pub returns-clause-stands : goal.returns-clause-stands
returns-clause-stands g c = timed_step times_parts g.K.Carry.carrying times_absorb

pub returns-clause-finds : goal.returns-clause-finds
returns-clause-finds g c = finds_exact times_parts g.K.Carry.carrying times_absorb

pub returns-clause-starts : goal.returns-clause-starts
returns-clause-starts g c = λ image cores limit. buffered_start times_parts g.K.Carry.carrying times_fresh image cores
    limit
