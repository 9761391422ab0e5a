use Rattle.replay_core.specs.Plans.{plan_of, recorded_image}
use Rattle.replay_table.specs.Rule.{seen_of}
use Rattle.replay_threads.proofs.SeatSteps.{Retires, store_retires}
use Rattle.replay_threads.proofs.turns.store_whole.Given.{Over}
use Rattle.replay_threads.proofs.turns.store_whole.Goals as goal
use Rattle.replay_threads.proofs.turns.store_whole.Goals.{After-store_on}

stored : (g : Over) (c : After-store_on g) → Retires c.args.seat.now c.store_on.new.seat
stored g c =
    let e = c.store_on.ensures in
    store_retires (plan_of g.J.Job.which g.J.Job.recording) (seen_of c.args.seat.now.view)
    (recorded_image g.J.Job.recording) c.args.until _ _ c.args.seat.now c.store_on.new.seat e.table e.ahead
    e.told.step

pub returns-clause-goes_on : goal.returns-clause-goes_on
returns-clause-goes_on g c = (stored g c).goes_on

pub returns-clause-more : goal.returns-clause-more
returns-clause-more g c = (stored g c).more
