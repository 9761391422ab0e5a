use Rattle.replay_core.specs.Plans.{plan_of}
use Rattle.replay_table.specs.Rule.{seen_of}
use Rattle.replay_threads.proofs.SeatSteps.{locals_go_on}
use Rattle.replay_threads.proofs.turns.run_locals.Goals as goal

pub returns-clause-goes_on : goal.returns-clause-goes_on
returns-clause-goes_on g c =
    let e = c.locals.ensures in
    locals_go_on (plan_of g.J.Job.which g.J.Job.recording) (seen_of c.args.seat.now.view) e.ahead.0 c.args.seat.now
    c.locals.new.seat e.table e.ahead.1 e.view
