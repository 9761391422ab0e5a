use Rattle.replay_core.specs.Plans.{plan_of}
use Rattle.replay_threads.proofs.SeatSteps.{publish_looks, publish_same, publish_reached}
use Rattle.replay_threads.proofs.waits.publish.Goals as goal

pub returns-clause-looks : goal.returns-clause-looks
returns-clause-looks g c =
    let e = c.publish.ensures in
    publish_looks (plan_of g.J.Job.which g.J.Job.recording) _ _ c.args.seat.now c.publish.new.seat e.table e.core
    e.told.step

pub returns-clause-published : goal.returns-clause-published
returns-clause-published g c =
    let e = c.publish.ensures in
    publish_same (plan_of g.J.Job.which g.J.Job.recording) _ _ c.args.seat.now c.publish.new.seat e.core e.told.step

pub returns-clause-reached : goal.returns-clause-reached
returns-clause-reached g c =
    publish_reached g.J.Job.which g.J.Job.recording _ _ c.args.seat.now c.publish.new.seat c.publish.ensures.told
    c.publish.ensures.rest
