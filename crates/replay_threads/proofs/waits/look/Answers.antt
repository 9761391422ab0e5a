use Rattle.std.proofs.Common.{refl, arith}
use Rattle.replay_core.specs.Plans.{plan_of}
use Rattle.replay_threads.proofs.DoneLoads.{sees_most, sees_more}
use Rattle.replay_threads.proofs.SeatSteps.{see_looks}
use Rattle.replay_threads.proofs.waits.look.Goals as goal

pub returns-clause-looks : goal.returns-clause-looks
returns-clause-looks g c =
    let e = c.seen_done.ensures in
    see_looks (plan_of g.J.Job.which g.J.Job.recording) _ c.seen_done.result c.args.seat.now c.seen_done.new.seat
    e.table e.core e.told.step

pub returns-clause-least : goal.returns-clause-least
returns-clause-least g c =
    sees_most (plan_of g.J.Job.which g.J.Job.recording) c.args.seat.now.view c.seen_done.new.seat.view _
    c.seen_done.result c.seen_done.ensures.told

pub returns-clause-less : goal.returns-clause-less
returns-clause-less g c = λ up. let is = c.seen_done.ensures.seen in
    sees_more (plan_of g.J.Job.which g.J.Job.recording) c.args.seat.now.view c.seen_done.new.seat.view _
    c.seen_done.result c.args.of
    c.seen_done.ensures.told refl
    (omega arith)
