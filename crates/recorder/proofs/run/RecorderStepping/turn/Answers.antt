use Rattle.recorder.proofs.RecorderTurn.{accepts_next, readied, records_next, tells_next, turned_by}
use Rattle.recorder.proofs.run.RecorderStepping.turn.Goals as goal

pub step_timed-requires-clause-accepts : goal.step_timed-requires-clause-accepts
step_timed-requires-clause-accepts c =
    let kept = c.ready.ensures in
    accepts_next c.args.run.now.machine.state c.make_room.new.self.state c.args.run.now.clerk c.ready.new.self
    c.args.run.now.choices
    (readied c.make_room.ensures.state kept.reduction kept.untold kept.cores kept.follows) c.requires.under_way
    c.in_ok-ready.ensures.ready

pub tell-requires : goal.tell-requires
tell-requires c =
    let kept = c.ready.ensures in
    let told = c.step_timed.ensures in
    let turned = turned_by _ _ _ _ c.next.ensures.choice c.next.ensures.rest told.taken.plainly told.moved.plainly
    told.moved.tells told.moved.state told.told told.stands told.times in
    tells_next _ _ _ _ _ _ _ _ _ _
    (readied c.make_room.ensures.state kept.reduction kept.untold kept.cores kept.follows) turned told.told
    c.requires.under_way c.in_ok-ready.ensures.regulation_ready

pub returns-clause-stands : goal.returns-clause-stands
returns-clause-stands c = λ image params schedule t.
    let kept = c.ready.ensures in
    let told = c.step_timed.ensures in
    let turned = turned_by _ _ _ _ c.next.ensures.choice c.next.ensures.rest told.taken.plainly told.moved.plainly
    told.moved.tells told.moved.state told.told told.stands told.times in
    records_next _ _ _ _ _ _ _ _ _ _
    (readied c.make_room.ensures.state kept.reduction kept.untold kept.cores kept.follows) turned told.told image params
    schedule t _ c.requires.going c.tell.ensures
