use Rattle.flat_run.proofs.FlatRuns.{access_listed, somewhere, steps_on}
use Rattle.flat_run.proofs.run.FlatRunnerStepping.turn.Goals as goal

pub step-requires-clause-stands : goal.step-requires-clause-stands
step-requires-clause-stands c =
    let way = c.requires.under_way in
    let r = c.args.run.now in
    somewhere r.machine r.clerk.lists r.choices way.image way.params way.schedule way.t way.stands_so

pub tell-requires : goal.tell-requires
tell-requires c =
    let way = c.requires.under_way in
    let r = c.args.run.now in
    access_listed r.machine r.clerk.lists r.choices way.image way.params way.schedule way.t way.stands_so _ _ _
    c.in_ok-happened.ensures.stepped

pub returns-clause-stands : goal.returns-clause-stands
returns-clause-stands c =
    let r = c.args.run.now in
    λ image params schedule t stands. steps_on r.machine r.clerk.lists r.choices image params schedule t stands _ _ _
    c.in_ok-happened.ensures.stepped _ _ c.requires.going c.next.ensures.choice c.next.ensures.rest c.in_ok-tell.ensures
