use Rattle.std.proofs.lemmas.Result.{IfOk-weaker}
use Rattle.replay_audit.specs.Determinate.{low_order_of}
use Rattle.cut_replay.specs.CutStates.{IsStateAt}
use Rattle.cut_replay.proofs.Ways.{fewer, inside_on, never_short, state_at, way_on}
use Rattle.cut_replay.proofs.cut_states.state_of.Goals as goal

pub unreachable-requires : goal.unreachable-requires
unreachable-requires c =
    let a = c.args.audited.now in
    never_short c.loop-core.invariant.way (low_order_of a.which a.recording) c.outcome.ensures.passed.determinate
    c.in-Some.core c.in-Some.ensures
    c.make_room.new.self c.make_room.ensures.plan c.make_room.ensures.state _ c.in_default-advance.ensures.place

pub loop-core-smaller : goal.loop-core-smaller
loop-core-smaller c =
    let a = c.args.audited.now in
    fewer c.loop-core.invariant.way (low_order_of a.which a.recording) c.outcome.ensures.passed.determinate
    c.in-Some.core c.in-Some.ensures
    c.make_room.new.self c.make_room.ensures.plan c.make_room.ensures.state c.advance.new.self c.advance.ensures.plan
    c.in-Retired.access
    c.in-Retired.ensures.place

pub loop-core-preserved : goal.loop-core-preserved
loop-core-preserved c =
    let a = c.args.audited.now in
    record {
      way = way_on c.loop-core.invariant.way (low_order_of a.which a.recording) c.outcome.ensures.passed.determinate
          c.in-Some.core c.in-Some.ensures
          c.make_room.new.self c.make_room.ensures.plan c.make_room.ensures.state c.advance.new.self
          c.advance.ensures.plan c.in-Retired.access
          c.in-Retired.ensures.place;
      last = inside_on c.loop-core.invariant.way (low_order_of a.which a.recording) c.outcome.ensures.passed.determinate
          c.in-Some.core c.in-Some.ensures
          c.make_room.new.self c.make_room.ensures.plan c.make_room.ensures.state c.advance.new.self
          c.advance.ensures.plan c.in-Retired.access
          c.in-Retired.ensures.place;
    }

pub returns : goal.returns
returns c =
    let a = c.args.audited.now in
    IfOk-weaker c.into_outcome.result _ (IsStateAt a.which a.recording c.args.cut.now)
    (state_at c.loop-core.invariant.way (low_order_of a.which a.recording) c.outcome.ensures.passed.determinate
    c.in_default.ensures) c.into_outcome.ensures
