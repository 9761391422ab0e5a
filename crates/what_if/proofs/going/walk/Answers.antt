use Rattle.std.proofs.Common.{◌∙◌}
use Rattle.what_if.proofs.Tries.{walked, walked_on}
use Rattle.what_if.proofs.going.walk.Goals as goal

pub loop-core-preserved : goal.loop-core-preserved
loop-core-preserved c =
    let p = c.args.replay.now.plan in
    let s = c.args.replay.now.state in
    record {
      plan = c.take.ensures.plan ∙ c.loop-core.invariant.plan;
      state = walked_on p s c.loop-core.replay c.take.new.replay c.args.places.now c.loop-core.core-index
          c.in_ok-take.field-0 c.loop-core.invariant.plan c.loop-core-test.true c.loop-core.invariant.state
          c.in_ok-take.ensures.tried;
    }

pub returns : goal.returns
returns c = record {
  plan = c.loop-core.invariant.plan;
  state = walked c.args.replay.now.plan c.args.replay.now.state c.loop-core.replay c.args.places.now
      c.loop-core.core-index c.loop-core-test.false c.loop-core.invariant.state;
}
