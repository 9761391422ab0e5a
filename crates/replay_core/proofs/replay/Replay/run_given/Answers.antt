-- Place by place: the replay stands where the low order with the given values does, and the lowest ready core comes
-- next, until none is.
use Rattle.std.proofs.Common.{◌∙◌, ◌++◌, ◌∷◌, [], refl, sym}
use Rattle.replay_core.specs.Plans.{plan_of}
use Rattle.replay_core.specs.Play.{given_by}
use Rattle.replay_core.proofs.LowCounts.{below_plan, inside_plan, less_to_go}
use Rattle.replay_core.proofs.LowRuns.{inside_here, ready_here, short_here, stuck_here, together_on, together_start}
use Rattle.replay_core.proofs.LowRuns.{whole_here}
use Rattle.replay_core.proofs.replay.Replay.run_given.Goals as goal

pub loop-core-init : goal.loop-core-init
loop-core-init c =
    let order = c.in_ok-order.ensures in
    let replay = c.in_ok-replay.ensures in (
      [],
      together_start (given_by c.args.values.now) (plan_of c.args.which c.args.recording.now)
          c.in_ok-order.order c.in_ok-replay.replay order.plan order.counts replay.plan replay.state,
    )

-- ---- a place more

pub given-given-requires-clause-core : goal.given-given-requires-clause-core
given-given-requires-clause-core c =
    inside_here c.loop-core.invariant.1 (sym c.lowest.ensures ∙ c.in-Some.is) c.make_room.new.self
    c.make_room.ensures.plan c.make_room.ensures.state c.make_room.new.self refl

pub advance_given-requires-clause-ready : goal.advance_given-requires-clause-ready
advance_given-requires-clause-ready c =
    ready_here c.loop-core.invariant.1 (sym c.lowest.ensures ∙ c.in-Some.is) c.make_room.new.self
    c.make_room.ensures.plan c.make_room.ensures.state

pub count-count-requires : goal.count-count-requires
count-count-requires c =
    inside_here c.loop-core.invariant.1 (sym c.lowest.ensures ∙ c.in-Some.is) c.make_room.new.self
    c.make_room.ensures.plan c.make_room.ensures.state c.advance_given.new.self c.advance_given.ensures.plan

pub returns-in-Short : goal.returns-in-Short
returns-in-Short c =
    short_here c.loop-core.invariant.1 (sym c.lowest.ensures ∙ c.in-Some.is) c.make_room.new.self
    c.make_room.ensures.plan c.make_room.ensures.state c.count-count.result c.advance_given.new.self.state
    c.in-Short.ensures.place c.count-count.ensures

pub advance-requires-clause-inside : goal.advance-requires-clause-inside
advance-requires-clause-inside c =
    inside_plan _ _ _ c.loop-core.invariant.1.counted _ (sym c.lowest.ensures ∙ c.in-Some.is)

pub advance-requires-clause-below : goal.advance-requires-clause-below
advance-requires-clause-below c =
    below_plan _ _ _ c.loop-core.invariant.1.counted _ (sym c.lowest.ensures ∙ c.in-Some.is)

pub loop-core-smaller : goal.loop-core-smaller
loop-core-smaller c =
    less_to_go _ _ _ c.loop-core.invariant.1.counted _ (sym c.lowest.ensures ∙ c.in-Some.is) _ c.advance.ensures.plan
    c.advance.ensures.counts

pub loop-core-preserved : goal.loop-core-preserved
loop-core-preserved c = (
  c.loop-core.invariant.0 ++ c.in-Some.core ∷ [],
  together_on c.loop-core.invariant.1 (sym c.lowest.ensures ∙ c.in-Some.is) c.make_room.new.self
      c.make_room.ensures.plan c.make_room.ensures.state c.advance_given.new.self c.advance_given.ensures.plan
      c.given-given.result c.given-given.ensures c.advance_given.result c.advance_given.ensures.place
      c.in_default-advance_given.not-Short c.advance.new.self c.advance.ensures.plan c.advance.ensures.counts,
)

-- ---- the end

pub returns-then-not-whole : goal.returns-then-not-whole
returns-then-not-whole c =
    stuck_here c.loop-core.invariant.1 (sym c.lowest.ensures ∙ c.in_default.is) c.cut.result
    (λ full. let is_whole = c.whole.ensures.1 full in let is_not = c.if-not-whole.true in cc) c.cut.ensures

pub returns : goal.returns
returns c =
    whole_here c.loop-core.invariant.1 (sym c.lowest.ensures ∙ c.in_default.is) c.in_ok-into_outcome.field-0
    (c.whole.ensures.0 c.if-not-whole.false) c.in_ok-into_outcome.ensures
