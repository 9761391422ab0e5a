-- Place by place along the timeline: the lists have the pcs of the instructions passed, and room for one more. The
-- recording is determinate, so the core of each place can go on.
use Rattle.std.proofs.Common.{List, ℕ, ◌+◌, ◌∷◌, get_or, drop, ap, subst, ◌∙◌, arith}
use Rattle.std.proofs.Math.ListN.{drop_of_length-le}
use Rattle.roomy_lists.specs.Lists.{items_in, with_item}
use Rattle.rv_core.specs.declared.core_state.Core.{Core}
use Rattle.roomy_lists.proofs.Rooms.{ready_each}
use Rattle.cut_replay.specs.Dues.{IsDue}
use Rattle.cut_replay.proofs.Ways.{never_short, ready_with_room}
use Rattle.debug_place.proofs.WalkedWay.{due}
use Rattle.race_answers.specs.Pcs.{IsNoting}
use Rattle.race_answers.proofs.NotedPcs.{all_noted, inside_lists, next_noted, notes_on}
use Rattle.race_answers.proofs.pcs.note.Goals as goal
use Rattle.race_answers.proofs.pcs.note.Goals.{After-make_room}

-- the place that is next, of which the core is due
module _ (c : After-make_room) where
  noting : IsNoting c.args.audited.now.which c.args.audited.now.recording c.loop-core.replay
      (get_or c.args.places.now c.loop-core.core-index 0 ∷ drop (c.loop-core.core-index + 1) c.args.places.now)
      (items_in c.loop-core.pcs)
  noting = next_noted c.args.places.now c.loop-core.core-index (omega arith) c.loop-core.invariant

  is_due : IsDue noting.to c.loop-core.replay (get_or c.args.places.now c.loop-core.core-index 0)
  is_due = due _ _ noting.walking

pub push-requires-clause-place : goal.push-requires-clause-place
push-requires-clause-place c =
    inside_lists (noting (goal.at.push-requires-clause-place c).After-make_room) c.make_room-in-loop-core.new.self
    c.in_ok-make_room-2.ensures.items

pub push-requires-clause-room : goal.push-requires-clause-room
push-requires-clause-room c =
    ready_each c.make_room-in-loop-core.new.self _ c.in_ok-make_room-2.ensures.ready
    (inside_lists (noting (goal.at.push-requires-clause-room c).After-make_room) c.make_room-in-loop-core.new.self
    c.in_ok-make_room-2.ensures.items)

pub advance-requires-clause-ready : goal.advance-requires-clause-ready
advance-requires-clause-ready c =
    let here = (goal.at.advance-requires-clause-ready c).After-make_room in
    ready_with_room (noting here).walking.way _ c.outcome.ensures.passed.determinate _ (is_due here)
    c.make_room.new.self c.make_room.ensures.plan c.make_room.ensures.state

pub unreachable-requires : goal.unreachable-requires
unreachable-requires c =
    let here = (goal.at.unreachable-requires c).After-make_room in
    never_short (noting here).walking.way _ c.outcome.ensures.passed.determinate _ (is_due here) c.make_room.new.self
    c.make_room.ensures.plan c.make_room.ensures.state _ c.in_default.ensures.place

pub loop-core-preserved : goal.loop-core-preserved
loop-core-preserved c =
    notes_on (noting (goal.at.loop-core-preserved c).After-make_room) _ c.outcome.ensures.passed.determinate
    c.make_room.new.self c.make_room.ensures.plan c.make_room.ensures.state c.advance.new.self c.advance.ensures.plan
    c.in-Retired.access c.in-Retired.ensures.place c.pc.result (c.pc.ensures ∙ ap (λ (k : Core). k.pc) c.core.ensures)
    (items_in c.push.new.self)
    (c.push.ensures.items
    ∙ ap (λ (all : List (List ℕ)). with_item all (get_or c.args.places.now c.loop-core.core-index 0) c.pc.result)
    c.in_ok-make_room-2.ensures.items)

pub returns : goal.returns
returns c =
    let a = c.args.audited.now in
    all_noted
    (subst (λ (rest : List ℕ). IsNoting a.which a.recording c.loop-core.replay rest (items_in c.loop-core.pcs))
    (drop_of_length-le c.args.places.now (omega arith)) c.loop-core.invariant)
