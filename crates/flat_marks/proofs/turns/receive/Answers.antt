use Rattle.std.proofs.Common.{refl, sym, subst, ℕ, ◌<◌, ◌≤◌}
use Rattle.rtr_types.specs.declared.TheConstants.{CORES_MAX}
use Rattle.flat_home.specs.Tellings.{node_answered}
use Rattle.flat_marks.proofs.HomeMarks.{received_marked}
use Rattle.flat_marks.proofs.OneNode.{same_homes}
use Rattle.flat_marks.proofs.NodeMarks.{core_few, cores_few, response_some, response_there}
use Rattle.flat_marks.proofs.turns.receive.Goals as goal

pub take_response-turn-requires-clause-core : goal.take_response-turn-requires-clause-core
take_response-turn-requires-clause-core c =
    let f = c.args.flat.now in
    (response_there f c.args.marks.now c.args.core c.requires.marked c.requires.can)

pub take_response-turn-requires-clause-some : goal.take_response-turn-requires-clause-some
take_response-turn-requires-clause-some c =
    response_some c.args.flat.now c.args.marks.now c.args.core c.requires.marked c.requires.can

pub mark_replies-requires-clause-core : goal.mark_replies-requires-clause-core
mark_replies-requires-clause-core c =
    let f = c.args.flat.now in
    subst (λ (k : ℕ). c.args.core < k) (sym c.take_response-turn.ensures.turned.long)
    (response_there f c.args.marks.now c.args.core c.requires.marked c.requires.can)

pub mark_replies-requires-clause-few : goal.mark_replies-requires-clause-few
mark_replies-requires-clause-few c =
    let f = c.args.flat.now in
    let w = c.requires.stands in
    core_few f w.s w.memory c.args.core w.stands
    (response_there f c.args.marks.now c.args.core c.requires.marked c.requires.can)

pub mark_turn-requires-clause-few : goal.mark_turn-requires-clause-few
mark_turn-requires-clause-few c =
    let f = c.args.flat.now in
    let w = c.requires.stands in
    subst (λ (k : ℕ). k ≤ CORES_MAX) (sym (c.take_response-turn.ensures.turned.long))
    (cores_few f w.s w.memory w.stands)

pub mark_turn-requires-clause-place : goal.mark_turn-requires-clause-place
mark_turn-requires-clause-place c =
    let f = c.args.flat.now in
    subst (λ (k : ℕ). c.take_response-turn.result.place < k)
    (sym (same_homes f.home.items c.take_response-turn.new.flat.home.items
    c.take_response-turn.ensures.blocks)) c.take_response-turn.ensures.turned.lies

pub mark_turn-requires-clause-there : goal.mark_turn-requires-clause-there
mark_turn-requires-clause-there c = λ to at.
    subst (λ (k : ℕ). to < k) (sym (c.take_response-turn.ensures.turned.long))
    (c.take_response-turn.ensures.turned.there to at)

pub returns : goal.returns
returns c =
    let f = c.args.flat.now in
    let f1 = c.take_response-turn.new.flat in
    let made = c.take_response-turn.ensures in
    let turn = c.take_response-turn.result in
    let within = (response_there f c.args.marks.now c.args.core c.requires.marked c.requires.can) in
    let homes = same_homes f.home.items f1.home.items made.blocks in
    record {
      makes = made.makes;
      told = made.told;
      blocks = made.blocks;
      marked = received_marked f f1 f1 c.args.core (node_answered f c.args.core) turn within made.turned
          c.args.marks.now c.mark_replies.new.marks c.mark_turn.new.marks c.requires.marked refl homes
          c.mark_turn.ensures.messages c.mark_turn.ensures.requests c.mark_turn.ensures.others refl refl
          c.mark_replies.ensures.this c.mark_replies.ensures.others;
    }
