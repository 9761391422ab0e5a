use Rattle.std.proofs.Common.{◌∙◌, ap, refl, sym, subst, ℕ, ◌<◌, ◌≤◌, false, length}
use Rattle.rtr_types.specs.declared.TheConstants.{CORES_MAX}
use Rattle.flat_home.specs.Tellings.{node_served}
use Rattle.flat_marks.proofs.HomeMarks.{served_marked}
use Rattle.flat_marks.proofs.OneNode.{same_homes}
use Rattle.flat_marks.proofs.AskMarks.{asker_blocks, asker_stands}
use Rattle.flat_marks.proofs.NodeMarks.{core_few, cores_few, request_asks, request_free, request_there}
use Rattle.flat_marks.proofs.turns.serve.Goals as goal

pub take_request-turn-requires-clause-core : goal.take_request-turn-requires-clause-core
take_request-turn-requires-clause-core c =
    let f = c.args.flat.now in
    (request_there f c.args.marks.now c.args.core c.requires.marked c.requires.can)

pub take_request-turn-requires-clause-asks : goal.take_request-turn-requires-clause-asks
take_request-turn-requires-clause-asks c =
    request_asks c.args.flat.now c.args.marks.now c.args.core c.requires.marked c.requires.can

pub take_request-turn-requires-clause-free : goal.take_request-turn-requires-clause-free
take_request-turn-requires-clause-free c =
    request_free c.args.flat.now c.args.marks.now c.args.core c.requires.marked c.requires.can

pub set_asker-requires-clause-few : goal.set_asker-requires-clause-few
set_asker-requires-clause-few c =
    let f = c.args.flat.now in
    let w = c.requires.stands in
    core_few f w.s w.memory c.args.core w.stands (request_there f c.args.marks.now c.args.core c.requires.marked c.requires.can)

pub set_asker-requires-clause-place : goal.set_asker-requires-clause-place
set_asker-requires-clause-place c =
    let f = c.args.flat.now in
    subst (λ (k : ℕ). c.take_request-turn.result.place < k)
    (sym (same_homes f.home.items c.take_request-turn.new.flat.home.items c.take_request-turn.ensures.blocks))
    c.take_request-turn.ensures.turned.lies

pub set-requires : goal.set-requires
set-requires c =
    let f = c.args.flat.now in
    let w = c.requires.stands in
    core_few f w.s w.memory c.args.core w.stands (request_there f c.args.marks.now c.args.core c.requires.marked c.requires.can)

pub mark_turn-requires-clause-few : goal.mark_turn-requires-clause-few
mark_turn-requires-clause-few c =
    let f = c.args.flat.now in
    let w = c.requires.stands in
    subst (λ (k : ℕ). k ≤ CORES_MAX) (sym (ap length c.set_asker.ensures.nodes ∙ c.take_request-turn.ensures.turned.long))
    (cores_few f w.s w.memory w.stands)

pub mark_turn-requires-clause-place : goal.mark_turn-requires-clause-place
mark_turn-requires-clause-place c =
    let f = c.args.flat.now in
    subst (λ (k : ℕ). c.take_request-turn.result.place < k)
    (sym (c.set_asker.ensures.long ∙ same_homes f.home.items c.take_request-turn.new.flat.home.items
    c.take_request-turn.ensures.blocks)) c.take_request-turn.ensures.turned.lies

pub mark_turn-requires-clause-there : goal.mark_turn-requires-clause-there
mark_turn-requires-clause-there c = λ to at.
    subst (λ (k : ℕ). to < k) (sym (ap length c.set_asker.ensures.nodes ∙ c.take_request-turn.ensures.turned.long))
    (c.take_request-turn.ensures.turned.there to at)

pub returns : goal.returns
returns c =
    let f = c.args.flat.now in
    let f1 = c.take_request-turn.new.flat in
    let made = c.take_request-turn.ensures in
    let turn = c.take_request-turn.result in
    let within = (request_there f c.args.marks.now c.args.core c.requires.marked c.requires.can) in
    let homes = same_homes f.home.items f1.home.items made.blocks in
    record {
      makes = λ s memory stands on. asker_stands f1 c.set_asker.new.flat c.args.core turn.place false
          c.set_asker.ensures _ _ (made.makes s memory stands on);
      told = made.told;
      blocks = asker_blocks f1 c.set_asker.new.flat c.args.core turn.place false c.set_asker.ensures ∙ made.blocks;
      marked = served_marked f f1 c.set_asker.new.flat c.args.core (node_served f c.args.core) turn within made.turned
          c.args.marks.now c.set.new.self c.mark_turn.new.marks c.requires.marked c.set_asker.ensures.nodes
          (c.set_asker.ensures.long ∙ homes) c.mark_turn.ensures.messages c.mark_turn.ensures.requests
          c.mark_turn.ensures.others refl made.place c.set_asker.ensures c.set.ensures.this c.set.ensures.others;
    }
