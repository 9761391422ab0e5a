use Rattle.std.proofs.Common.{◌∙◌, ap, refl, true, ◌/◌, ◌%◌, arith}
use Rattle.rtr_types.specs.declared.TheConstants.{BLOCK_WORDS, LINES}
use Rattle.msi_state.specs.declared.moves.Move.TheVariants.{Core as CoreMove}
use Rattle.msi_state.specs.Runs.{plain_event, plain_step}
use Rattle.machine_data.specs.Coherent.{memory_after}
use Rattle.flat_state.specs.Shows.{blocks_of, line_at, node_at}
use Rattle.msi_cache.specs.declared.line.State.TheVariants.{SmD}
use Rattle.flat_state.specs.declared.node.Ask.TheVariants.{GetM}
use Rattle.flat_cores.specs.Needs.{node_asked}
use Rattle.flat_marks.proofs.AskMarks.{asker_blocks, asker_stands, noted_marked, noted_place}
use Rattle.flat_marks.proofs.OneNode.{still_there}
use Rattle.flat_marks.proofs.NodeMarks.{core_few, own_on, own_there}
use Rattle.flat_marks.proofs.own.upgrade.Goals as goal

pub upgrade-requires-clause-core : goal.upgrade-requires-clause-core
upgrade-requires-clause-core c =
    own_there c.args.flat.now c.args.marks.now c.args.core c.requires.marked c.requires.can

pub note_ask-requires-clause-core : goal.note_ask-requires-clause-core
note_ask-requires-clause-core c =
    let f = c.args.flat.now in
    still_there f c.upgrade.new.flat c.args.core (node_asked (node_at f.nodes.items c.args.core) (c.args.word / BLOCK_WORDS % LINES)
    (record (line_at (node_at f.nodes.items c.args.core) (c.args.word / BLOCK_WORDS % LINES)) { state = SmD }) GetM)
    (own_there f c.args.marks.now c.args.core c.requires.marked c.requires.can) c.upgrade.ensures.nodes

pub note_ask-requires-clause-few : goal.note_ask-requires-clause-few
note_ask-requires-clause-few c =
    let f = c.args.flat.now in
    let w = c.requires.stands in
    core_few f w.s w.memory c.args.core w.stands
    (own_there f c.args.marks.now c.args.core c.requires.marked c.requires.can)

pub note_ask-requires-clause-place : goal.note_ask-requires-clause-place
note_ask-requires-clause-place c =
    let f = c.args.flat.now in
    let w = c.requires.stands in
    let on = own_on f c.args.marks.now c.args.core c.requires.marked c.requires.can w.s w.memory w.stands in
    noted_place f c.upgrade.new.flat c.args.core (c.args.word / BLOCK_WORDS % LINES)
    (record (line_at (node_at f.nodes.items c.args.core) (c.args.word / BLOCK_WORDS % LINES)) { state = SmD }) GetM (plain_step w.s (CoreMove c.args.core))
    (memory_after (plain_event w.s (CoreMove c.args.core)) w.memory)
    (own_there f c.args.marks.now c.args.core c.requires.marked c.requires.can) c.upgrade.ensures.nodes
    (c.upgrade.ensures.makes w.s w.memory w.stands on)

pub returns : goal.returns
returns c =
    let f = c.args.flat.now in
    let f1 = c.upgrade.new.flat in
    let w = c.requires.stands in
    let within = own_there f c.args.marks.now c.args.core c.requires.marked c.requires.can in
    let noted = c.note_ask.ensures in
    record {
      makes = λ s memory stands on. asker_stands f1 c.note_ask.new.flat c.args.core
          (node_at f1.nodes.items c.args.core).place true noted.asker _ _
          (c.upgrade.ensures.makes s memory stands on);
      told = c.upgrade.ensures.told;
      blocks = asker_blocks f1 c.note_ask.new.flat c.args.core (node_at f1.nodes.items c.args.core).place true
          noted.asker ∙ ap blocks_of c.upgrade.ensures.home;
      marked = noted_marked f f1 c.note_ask.new.flat c.args.marks.now c.note_ask.new.marks c.args.core (c.args.word / BLOCK_WORDS % LINES)
          (record (line_at (node_at f.nodes.items c.args.core) (c.args.word / BLOCK_WORDS % LINES)) { state = SmD }) GetM w.s w.memory c.requires.marked within
          c.requires.can (omega arith) refl c.upgrade.ensures.nodes c.upgrade.ensures.home noted.asker
          noted.own noted.request noted.others w.stands;
    }
