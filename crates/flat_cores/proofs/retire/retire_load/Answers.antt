use Rattle.std.proofs.Common.{◌≡◌, ◌∙◌, ap, refl, subst, ℕ, ◌/◌, ◌%◌, ◌<◌, arith, length}
use Rattle.std.specs.Prelude.{slice_index, slice_set}
use Rattle.rtr_types.specs.declared.TheConstants.{BLOCK_WORDS, LINES}
use Rattle.rv_core.specs.Steps.{is_done}
use Rattle.flat_state.specs.Shows.{line_at, node_after}
use Rattle.flat_state.proofs.NodeReads.{going_on, in_nodes, op_kept}
use Rattle.flat_cores.proofs.Hits.{load_placed, load_read, load_stands, load_told}
use Rattle.flat_state.specs.declared.node.Node.{Node}
use Rattle.flat_cores.proofs.retire.retire_load.Goals as goal

pub index-requires : goal.index-requires
index-requires c =
    let f = c.args.flat.now in
    let w = c.requires.stands in
    let n = c.index_mut-node.result.now in
    let ok = f.home.ok.0 in
    let long : length f.home.items ≡ f.home.len = omega (arith, ok) in
    subst (λ (k : ℕ). (line_at n (c.args.word / BLOCK_WORDS % LINES)).place < k) long
    (load_placed f w.s w.memory c.args.core c.args.word n c.requires.core
    (in_nodes f.nodes.items c.args.core n c.requires.core c.index_mut-node.ensures.value) c.requires.hit w.stands)

pub next_instr-at-requires : goal.next_instr-at-requires
next_instr-at-requires c =
    let f = c.args.flat.now in
    let w = c.requires.stands in
    let n = c.index_mut-node.result.now in
    going_on f w.s c.args.core w.stands.shows c.requires.core n
    (in_nodes f.nodes.items c.args.core n c.requires.core c.index_mut-node.ensures.value) (ap is_done c.requires.load)

pub retire-after-requires-clause-more : goal.retire-after-requires-clause-more
retire-after-requires-clause-more c =
    let f = c.args.flat.now in
    let w = c.requires.stands in
    let n = c.index_mut-node.result.now in
    going_on f w.s c.args.core w.stands.shows c.requires.core n
    (in_nodes f.nodes.items c.args.core n c.requires.core c.index_mut-node.ensures.value) (ap is_done c.requires.load)

pub retire-after-requires-clause-op : goal.retire-after-requires-clause-op
retire-after-requires-clause-op c =
    let f = c.args.flat.now in
    let w = c.requires.stands in
    let n = c.index_mut-node.result.now in
    op_kept f w.s c.args.core w.stands.shows c.requires.core n
    (in_nodes f.nodes.items c.args.core n c.requires.core c.index_mut-node.ensures.value)

pub returns-clause-makes : goal.returns-clause-makes
returns-clause-makes c = λ s memory stands on.
    let f = c.args.flat.now in
    let n = c.index_mut-node.result.now in
    let is = in_nodes f.nodes.items c.args.core n c.requires.core c.index_mut-node.ensures.value in
    load_stands f s memory c.args.core c.args.word _ c.requires.core c.requires.load c.requires.hit
    (load_read f s memory c.args.core c.args.word n c.index.result.now c.requires.core is c.index.ensures
    c.requires.hit stands) stands _ n
    c.retire-after.new.self is c.retire-after.ensures.node refl refl refl on

pub returns-clause-told : goal.returns-clause-told
returns-clause-told c = λ s memory stands on.
    let f = c.args.flat.now in
    let n = c.index_mut-node.result.now in
    let is = in_nodes f.nodes.items c.args.core n c.requires.core c.index_mut-node.ensures.value in
    load_told f s memory c.args.core c.args.word _ c.requires.core c.requires.load c.requires.hit
    (load_read f s memory c.args.core c.args.word n c.index.result.now c.requires.core is c.index.ensures
    c.requires.hit stands) stands n c.next_instr-at.result c.retire-after.result is c.next_instr-at.ensures
    c.retire-after.ensures.value

pub returns-clause-nodes : goal.returns-clause-nodes
returns-clause-nodes c =
    let f = c.args.flat.now in
    let n = c.index_mut-node.result.now in
    let is = in_nodes f.nodes.items c.args.core n c.requires.core c.index_mut-node.ensures.value in
    ap (slice_set f.nodes.items c.args.core) (c.retire-after.ensures.node
    ∙ ap (λ (x : Node). node_after f.program x x.core (slice_index c.index.result.now.words
    (c.args.word % BLOCK_WORDS))) is)
