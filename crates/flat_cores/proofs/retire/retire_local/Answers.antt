use Rattle.std.proofs.Common.{◌∙◌, ap, refl}
use Rattle.std.specs.Prelude.{slice_set}
use Rattle.rv_core.specs.Steps.{is_done}
use Rattle.flat_state.specs.Shows.{node_after}
use Rattle.flat_state.proofs.NodeReads.{going_on, in_nodes, op_kept}
use Rattle.flat_cores.proofs.Hits.{local_stands, local_told}
use Rattle.flat_state.specs.declared.node.Node.{Node}
use Rattle.flat_cores.proofs.retire.retire_local.Goals as goal

pub next_instr-at-requires : goal.next_instr-at-requires
next_instr-at-requires c =
    let f = c.args.flat.now in
    let w = c.requires.stands in
    let n = c.index_mut-node.result.now in
    going_on f w.s c.args.core w.stands.shows c.requires.core n
    (in_nodes f.nodes.items c.args.core n c.requires.core c.index_mut-node.ensures.value) (ap is_done c.requires.local)

pub retire-value-requires-clause-more : goal.retire-value-requires-clause-more
retire-value-requires-clause-more c =
    let f = c.args.flat.now in
    let w = c.requires.stands in
    let n = c.index_mut-node.result.now in
    going_on f w.s c.args.core w.stands.shows c.requires.core n
    (in_nodes f.nodes.items c.args.core n c.requires.core c.index_mut-node.ensures.value) (ap is_done c.requires.local)

pub retire-value-requires-clause-op : goal.retire-value-requires-clause-op
retire-value-requires-clause-op c =
    let f = c.args.flat.now in
    let w = c.requires.stands in
    let n = c.index_mut-node.result.now in
    op_kept f w.s c.args.core w.stands.shows c.requires.core n
    (in_nodes f.nodes.items c.args.core n c.requires.core c.index_mut-node.ensures.value)

pub returns-clause-makes : goal.returns-clause-makes
returns-clause-makes c = λ s memory stands on.
    let f = c.args.flat.now in
    let n = c.index_mut-node.result.now in
    local_stands f _ s memory c.args.core n c.retire-value.new.self c.requires.core
    (in_nodes f.nodes.items c.args.core n c.requires.core c.index_mut-node.ensures.value) c.retire-value.ensures.node
    refl refl refl c.requires.local stands on

pub returns-clause-told : goal.returns-clause-told
returns-clause-told c = λ s memory stands on.
    let f = c.args.flat.now in
    let n = c.index_mut-node.result.now in
    local_told f s c.args.core n c.next_instr-at.result c.requires.core
    (in_nodes f.nodes.items c.args.core n c.requires.core c.index_mut-node.ensures.value) c.next_instr-at.ensures
    c.requires.local stands.shows

pub returns-clause-nodes : goal.returns-clause-nodes
returns-clause-nodes c =
    let f = c.args.flat.now in
    let n = c.index_mut-node.result.now in
    let is = in_nodes f.nodes.items c.args.core n c.requires.core c.index_mut-node.ensures.value in
    ap (slice_set f.nodes.items c.args.core) (c.retire-value.ensures.node
    ∙ ap (λ (x : Node). node_after f.program x x.core 0) is)
