use Rattle.std.proofs.Common.{◌∙◌, ap, refl, ◌/◌, ◌%◌}
use Rattle.std.specs.Prelude.{slice_set}
use Rattle.rtr_types.specs.declared.TheConstants.{BLOCK_WORDS, LINES}
use Rattle.flat_state.specs.declared.node.Node.{Node}
use Rattle.flat_state.proofs.NodeReads.{in_nodes}
use Rattle.flat_cores.proofs.AskingNodes.{upgrade_stands, upgrade_told}
use Rattle.flat_cores.specs.Needs.{node_upgrading}
use Rattle.flat_cores.proofs.asks.upgrade.Goals as goal

pub returns-clause-makes : goal.returns-clause-makes
returns-clause-makes c = λ s memory stands on.
    let f = c.args.flat.now in
    let n = c.index_mut-node.result.now in
    let is = in_nodes f.nodes.items c.args.core n c.requires.core c.index_mut-node.ensures.value in
    upgrade_stands f _ s memory c.args.core c.args.word n c.wait_for.new.node _ c.requires.core is c.requires.write
    c.requires.shared c.requires.block refl c.wait_for.ensures refl refl refl stands on

pub returns-clause-nodes : goal.returns-clause-nodes
returns-clause-nodes c =
    let f = c.args.flat.now in
    let n = c.index_mut-node.result.now in
    let is = in_nodes f.nodes.items c.args.core n c.requires.core c.index_mut-node.ensures.value in
    ap (slice_set f.nodes.items c.args.core) (c.wait_for.ensures
    ∙ ap (λ (x : Node). node_upgrading x (c.args.word / BLOCK_WORDS % LINES)) is)

pub returns-clause-told : goal.returns-clause-told
returns-clause-told c = λ s memory stands on.
    upgrade_told c.args.flat.now s memory c.args.core c.args.word c.requires.core stands on c.requires.write c.requires.shared
