use Rattle.std.proofs.Common.{◌∙◌, ap, refl, ◌/◌, ◌%◌}
use Rattle.std.specs.Prelude.{slice_set}
use Rattle.rtr_types.specs.declared.TheConstants.{BLOCK_WORDS, LINES}
use Rattle.msi_cache.specs.declared.line.State.{State as LineState}
use Rattle.flat_state.specs.declared.node.Ask.{Ask}
use Rattle.flat_state.proofs.NodeReads.{in_nodes}
use Rattle.flat_cores.proofs.AskingNodes.{ask_for_stands, ask_for_told}
use Rattle.flat_state.specs.declared.node.Node.{Node}
use Rattle.flat_cores.specs.Needs.{get_of, getting, node_asked, node_asking_for}
use Rattle.flat_cores.proofs.asks.ask_for.Goals as goal

pub returns-clause-makes : goal.returns-clause-makes
returns-clause-makes c = λ s memory stands on.
    let f = c.args.flat.now in
    let n = c.index_mut-node.result.now in
    let is = in_nodes f.nodes.items c.args.core n c.requires.core c.index_mut-node.ensures.value in
    ask_for_stands f _ s memory c.args.core c.args.word c.args.place n c.wait_for.new.node _ _ c.requires.core is
    c.requires.need c.requires.missing c.requires.place c.requires.block refl refl c.getting-state.ensures
    c.get_of-ask.ensures c.wait_for.ensures refl refl refl stands on

pub returns-clause-nodes : goal.returns-clause-nodes
returns-clause-nodes c =
    let f = c.args.flat.now in
    let n = c.index_mut-node.result.now in
    let is = in_nodes f.nodes.items c.args.core n c.requires.core c.index_mut-node.ensures.value in
    let i = c.args.word / BLOCK_WORDS % LINES in
    ap (slice_set f.nodes.items c.args.core) (c.wait_for.ensures
    ∙ (ap (λ (x : LineState). node_asked n i (record {
      block = c.args.word / BLOCK_WORDS;
      place = c.args.place;
      state = x;
    }) c.get_of-ask.result) c.getting-state.ensures
    ∙ (ap (λ (a : Ask). node_asked n i (record {
      block = c.args.word / BLOCK_WORDS;
      place = c.args.place;
      state = getting n.need;
    }) a) c.get_of-ask.ensures
    ∙ ap (λ (x : Node). node_asking_for x (c.args.word / BLOCK_WORDS) c.args.place i) is)))

pub returns-clause-told : goal.returns-clause-told
returns-clause-told c = λ s memory stands on.
    ask_for_told c.args.flat.now s memory c.args.core c.args.word c.requires.core stands on c.requires.need c.requires.missing
