use Rattle.std.proofs.Common.{◌≡◌, ◌∙◌, ap, refl, subst, sym, ℕ, ◌/◌, ◌%◌, ◌<◌, arith, length}
use Rattle.std.specs.Prelude.{slice_index, slice_set}
use Rattle.rtr_types.specs.declared.TheConstants.{BLOCK_WORDS, LINES}
use Rattle.rtr_types.specs.declared.access.Kind.{Kind}
use Rattle.msi_state.specs.Events.{Accesses}
use Rattle.flat_state.specs.declared.block.HomeBlock.{HomeBlock}
use Rattle.flat_state.specs.declared.node.Node.{Node}
use Rattle.flat_state.specs.Shows.{line_at, node_after}
use Rattle.flat_cores.specs.Needs.{but_words, kind_of}
use Rattle.flat_state.proofs.HomeBlocks.{blocks_same, in_home}
use Rattle.flat_state.proofs.NodeReads.{going_on, in_nodes, op_kept}
use Rattle.flat_cores.proofs.Writes.{but_words_same, write_going, write_needed, write_placed, write_stands}
use Rattle.flat_cores.proofs.Writes.{write_told}
use Rattle.flat_cores.proofs.retire.retire_write.Goals as goal

pub index_mut-block-requires : goal.index_mut-block-requires
index_mut-block-requires c =
    let f = c.args.flat.now in
    let w = c.requires.stands in
    let n = c.index_mut-node.result.now in
    let ok = f.home.ok.0 in
    let long : length f.home.items ≡ f.home.len = omega (arith, ok) in
    subst (λ (k : ℕ). (line_at n (c.args.word / BLOCK_WORDS % LINES)).place < k) long
    (write_placed f w.s w.memory c.args.core c.args.word n c.requires.core
    (in_nodes f.nodes.items c.args.core n c.requires.core c.index_mut-node.ensures.value) c.requires.hit w.stands)

pub next_instr-at-requires : goal.next_instr-at-requires
next_instr-at-requires c =
    let f = c.args.flat.now in
    let w = c.requires.stands in
    let n = c.index_mut-node.result.now in
    going_on f w.s c.args.core w.stands.shows c.requires.core n
    (in_nodes f.nodes.items c.args.core n c.requires.core c.index_mut-node.ensures.value)
    (write_going _ _ c.requires.write)

pub retire-after-requires-clause-more : goal.retire-after-requires-clause-more
retire-after-requires-clause-more c =
    let f = c.args.flat.now in
    let w = c.requires.stands in
    let n = c.index_mut-node.result.now in
    going_on f w.s c.args.core w.stands.shows c.requires.core n
    (in_nodes f.nodes.items c.args.core n c.requires.core c.index_mut-node.ensures.value)
    (write_going _ _ c.requires.write)

pub retire-after-requires-clause-op : goal.retire-after-requires-clause-op
retire-after-requires-clause-op c =
    let f = c.args.flat.now in
    let w = c.requires.stands in
    let n = c.index_mut-node.result.now in
    op_kept f w.s c.args.core w.stands.shows c.requires.core n
    (in_nodes f.nodes.items c.args.core n c.requires.core c.index_mut-node.ensures.value)

pub returns-clause-makes : goal.returns-clause-makes
returns-clause-makes c = λ s memory stands on.
    let f = c.args.flat.now in
    let n = c.index_mut-node.result.now in
    let is = in_nodes f.nodes.items c.args.core n c.requires.core c.index_mut-node.ensures.value in
    let b = c.index_mut-block.result.now in
    let found = in_home f.home.items (line_at n (c.args.word / BLOCK_WORDS % LINES)).place b
    (write_placed f s memory c.args.core c.args.word n c.requires.core is c.requires.hit stands)
    c.index_mut-block.ensures.value in
    let need = write_needed _ _ c.requires.write in
    write_stands f s memory c.args.core c.args.word _ c.retire-after.result (kind_of _) n b need.1
    c.requires.core is c.retire-after.ensures.value found refl need.0 c.requires.hit stands _ c.retire-after.new.self
    c.retire-after.ensures.node refl refl refl on

pub returns-clause-told : goal.returns-clause-told
returns-clause-told c = λ s memory stands on.
    let f = c.args.flat.now in
    let n = c.index_mut-node.result.now in
    let is = in_nodes f.nodes.items c.args.core n c.requires.core c.index_mut-node.ensures.value in
    let b = c.index_mut-block.result.now in
    let found = in_home f.home.items (line_at n (c.args.word / BLOCK_WORDS % LINES)).place b
    (write_placed f s memory c.args.core c.args.word n c.requires.core is c.requires.hit stands)
    c.index_mut-block.ensures.value in
    let need = write_needed _ _ c.requires.write in
    write_told f s memory c.args.core c.args.word _ c.retire-after.result (kind_of _) n b need.1
    c.requires.core is c.retire-after.ensures.value found refl need.0 c.requires.hit stands c.next_instr-at.result
    c.next_instr-at.ensures
    ∙ ap (λ (k : Kind). Accesses (record {
      at = c.next_instr-at.result;
      word = c.args.word;
      kind = k;
      before = slice_index b.words (c.args.word % BLOCK_WORDS);
      after = c.retire-after.result;
    })) (sym (c.kind_of-kind.ensures ∙ ap (λ (x : Node). kind_of x.need) is))

pub returns-clause-blocks : goal.returns-clause-blocks
returns-clause-blocks c =
    let f = c.args.flat.now in
    let w = c.requires.stands in
    let n = c.index_mut-node.result.now in
    let is = in_nodes f.nodes.items c.args.core n c.requires.core c.index_mut-node.ensures.value in
    let b = c.index_mut-block.result.now in
    blocks_same f.home.items _ (line_at n (c.args.word / BLOCK_WORDS % LINES)).place _ refl
    (ap (λ (x : HomeBlock). x.block) (in_home f.home.items (line_at n (c.args.word / BLOCK_WORDS % LINES)).place b
    (write_placed f w.s w.memory c.args.core c.args.word n c.requires.core is c.requires.hit w.stands)
    c.index_mut-block.ensures.value))

pub returns-clause-nodes : goal.returns-clause-nodes
returns-clause-nodes c =
    let f = c.args.flat.now in
    let n = c.index_mut-node.result.now in
    let is = in_nodes f.nodes.items c.args.core n c.requires.core c.index_mut-node.ensures.value in
    ap (slice_set f.nodes.items c.args.core) (c.retire-after.ensures.node
    ∙ ap (λ (x : Node). node_after f.program x x.core (slice_index c.index_mut-block.result.now.words
    (c.args.word % BLOCK_WORDS))) is)

pub returns-clause-home : goal.returns-clause-home
returns-clause-home c =
    let f = c.args.flat.now in
    let w = c.requires.stands in
    let n = c.index_mut-node.result.now in
    let is = in_nodes f.nodes.items c.args.core n c.requires.core c.index_mut-node.ensures.value in
    let b = c.index_mut-block.result.now in
    but_words_same f.home.items _ (line_at n (c.args.word / BLOCK_WORDS % LINES)).place _ refl
    (ap but_words (in_home f.home.items (line_at n (c.args.word / BLOCK_WORDS % LINES)).place b
    (write_placed f w.s w.memory c.args.core c.args.word n c.requires.core is c.requires.hit w.stands)
    c.index_mut-block.ensures.value))
