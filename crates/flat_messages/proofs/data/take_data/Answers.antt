use Rattle.std.proofs.Common.{Bool, ◌≡◌, ◌∙◌, ap, refl, subst, sym, ℕ, ◌<◌, ◌%◌, arith, length}
use Rattle.std.specs.Prelude.{slice_index, slice_set}
use Rattle.rv_core.specs.Steps.{is_done}
use Rattle.msi_state.specs.Events.{Accesses}
use Rattle.flat_state.specs.declared.block.HomeBlock.{HomeBlock}
use Rattle.flat_state.specs.declared.message_ring.Told.TheVariants.{Data}
use Rattle.flat_state.specs.declared.node.Node.{Node}
use Rattle.flat_state.proofs.HomeBlocks.{blocks_same, in_home}
use Rattle.flat_state.proofs.NodeReads.{going_on, in_nodes, op_kept}
use Rattle.flat_cores.specs.Needs.{but_words}
use Rattle.flat_cores.proofs.Writes.{block_with, but_words_same}
use Rattle.flat_messages.specs.Heard.{left_by, told_next, word_of}
use Rattle.flat_messages.proofs.DataMoves.{data_stands, data_told, need_going}
use Rattle.flat_messages.proofs.HeardNodes.{data_heard, heard_oldest}
use Rattle.flat_messages.proofs.WordMoves.{some_message, told_head, told_lies}
use Rattle.flat_state.specs.Shows.{node_after}
use Rattle.flat_messages.proofs.data.take_data.Goals as goal

pub take-message-requires : goal.take-message-requires
take-message-requires c =
    let f = c.args.flat.now in
    let n = c.index_mut-node.result.now in
    some_message f.nodes.items c.args.core n Data
    (in_nodes f.nodes.items c.args.core n c.requires.core c.index_mut-node.ensures.value) c.requires.brings

pub index_mut-block-requires : goal.index_mut-block-requires
index_mut-block-requires c =
    let f = c.args.flat.now in
    let w = c.requires.stands in
    let n = c.index_mut-node.result.now in
    let m = c.take-message.result in
    let ok = f.home.ok.0 in
    let long : length f.home.items ≡ f.home.len = omega (arith, ok) in
    let is = in_nodes f.nodes.items c.args.core n c.requires.core c.index_mut-node.ensures.value in
    subst (λ (k : ℕ). m.place < k) long (told_lies f w.s w.memory c.args.core n m c.take-message.new.self
    c.requires.core is c.take-message.ensures w.stands)

pub next_instr-at-requires : goal.next_instr-at-requires
next_instr-at-requires c =
    let f = c.args.flat.now in
    let w = c.requires.stands in
    let n = c.index_mut-node.result.now in
    let m = c.take-message.result in
    let is = in_nodes f.nodes.items c.args.core n c.requires.core c.index_mut-node.ensures.value in
    let brings = told_head n.messages Data m c.take-message.new.self
    (ap (λ (x : Node). told_next x.messages) is ∙ c.requires.brings) c.take-message.ensures in
    going_on f w.s c.args.core w.stands.shows c.requires.core n is
    (ap (λ (x : Node). is_done x.need) (sym is) ∙ need_going f w.s w.memory c.args.core n m c.take-message.new.self
    c.requires.core is c.take-message.ensures brings w.stands)

pub retire-after-requires-clause-more : goal.retire-after-requires-clause-more
retire-after-requires-clause-more c =
    let f = c.args.flat.now in
    let w = c.requires.stands in
    let n = c.index_mut-node.result.now in
    let m = c.take-message.result in
    let is = in_nodes f.nodes.items c.args.core n c.requires.core c.index_mut-node.ensures.value in
    let brings = told_head n.messages Data m c.take-message.new.self
    (ap (λ (x : Node). told_next x.messages) is ∙ c.requires.brings) c.take-message.ensures in
    going_on f w.s c.args.core w.stands.shows c.requires.core n is
    (ap (λ (x : Node). is_done x.need) (sym is) ∙ need_going f w.s w.memory c.args.core n m c.take-message.new.self
    c.requires.core is c.take-message.ensures brings w.stands)

pub retire-after-requires-clause-op : goal.retire-after-requires-clause-op
retire-after-requires-clause-op c =
    let f = c.args.flat.now in
    let w = c.requires.stands in
    let n = c.index_mut-node.result.now in
    op_kept f w.s c.args.core w.stands.shows c.requires.core n
    (in_nodes f.nodes.items c.args.core n c.requires.core c.index_mut-node.ensures.value)

pub returns-clause-makes : goal.returns-clause-makes
returns-clause-makes c = λ s memory stands on.
    let f = c.args.flat.now in
    let n = c.index_mut-node.result.now in
    let m = c.take-message.result in
    let b = c.index_mut-block.result.now in
    let is = in_nodes f.nodes.items c.args.core n c.requires.core c.index_mut-node.ensures.value in
    let brings = told_head n.messages Data m c.take-message.new.self
    (ap (λ (x : Node). told_next x.messages) is ∙ c.requires.brings) c.take-message.ensures in
    let lies = told_lies f s memory c.args.core n m c.take-message.new.self c.requires.core is c.take-message.ensures
    stands in
    let left = c.left_by-left.result in
    let word_is = c.word_of-word.ensures in
    let before = slice_index b.words (c.word_of-word.result % 4) in
    data_stands f s memory c.args.core n m c.take-message.new.self c.requires.core is c.take-message.ensures brings
    stands _ _ c.retire-after.new.self b _ c.retire-after.result
    (in_home f.home.items m.place b lies c.index_mut-block.ensures.value)
    (data_heard n (b.block % 16) m c.take-message.new.self _ brings c.heard-state.ensures)
    (ap (λ (k : ℕ). slice_index b.words (k % 4)) word_is)
    c.retire-after.ensures.node c.retire-after.ensures.value refl
    (ap (λ (k : ℕ). slice_set f.home.items m.place (block_with b (slice_set b.words (k % 4) left))) word_is
    ∙ ap (λ (v : ℕ). slice_set f.home.items m.place (block_with b (slice_set b.words (word_of n.need % 4) v)))
    (c.left_by-left.ensures
    ∙ ap (λ (t : Bool). left_by t before c.retire-after.result) c.writes-writing.ensures))
    refl

pub returns-clause-told : goal.returns-clause-told
returns-clause-told c = λ s memory stands on.
    let f = c.args.flat.now in
    let n = c.index_mut-node.result.now in
    let m = c.take-message.result in
    let b = c.index_mut-block.result.now in
    let is = in_nodes f.nodes.items c.args.core n c.requires.core c.index_mut-node.ensures.value in
    let brings = told_head n.messages Data m c.take-message.new.self
    (ap (λ (x : Node). told_next x.messages) is ∙ c.requires.brings) c.take-message.ensures in
    let lies = told_lies f s memory c.args.core n m c.take-message.new.self c.requires.core is c.take-message.ensures
    stands in
    data_told f s memory c.args.core n m c.take-message.new.self c.requires.core is c.take-message.ensures brings
    stands b _ c.retire-after.result c.next_instr-at.result
    (in_home f.home.items m.place b lies c.index_mut-block.ensures.value)
    (ap (λ (k : ℕ). slice_index b.words (k % 4)) c.word_of-word.ensures)
    c.retire-after.ensures.value c.next_instr-at.ensures
    ∙ (λ i. Accesses (record {
      at = c.next_instr-at.result;
      word = sym c.word_of-word.ensures i;
      kind = sym c.kind_of-kind.ensures i;
      before = slice_index b.words (c.word_of-word.result % 4);
      after = c.retire-after.result;
    }))

pub returns-clause-blocks : goal.returns-clause-blocks
returns-clause-blocks c =
    let f = c.args.flat.now in
    let w = c.requires.stands in
    let n = c.index_mut-node.result.now in
    let m = c.take-message.result in
    let b = c.index_mut-block.result.now in
    let is = in_nodes f.nodes.items c.args.core n c.requires.core c.index_mut-node.ensures.value in
    blocks_same f.home.items _ m.place _ refl (ap (λ (x : HomeBlock). x.block) (in_home f.home.items m.place b
    (told_lies f w.s w.memory c.args.core n m c.take-message.new.self c.requires.core is c.take-message.ensures
    w.stands) c.index_mut-block.ensures.value))

pub returns-clause-nodes : goal.returns-clause-nodes
returns-clause-nodes c =
    let f = c.args.flat.now in
    let w = c.requires.stands in
    let n = c.index_mut-node.result.now in
    let m = c.take-message.result in
    let is = in_nodes f.nodes.items c.args.core n c.requires.core c.index_mut-node.ensures.value in
    let lies = told_lies f w.s w.memory c.args.core n m c.take-message.new.self c.requires.core is
    c.take-message.ensures w.stands in
    let b = c.index_mut-block.result.now in
    let brings = told_head n.messages Data m c.take-message.new.self
    (ap (λ (x : Node). told_next x.messages) is ∙ c.requires.brings) c.take-message.ensures in
    ap (slice_set f.nodes.items c.args.core) (c.retire-after.ensures.node
    ∙ ap (λ (x : Node). node_after f.program x x.core (slice_index b.words (c.word_of-word.result % 4)))
    (data_heard n (b.block % 16) m c.take-message.new.self _ brings c.heard-state.ensures
    ∙ heard_oldest f.home.items n _ m c.take-message.new.self b.block is c.take-message.ensures
    (ap (λ (x : HomeBlock). x.block) (in_home f.home.items m.place b lies c.index_mut-block.ensures.value))))

pub returns-clause-home : goal.returns-clause-home
returns-clause-home c =
    let f = c.args.flat.now in
    let w = c.requires.stands in
    let n = c.index_mut-node.result.now in
    let m = c.take-message.result in
    let is = in_nodes f.nodes.items c.args.core n c.requires.core c.index_mut-node.ensures.value in
    let lies = told_lies f w.s w.memory c.args.core n m c.take-message.new.self c.requires.core is
    c.take-message.ensures w.stands in
    but_words_same f.home.items _ m.place _ refl (ap but_words (in_home f.home.items m.place c.index_mut-block.result.now
    lies c.index_mut-block.ensures.value))
