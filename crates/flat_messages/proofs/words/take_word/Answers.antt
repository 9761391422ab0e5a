use Rattle.std.proofs.Common.{◌≡◌, ◌∙◌, ap, refl, subst, ℕ, ◌<◌, ◌%◌, arith, length}
use Rattle.std.specs.Prelude.{slice_set}
use Rattle.flat_state.specs.declared.block.HomeBlock.{HomeBlock}
use Rattle.flat_state.proofs.HomeBlocks.{in_home}
use Rattle.flat_state.proofs.NodeReads.{in_nodes}
use Rattle.flat_messages.proofs.HeardNodes.{heard_oldest, word_heard}
use Rattle.flat_messages.proofs.WordMoves.{reply_room, some_message, told_lies, word_stands, word_told}
use Rattle.flat_messages.proofs.words.take_word.Goals as goal

pub take-message-requires : goal.take-message-requires
take-message-requires c =
    let f = c.args.flat.now in
    let n = c.index_mut-node.result.now in
    some_message f.nodes.items c.args.core n c.args.told
    (in_nodes f.nodes.items c.args.core n c.requires.core c.index_mut-node.ensures.value) c.requires.told

pub index-requires : goal.index-requires
index-requires c =
    let f = c.args.flat.now in
    let w = c.requires.stands in
    let n = c.index_mut-node.result.now in
    let m = c.take-message.result in
    let ok = f.home.ok.0 in
    let long : length f.home.items ≡ f.home.len = omega (arith, ok) in
    let is = in_nodes f.nodes.items c.args.core n c.requires.core c.index_mut-node.ensures.value in
    subst (λ (k : ℕ). m.place < k) long (told_lies f w.s w.memory c.args.core n m c.take-message.new.self
    c.requires.core is c.take-message.ensures w.stands)

pub answer-requires : goal.answer-requires
answer-requires c =
    let f = c.args.flat.now in
    let w = c.requires.stands in
    let n = c.index_mut-node.result.now in
    let is = in_nodes f.nodes.items c.args.core n c.requires.core c.index_mut-node.ensures.value in
    reply_room f w.s w.memory c.args.core n c.take-message.result c.take-message.new.self c.requires.core is
    c.take-message.ensures w.stands

pub returns-clause-makes : goal.returns-clause-makes
returns-clause-makes c = λ s memory stands on.
    let f = c.args.flat.now in
    let n = c.index_mut-node.result.now in
    let m = c.take-message.result in
    let b = c.index.result.now in
    let is = in_nodes f.nodes.items c.args.core n c.requires.core c.index_mut-node.ensures.value in
    let lies = told_lies f s memory c.args.core n m c.take-message.new.self c.requires.core is c.take-message.ensures
    stands in
    word_stands f s memory c.args.core n m c.take-message.new.self c.requires.core is c.take-message.ensures stands _ _
    c.args.told b.block c.requires.told c.requires.word
    (ap (λ (x : HomeBlock). x.block) (in_home f.home.items m.place b lies c.index.ensures))
    (word_heard n (b.block % 16) m c.take-message.new.self _ _ c.heard-state.ensures c.answer.ensures) refl refl refl

pub returns-clause-nodes : goal.returns-clause-nodes
returns-clause-nodes c =
    let f = c.args.flat.now in
    let w = c.requires.stands in
    let n = c.index_mut-node.result.now in
    let m = c.take-message.result in
    let is = in_nodes f.nodes.items c.args.core n c.requires.core c.index_mut-node.ensures.value in
    let lies = told_lies f w.s w.memory c.args.core n m c.take-message.new.self c.requires.core is
    c.take-message.ensures w.stands in
    let b = c.index.result.now in
    ap (slice_set f.nodes.items c.args.core)
    (word_heard n (b.block % 16) m c.take-message.new.self _ _ c.heard-state.ensures c.answer.ensures
    ∙ heard_oldest f.home.items n _ m c.take-message.new.self b.block is c.take-message.ensures
    (ap (λ (x : HomeBlock). x.block) (in_home f.home.items m.place b lies c.index.ensures)))

pub returns-clause-told : goal.returns-clause-told
returns-clause-told c = λ s memory stands on.
    let f = c.args.flat.now in
    let n = c.index_mut-node.result.now in
    word_told f s memory c.args.core n c.take-message.result c.take-message.new.self c.requires.core
    (in_nodes f.nodes.items c.args.core n c.requires.core c.index_mut-node.ensures.value) c.take-message.ensures stands
    c.args.told c.requires.told c.requires.word
