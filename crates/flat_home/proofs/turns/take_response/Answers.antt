use Rattle.std.proofs.Common.{◌≡◌, ◌∙◌, ap, refl, subst, sym, ℕ, ◌<◌, ◌≤◌, arith, List, length}
use Rattle.std.proofs.lemmas.List.{length-set}
use Rattle.link_order.specs.Queue.{is_nil}
use Rattle.flat_state.specs.declared.block.HomeBlock.{HomeBlock}
use Rattle.flat_state.specs.declared.node.Node.{Node}
use Rattle.flat_state.specs.declared.reply_ring.Reply.{Reply}
use Rattle.flat_state.proofs.HomeBlocks.{blocks_same, in_home}
use Rattle.flat_state.proofs.NodeReads.{in_nodes}
use Rattle.flat_home.proofs.Responses.{hear_room, hear_stands, hear_there, reply_core, reply_lies, reply_names}
use Rattle.flat_home.proofs.Responses.{reply_row}
use Rattle.flat_home.specs.Tellings.{later_replies, reply_place}
use Rattle.flat_home.proofs.Turning.{has_turned}
use Rattle.flat_home.proofs.turns.take_response.Goals as goal

pub take-reply-requires : goal.take-reply-requires
take-reply-requires c =
    let f = c.args.flat.now in
    let n = c.index_mut-node.result.now in
    let is = in_nodes f.nodes.items c.args.core n c.requires.core c.index_mut-node.ensures.value in
    ap (λ (x : Node). is_nil x.replies) is ∙ c.requires.some

pub index_mut-block-requires : goal.index_mut-block-requires
index_mut-block-requires c =
    let f = c.args.flat.now in
    let w = c.requires.stands in
    let n = c.index_mut-node.result.now in
    let reply = c.take-reply.result in
    let ok = f.home.ok.0 in
    let long : length f.home.items ≡ f.home.len = omega (arith, ok) in
    let is = in_nodes f.nodes.items c.args.core n c.requires.core c.index_mut-node.ensures.value in
    subst (λ (k : ℕ). reply.place < k) long (reply_lies f w.s w.memory c.args.core reply c.take-reply.new.self
    c.requires.core (ap (λ (x : Node). x.replies) (sym is) ∙ c.take-reply.ensures) w.stands)

pub hear-telling-requires-clause-core : goal.hear-telling-requires-clause-core
hear-telling-requires-clause-core c =
    let f = c.args.flat.now in
    let w = c.requires.stands in
    let n = c.index_mut-node.result.now in
    let b = c.index_mut-block.result.now in
    let reply = c.take-reply.result in
    let is = in_nodes f.nodes.items c.args.core n c.requires.core c.index_mut-node.ensures.value in
    let lies = reply_lies f w.s w.memory c.args.core reply c.take-reply.new.self c.requires.core
    (ap (λ (x : Node). x.replies) (sym is) ∙ c.take-reply.ensures) w.stands in
    reply_core f w.s w.memory c.args.core reply c.take-reply.new.self n b c.requires.core is
    (in_home f.home.items reply.place b lies c.index_mut-block.ensures.value) c.take-reply.ensures w.stands

pub hear-telling-requires-clause-names : goal.hear-telling-requires-clause-names
hear-telling-requires-clause-names c =
    let f = c.args.flat.now in
    let w = c.requires.stands in
    let n = c.index_mut-node.result.now in
    let b = c.index_mut-block.result.now in
    let reply = c.take-reply.result in
    let is = in_nodes f.nodes.items c.args.core n c.requires.core c.index_mut-node.ensures.value in
    let lies = reply_lies f w.s w.memory c.args.core reply c.take-reply.new.self c.requires.core
    (ap (λ (x : Node). x.replies) (sym is) ∙ c.take-reply.ensures) w.stands in
    reply_names f w.s w.memory c.args.core reply c.take-reply.new.self n b c.requires.core is
    (in_home f.home.items reply.place b lies c.index_mut-block.ensures.value) c.take-reply.ensures w.stands

pub hear-telling-requires-clause-row : goal.hear-telling-requires-clause-row
hear-telling-requires-clause-row c =
    let f = c.args.flat.now in
    let w = c.requires.stands in
    let n = c.index_mut-node.result.now in
    let b = c.index_mut-block.result.now in
    let reply = c.take-reply.result in
    let is = in_nodes f.nodes.items c.args.core n c.requires.core c.index_mut-node.ensures.value in
    let lies = reply_lies f w.s w.memory c.args.core reply c.take-reply.new.self c.requires.core
    (ap (λ (x : Node). x.replies) (sym is) ∙ c.take-reply.ensures) w.stands in
    reply_row f w.s w.memory c.args.core reply c.take-reply.new.self n b c.requires.core is
    (in_home f.home.items reply.place b lies c.index_mut-block.ensures.value) c.take-reply.ensures w.stands

pub tell-requires-clause-few : goal.tell-requires-clause-few
tell-requires-clause-few c =
    let f = c.args.flat.now in
    let w = c.requires.stands in
    let few : length w.s.memory.ports ≤ 16 = w.stands.holds.memory.cores in
    let long = length-set f.nodes.items c.args.core (record c.index_mut-node.result.now {
      replies =
          c.take-reply.new.self;
    })
    ∙ (w.stands.shows.long ∙ sym w.stands.holds.ports_there) in
    omega (arith, few, long)

pub tell-requires-clause-there : goal.tell-requires-clause-there
tell-requires-clause-there c =
    let f = c.args.flat.now in
    let w = c.requires.stands in
    let n = c.index_mut-node.result.now in
    let b = c.index_mut-block.result.now in
    let reply = c.take-reply.result in
    let is = in_nodes f.nodes.items c.args.core n c.requires.core c.index_mut-node.ensures.value in
    let lies = reply_lies f w.s w.memory c.args.core reply c.take-reply.new.self c.requires.core
    (ap (λ (x : Node). x.replies) (sym is) ∙ c.take-reply.ensures) w.stands in
    hear_there f w.s w.memory c.args.core reply c.take-reply.new.self n b c.requires.core is
    (in_home f.home.items reply.place b lies c.index_mut-block.ensures.value) c.take-reply.ensures w.stands
    c.hear-telling.new.block c.hear-telling.result c.hear-telling.ensures

pub tell-requires-clause-room : goal.tell-requires-clause-room
tell-requires-clause-room c =
    let f = c.args.flat.now in
    let w = c.requires.stands in
    let n = c.index_mut-node.result.now in
    let b = c.index_mut-block.result.now in
    let reply = c.take-reply.result in
    let is = in_nodes f.nodes.items c.args.core n c.requires.core c.index_mut-node.ensures.value in
    let lies = reply_lies f w.s w.memory c.args.core reply c.take-reply.new.self c.requires.core
    (ap (λ (x : Node). x.replies) (sym is) ∙ c.take-reply.ensures) w.stands in
    hear_room f w.s w.memory c.args.core reply c.take-reply.new.self n b c.requires.core is
    (in_home f.home.items reply.place b lies c.index_mut-block.ensures.value) c.take-reply.ensures w.stands
    c.hear-telling.new.block c.hear-telling.result c.hear-telling.ensures

pub returns-clause-makes : goal.returns-clause-makes
returns-clause-makes c = λ s memory stands on.
    let f = c.args.flat.now in
    let n = c.index_mut-node.result.now in
    let b = c.index_mut-block.result.now in
    let reply = c.take-reply.result in
    let is = in_nodes f.nodes.items c.args.core n c.requires.core c.index_mut-node.ensures.value in
    let lies = reply_lies f s memory c.args.core reply c.take-reply.new.self c.requires.core
    (ap (λ (x : Node). x.replies) (sym is) ∙ c.take-reply.ensures) stands in
    hear_stands f s memory c.args.core reply c.take-reply.new.self n b c.requires.core is
    (in_home f.home.items reply.place b lies c.index_mut-block.ensures.value) c.take-reply.ensures stands
    c.hear-telling.new.block c.hear-telling.result c.hear-telling.ensures _ refl refl c.tell.ensures.long
    c.tell.ensures.nodes on

pub returns-clause-blocks : goal.returns-clause-blocks
returns-clause-blocks c =
    let f = c.args.flat.now in
    let w = c.requires.stands in
    let n = c.index_mut-node.result.now in
    let b = c.index_mut-block.result.now in
    let reply = c.take-reply.result in
    let is = in_nodes f.nodes.items c.args.core n c.requires.core c.index_mut-node.ensures.value in
    let lies = reply_lies f w.s w.memory c.args.core reply c.take-reply.new.self c.requires.core
    (ap (λ (x : Node). x.replies) (sym is) ∙ c.take-reply.ensures) w.stands in
    blocks_same f.home.items _ reply.place _ refl (c.hear-telling.ensures.block
    ∙ ap (λ (x : HomeBlock). x.block) (in_home f.home.items reply.place b lies c.index_mut-block.ensures.value))

pub returns-clause-turned : goal.returns-clause-turned
returns-clause-turned c =
    let f = c.args.flat.now in
    let w = c.requires.stands in
    let n = c.index_mut-node.result.now in
    let b = c.index_mut-block.result.now in
    let reply = c.take-reply.result in
    let is = in_nodes f.nodes.items c.args.core n c.requires.core c.index_mut-node.ensures.value in
    let lies = reply_lies f w.s w.memory c.args.core reply c.take-reply.new.self c.requires.core
    (ap (λ (x : Node). x.replies) (sym is) ∙ c.take-reply.ensures) w.stands in
    let found = in_home f.home.items reply.place b lies c.index_mut-block.ensures.value in
    has_turned f _ _ c.args.core reply.place (record n { replies = c.take-reply.new.self }) _ b
    c.hear-telling.new.block c.hear-telling.result lies found
    (ap (λ (l : List Reply). record n { replies = later_replies l }) (sym c.take-reply.ensures)
    ∙ ap (λ (x : Node). record x { replies = later_replies x.replies }) is) c.hear-telling.ensures
    (hear_there f w.s w.memory c.args.core reply c.take-reply.new.self n b c.requires.core is found
    c.take-reply.ensures w.stands c.hear-telling.new.block c.hear-telling.result c.hear-telling.ensures) refl
    c.tell.ensures.long c.tell.ensures.nodes

pub returns-clause-place : goal.returns-clause-place
returns-clause-place c =
    let f = c.args.flat.now in
    let n = c.index_mut-node.result.now in
    ap reply_place (sym c.take-reply.ensures) ∙ ap (λ (x : Node). reply_place x.replies)
    (in_nodes f.nodes.items c.args.core n c.requires.core c.index_mut-node.ensures.value)

pub returns-clause-told : goal.returns-clause-told
returns-clause-told c = λ s memory stands on. refl
