use Rattle.std.proofs.Common.{◌≡◌, ◌∙◌, ap, refl, subst, sym, ℕ, ◌<◌, ◌≤◌, arith, false, length}
use Rattle.std.proofs.lemmas.List.{length-set}
use Rattle.flat_state.specs.declared.block.HomeBlock.{HomeBlock}
use Rattle.flat_state.specs.declared.node.Node.{Node}
use Rattle.flat_state.proofs.HomeBlocks.{blocks_same, in_home}
use Rattle.flat_state.proofs.NodeReads.{in_nodes}
use Rattle.flat_home.proofs.Requests.{asked_lies, asker_below, call_empty, call_room, call_row, call_stands, call_there}
use Rattle.flat_home.proofs.Requests.{can_take}
use Rattle.flat_home.proofs.Turning.{has_turned}
use Rattle.flat_home.proofs.turns.take_request.Goals as goal

pub index_mut-block-requires : goal.index_mut-block-requires
index_mut-block-requires c =
    let f = c.args.flat.now in
    let w = c.requires.stands in
    let n = c.index_mut-node.result.now in
    let ok = f.home.ok.0 in
    let long : length f.home.items ≡ f.home.len = omega (arith, ok) in
    let is = in_nodes f.nodes.items c.args.core n c.requires.core c.index_mut-node.ensures.value in
    subst (λ (k : ℕ). n.place < k) long (subst (λ (x : Node). x.place < length f.home.items) (sym is)
    (asked_lies f w.s w.memory c.args.core c.requires.core c.requires.asks w.stands))

pub serve-telling-requires-clause-core : goal.serve-telling-requires-clause-core
serve-telling-requires-clause-core c =
    let w = c.requires.stands in
    asker_below c.args.flat.now w.s w.memory c.args.core c.requires.core c.requires.asks w.stands

pub serve-telling-requires-clause-row : goal.serve-telling-requires-clause-row
serve-telling-requires-clause-row c =
    let f = c.args.flat.now in
    let w = c.requires.stands in
    let n = c.index_mut-node.result.now in
    let b = c.index_mut-block.result.now in
    let is = in_nodes f.nodes.items c.args.core n c.requires.core c.index_mut-node.ensures.value in
    let lies = subst (λ (x : Node). x.place < length f.home.items) (sym is)
    (asked_lies f w.s w.memory c.args.core c.requires.core c.requires.asks w.stands) in
    call_row f w.s w.memory c.args.core n b c.requires.core is
    (in_home f.home.items n.place b lies c.index_mut-block.ensures.value) c.requires.asks w.stands
    (can_take f w.s w.memory c.args.core c.requires.core c.requires.asks w.stands c.requires.free)

pub serve-telling-requires-clause-empty : goal.serve-telling-requires-clause-empty
serve-telling-requires-clause-empty c =
    let f = c.args.flat.now in
    let w = c.requires.stands in
    let n = c.index_mut-node.result.now in
    let b = c.index_mut-block.result.now in
    let is = in_nodes f.nodes.items c.args.core n c.requires.core c.index_mut-node.ensures.value in
    let lies = subst (λ (x : Node). x.place < length f.home.items) (sym is)
    (asked_lies f w.s w.memory c.args.core c.requires.core c.requires.asks w.stands) in
    call_empty f w.s w.memory c.args.core n b c.requires.core is
    (in_home f.home.items n.place b lies c.index_mut-block.ensures.value) c.requires.asks w.stands

pub tell-requires-clause-few : goal.tell-requires-clause-few
tell-requires-clause-few c =
    let f = c.args.flat.now in
    let w = c.requires.stands in
    let few : length w.s.memory.ports ≤ 16 = w.stands.holds.memory.cores in
    let long = length-set f.nodes.items c.args.core (record c.index_mut-node.result.now { asks = false })
    ∙ (w.stands.shows.long ∙ sym w.stands.holds.ports_there) in
    omega (arith, few, long)

pub tell-requires-clause-there : goal.tell-requires-clause-there
tell-requires-clause-there c =
    let f = c.args.flat.now in
    let w = c.requires.stands in
    let n = c.index_mut-node.result.now in
    let b = c.index_mut-block.result.now in
    let is = in_nodes f.nodes.items c.args.core n c.requires.core c.index_mut-node.ensures.value in
    let lies = subst (λ (x : Node). x.place < length f.home.items) (sym is)
    (asked_lies f w.s w.memory c.args.core c.requires.core c.requires.asks w.stands) in
    call_there f w.s w.memory c.args.core n b c.requires.core is
    (in_home f.home.items n.place b lies c.index_mut-block.ensures.value) c.requires.asks w.stands
    c.serve-telling.new.block c.serve-telling.result c.serve-telling.ensures

pub tell-requires-clause-room : goal.tell-requires-clause-room
tell-requires-clause-room c =
    let f = c.args.flat.now in
    let w = c.requires.stands in
    let n = c.index_mut-node.result.now in
    let b = c.index_mut-block.result.now in
    let is = in_nodes f.nodes.items c.args.core n c.requires.core c.index_mut-node.ensures.value in
    let lies = subst (λ (x : Node). x.place < length f.home.items) (sym is)
    (asked_lies f w.s w.memory c.args.core c.requires.core c.requires.asks w.stands) in
    call_room f w.s w.memory c.args.core n b c.requires.core is
    (in_home f.home.items n.place b lies c.index_mut-block.ensures.value) c.requires.asks w.stands
    c.serve-telling.new.block c.serve-telling.result c.serve-telling.ensures
    (can_take f w.s w.memory c.args.core c.requires.core c.requires.asks w.stands c.requires.free)

pub returns-clause-makes : goal.returns-clause-makes
returns-clause-makes c = λ s memory stands on.
    let f = c.args.flat.now in
    let n = c.index_mut-node.result.now in
    let b = c.index_mut-block.result.now in
    let is = in_nodes f.nodes.items c.args.core n c.requires.core c.index_mut-node.ensures.value in
    let lies = subst (λ (x : Node). x.place < length f.home.items) (sym is)
    (asked_lies f s memory c.args.core c.requires.core c.requires.asks stands) in
    call_stands f s memory c.args.core n b c.requires.core is
    (in_home f.home.items n.place b lies c.index_mut-block.ensures.value) c.requires.asks stands
    c.serve-telling.new.block c.serve-telling.result c.serve-telling.ensures _ refl refl c.tell.ensures.long
    c.tell.ensures.nodes on

pub returns-clause-blocks : goal.returns-clause-blocks
returns-clause-blocks c =
    let f = c.args.flat.now in
    let w = c.requires.stands in
    let n = c.index_mut-node.result.now in
    let b = c.index_mut-block.result.now in
    let is = in_nodes f.nodes.items c.args.core n c.requires.core c.index_mut-node.ensures.value in
    let lies = subst (λ (x : Node). x.place < length f.home.items) (sym is)
    (asked_lies f w.s w.memory c.args.core c.requires.core c.requires.asks w.stands) in
    blocks_same f.home.items _ n.place _ refl (c.serve-telling.ensures.block
    ∙ ap (λ (x : HomeBlock). x.block) (in_home f.home.items n.place b lies c.index_mut-block.ensures.value))

pub returns-clause-turned : goal.returns-clause-turned
returns-clause-turned c =
    let f = c.args.flat.now in
    let w = c.requires.stands in
    let n = c.index_mut-node.result.now in
    let b = c.index_mut-block.result.now in
    let is = in_nodes f.nodes.items c.args.core n c.requires.core c.index_mut-node.ensures.value in
    let lies = subst (λ (x : Node). x.place < length f.home.items) (sym is)
    (asked_lies f w.s w.memory c.args.core c.requires.core c.requires.asks w.stands) in
    let found = in_home f.home.items n.place b lies c.index_mut-block.ensures.value in
    has_turned f _ _ c.args.core n.place (record n { asks = false }) _ b c.serve-telling.new.block
    c.serve-telling.result lies found (ap (λ (x : Node). record x { asks = false }) is) c.serve-telling.ensures
    (call_there f w.s w.memory c.args.core n b c.requires.core is found c.requires.asks w.stands
    c.serve-telling.new.block c.serve-telling.result c.serve-telling.ensures) refl c.tell.ensures.long
    c.tell.ensures.nodes

pub returns-clause-place : goal.returns-clause-place
returns-clause-place c =
    let f = c.args.flat.now in
    let n = c.index_mut-node.result.now in
    ap (λ (x : Node). x.place)
    (in_nodes f.nodes.items c.args.core n c.requires.core c.index_mut-node.ensures.value)

pub returns-clause-told : goal.returns-clause-told
returns-clause-told c = λ s memory stands on. refl
