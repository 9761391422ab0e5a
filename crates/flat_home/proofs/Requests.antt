-- The home takes a core's request: where that can be done, and where the new flat state then stands.
use Rattle.std.proofs.Common.{◌≡◌, ◌∙◌, refl, sym, ap, subst, ℕ, ◌<◌, ◌≤◌, ◌==◌, Bool, true, false, List, [], ◌∷◌}
use Rattle.std.proofs.Common.{length, map}
use Rattle.std.proofs.Common.{arith, Option, Some}
use Rattle.std.specs.Prelude.{if◌then◌else◌, is_some, nat_lt, slice_set}
use Rattle.std.proofs.lemmas.Bool.{and_from, and_parts, lt-ltb}
use Rattle.std.proofs.lemmas.List.{length-map, length-set}
use Rattle.access_times.specs.Riding.{none_riding, none_carrying}
use Rattle.rtr_types.specs.CoreSets.{no_cores}
use Rattle.rtr_types.specs.declared.TheConstants.{CORES_MAX}
use Rattle.msi_cache.specs.Messages.{ask_of, block_of, request_block, signal}
use Rattle.msi_cache.specs.Table.{Ask as Asking}
use Rattle.msi_cache.specs.declared.messages.Request.{Request}
use Rattle.msi_directory.specs.Blocks.{entry_at}
use Rattle.msi_directory.specs.Entries.{entry_for_request, request_rider, request_words}
use Rattle.msi_directory.specs.Table.{HomeRow, is_free, request_row}
use Rattle.msi_directory.specs.declared.entry.Entry.{Entry}
use Rattle.msi_directory.specs.declared.entry.HomeAnswer.{HomeAnswer}
use Rattle.msi_directory.specs.declared.entry.Stage.{Stage}
use Rattle.msi_memory.specs.Acts.{TakeRequest, head_free, port_requested, take_request_in}
use Rattle.msi_memory.specs.Memories.{Memory, port_at}
use Rattle.msi_memory.specs.Rests.{can_request_in, hears, request_answer_in}
use Rattle.msi_memory.specs.declared.port.Mail.{Mail}
use Rattle.msi_memory.specs.declared.port.Port.{Port}
use Rattle.msi_laws.proofs.HomeMessages.{Taken, request_taken}
use Rattle.msi_laws.proofs.Ready.{memory_ready}
use Rattle.msi_laws.proofs.Sends.{request_there}
use Rattle.msi_state.specs.declared.moves.Move.TheVariants.{Request as RequestMove}
use Rattle.msi_state.specs.Runs.{plain_event, plain_step}
use Rattle.msi_state.specs.States.{PlainState, core_at}
use Rattle.msi_state.specs.Steps.{enabled}
use Rattle.machine_data.specs.Coherent.{memory_after}
use Rattle.flat_state.specs.declared.block.Held.TheVariants.{Unshared as NotHeld}
use Rattle.flat_state.specs.declared.block.HomeBlock.{HomeBlock}
use Rattle.flat_state.specs.declared.flat.Flat.{Flat}
use Rattle.flat_state.specs.declared.message_ring.Message.{Message}
use Rattle.flat_state.specs.declared.node.Node.{Node}
use Rattle.flat_state.specs.Shows.{BlockShows, NodeShows, Shows, Stands, asked_as, block_at, blocks_of, held_as}
use Rattle.flat_state.specs.Shows.{home_at}
use Rattle.flat_state.specs.Shows.{kept_message, kept_requests, node_at, seen_message, seen_request}
use Rattle.flat_state.proofs.Frames.{moved_stands}
use Rattle.flat_state.proofs.HomeBlocks.{block_is, place_within, words_same}
use Rattle.flat_state.proofs.HomeTurns.{shows_taken, told_message}
use Rattle.flat_state.proofs.NodeReads.{core_within, own_node}
use Rattle.flat_home.specs.Tellings.{IsTurned, addressee, block_free, tells, told_of, with_message}
use Rattle.flat_home.specs.declared.tellings.Telling.{Telling}
use Rattle.flat_home.proofs.Tells.{left_room, node_set}
use Rattle.flat_home.proofs.Turning.{about_is, answer_is, answer_told, entry_shown, kind_is, tells_is, to_there}

-- the only request on a link is the one that is kept
pub record OneRequest (items : List (Mail (Request (Unit {0})) (Unit {0}))) (asking : Asking) (block : ℕ)
    : Type 0 where
  pub mail : Mail (Request (Unit {0})) (Unit {0})
  pub items_are : items ≡ mail ∷ []
  pub ask : ask_of mail.item ≡ asking
  pub block_is : request_block mail.item ≡ block

one_request : (items : List (Mail (Request (Unit {0})) (Unit {0}))) (asking : Asking) (block : ℕ) →
    (asking, block) ∷ [] ≡ map seen_request items → OneRequest items asking block
one_request [] asking block seen = absurd (cc)
one_request (mail ∷ []) asking block seen =
    record {
      mail = mail;
      items_are = refl;
      ask = sym (ap (λ (l : List (Asking × ℕ)). (first l).0) seen);
      block_is = sym (ap (λ (l : List (Asking × ℕ)). (first l).1) seen);
    }
  where
    first : List (Asking × ℕ) → Asking × ℕ
    first [] = (Asking.GetS, 0)
    first (x ∷ xs) = x
one_request (mail ∷ (other ∷ rest)) asking block seen = absurd (cc)

module _ (f : Flat) (s : PlainState) (memory : ℕ → List ℕ) (c : ℕ) (within : c < length f.nodes.items)
    (asks : (node_at f.nodes.items c).asks ≡ true) (stands : Stands f s memory) where
  abbrev n : Node
  n = node_at f.nodes.items c

  abbrev b : HomeBlock
  b = home_at f.home.items n.place

  abbrev p : Port (Unit {0}) (Unit {0})
  p = port_at none_carrying s.memory.ports c

  inside : c < length s.cores
  inside = core_within f s c stands.shows within

  there : c < length s.memory.ports
  there = subst (λ (k : ℕ). c < k) (sym stands.holds.ports_there) inside

  own : NodeShows s.image (blocks_of f.home.items) n (core_at s.cores c) p
  own = own_node f s c stands.shows within

  pub asked_lies : (node_at f.nodes.items c).place < length f.home.items
  asked_lies = place_within f.home.items n.place (own.asked asks)

  pub asker_below : c < CORES_MAX
  asker_below = let few : length s.memory.ports ≤ CORES_MAX = stands.holds.memory.cores in omega (arith, few, there)

  abbrev block : ℕ
  block = block_at (blocks_of f.home.items) n.place

  only : OneRequest p.requests.items (asked_as n.ask) block
  only = one_request p.requests.items (asked_as n.ask) block
      (ap (λ (t : Bool). kept_requests (blocks_of f.home.items) t n.ask n.place) (sym asks) ∙ own.requests)

  abbrev mail : Mail (Request (Unit {0})) (Unit {0})
  mail = only.mail

  abbrev e : Entry (Unit {0})
  e = entry_at tt s.memory.home (request_block mail.item)

  shown : BlockShows b e
  shown = subst (λ (x : ℕ). BlockShows b (entry_at tt s.memory.home x))
      (sym (only.block_is ∙ block_is f.home.items n.place)) (stands.shows.home.blocks n.place asked_lies)

  pub asked_empty : (home_at f.home.items (node_at f.nodes.items c).place).held
      ≡ NotHeld →
      (home_at f.home.items (node_at f.nodes.items c).place).set ≡ no_cores
  asked_empty = shown.empty

  -- the request can be taken if its block isn't busy
  pub can_take : block_free (home_at f.home.items (node_at f.nodes.items c).place) ≡ true →
      enabled none_riding none_carrying s (RequestMove c) ≡ true
  can_take free =
      and_from _ _ (lt-ltb c (length s.memory.ports) there)
      (ap (λ (l : List (Mail (Request (Unit {0})) (Unit {0}))). head_free l none_riding s.memory.home) only.items_are
      ∙ (ap is_free (sym shown.stage) ∙ free))

  row_same : request_row e.stage c (ask_of mail.item) ≡ request_row (held_as b.held b) c (asked_as n.ask)
  row_same = ap (λ (x : Stage). request_row x c (ask_of mail.item)) (sym shown.stage)
      ∙ ap (λ (a : Asking). request_row (held_as b.held b) c a) only.ask

  -- the table has a row for it
  pub row_met : enabled none_riding none_carrying s (RequestMove c) ≡ true →
      is_some (request_row (held_as (home_at f.home.items (node_at f.nodes.items c).place).held
      (home_at f.home.items (node_at f.nodes.items c).place)) c (asked_as (node_at f.nodes.items c).ask)) ≡ true
  row_met on =
      let met : can_request_in p.requests.items none_riding s.memory c ≡ true =
      (memory_ready none_riding none_carrying s.memory stands.holds.memory).rows (TakeRequest c) on in
      ap is_some (sym row_same)
      ∙ (and_parts (nat_lt (request_block mail.item) (length s.memory.home))
      (is_some (request_row e.stage c (ask_of mail.item)))
      (ap (λ (l : List (Mail (Request (Unit {0})) (Unit {0}))). can_request_in l none_riding s.memory c)
      (sym only.items_are) ∙ met)).1

  abbrev t : Taken (Unit {0}) (Unit {0})
  t = request_taken none_riding none_carrying s.memory c mail []

  abbrev sent_entry : Entry (Unit {0})
  sent_entry = entry_for_request none_riding.absorbed e c mail.item

  module _ (b' : HomeBlock) (telling : Telling)
      (turn : IsTurned (request_row (held_as (home_at f.home.items (node_at f.nodes.items c).place).held
      (home_at f.home.items (node_at f.nodes.items c).place)) c (asked_as (node_at f.nodes.items c).ask))
      (home_at f.home.items (node_at f.nodes.items c).place) b' telling) where
    turned_here : IsTurned (request_row e.stage c (ask_of mail.item)) b b' telling
    turned_here = subst (λ (row : Option HomeRow). IsTurned row b b' telling) (sym row_same) turn

    answered : t.answer ≡ answer_told telling (request_block mail.item) sent_entry
    answered = answer_is (request_row e.stage c (ask_of mail.item)) b b' telling (request_block mail.item) sent_entry
        turned_here

    heard : (d : ℕ) → hears t.answer d ≡ tells telling d
    heard d = ap (λ (a : HomeAnswer (Unit {0})). hears a d) answered
        ∙ tells_is telling (request_block mail.item) sent_entry d

    -- the one core that is told is there
    pub told_there : (to : ℕ) → addressee telling ≡ Some to → to < length f.nodes.items
    told_there to is =
        subst (λ (k : ℕ). to < k) (stands.holds.ports_there ∙ sym stands.shows.long)
        (to_there telling (request_block mail.item) sent_entry (length s.memory.ports) to
        (λ k m at. request_there none_riding none_carrying s.memory c mail.item stands.holds.memory there k m
        (ap (λ (a : HomeAnswer (Unit {0})). a.send) answered ∙ at)) is)

    -- each core that is told has room for it
    pub told_room : enabled none_riding none_carrying s (RequestMove c) ≡ true → (d : ℕ) →
        d < length f.nodes.items → tells telling d ≡ true → length (node_at f.nodes.items d).messages < 16
    told_room on d lies tells_it =
        let there_d : d < length s.memory.ports = subst (λ (k : ℕ). d < k)
        (stands.shows.long ∙ sym stands.holds.ports_there) lies in
        let q = port_at none_carrying s.memory.ports d in
        let fits : length q.messages.items < q.messages.room =
        (memory_ready none_riding none_carrying s.memory stands.holds.memory).rooms (TakeRequest c) on d there_d
        (ap (λ (l : List (Mail (Request (Unit {0})) (Unit {0}))). hears (request_answer_in l none_riding s.memory c) d)
        only.items_are ∙ (heard d ∙ tells_it)) in
        let room = (stands.holds.memory.ports d there_d).messages_room in
        let long = sym (length-map (node_at f.nodes.items d).messages
        (kept_message (blocks_of f.home.items)))
        ∙ (ap length (own_node f s d stands.shows lies).messages ∙ length-map q.messages.items seen_message) in
        omega (arith, fits, room, long)

    abbrev left : Node
    left = record n { asks = false }

    abbrev kept : Message
    kept = record { place = n.place; told = told_of telling }

    left_shows : NodeShows s.image (blocks_of f.home.items) left (core_at s.cores c) (port_requested p [])
    left_shows = record {
      core_is = own.core_is;
      need = own.need;
      op = own.op;
      lines = own.lines;
      requests = refl;
      replies = own.replies;
      messages = own.messages;
      placed = own.placed;
      asked = λ (x : false ≡ true). absurd (cc);
      replied = own.replied;
      told = own.told;
    }

    pub request_stands : (f' : Flat) → f'.program ≡ f.program →
        f'.home.items ≡ slice_set f.home.items (node_at f.nodes.items c).place b' →
        length f'.nodes.items ≡ length f.nodes.items →
        ((d : ℕ) → d < length f.nodes.items → node_at f'.nodes.items d
        ≡ with_message (tells telling d) (node_at f.nodes.items c).place (told_of telling)
        (if d == c then record (node_at f.nodes.items c) { asks = false } else node_at f.nodes.items d)) →
        enabled none_riding none_carrying s (RequestMove c) ≡ true →
        Stands f' (plain_step s (RequestMove c)) (memory_after (plain_event s (RequestMove c)) memory)
    request_stands f' program home long nodes on =
        moved_stands f f' s memory (RequestMove c) on stands
        (subst (λ (m : Memory (Unit {0}) (Unit {0})). Shows none_riding none_carrying f' (record s { memory = m }))
        (sym (ap (λ (l : List (Mail (Request (Unit {0})) (Unit {0}))). take_request_in l none_riding none_carrying
        s.memory c) only.items_are))
        (shows_taken none_riding none_carrying f f' s c n.place t left b' kept inside stands.holds.ports_there program
        long asked_lies (only.block_is ∙ block_is f.home.items n.place) home turn.block
        (entry_shown none_riding (request_row e.stage c (ask_of mail.item)) b b' telling e
        (request_words mail.item e.words) (request_rider mail.item e.rider) turned_here)
        left_shows
        (λ d lies. nodes d lies ∙ ap (λ (h : Bool). with_message h n.place (told_of telling)
        (if d == c then left else node_at f.nodes.items d)) (sym (heard d)))
        (kind_is telling (request_block mail.item) sent_entry
        ∙ ap (λ (a : HomeAnswer (Unit {0})). signal (told_message a.send (request_block mail.item))) (sym answered))
        (own.asked asks)
        (sym only.block_is ∙ (about_is telling (request_block mail.item) sent_entry
        ∙ ap (λ (a : HomeAnswer (Unit {0})). block_of (told_message a.send (request_block mail.item))) (sym answered)))
        (request_there none_riding none_carrying s.memory c mail.item stands.holds.memory there)
        stands.shows))
        (words_same s.image f.home.items f'.home.items n.place b' memory home turn.block turn.words stands.words)

-- ---- what the turn calls, of a node and an entry that were read

module _ (f : Flat) (s : PlainState) (memory : ℕ → List ℕ) (c : ℕ) (n0 : Node) (b0 : HomeBlock)
    (within : c < length f.nodes.items) (is : n0 ≡ node_at f.nodes.items c)
    (found : b0 ≡ home_at f.home.items n0.place) (asks : (node_at f.nodes.items c).asks ≡ true)
    (stands : Stands f s memory) where
  entry_is : b0 ≡ home_at f.home.items (node_at f.nodes.items c).place
  entry_is = found ∙ ap (λ (x : Node). home_at f.home.items x.place) is

  abbrev row_for : Node → HomeBlock → Option HomeRow
  row_for x y = request_row (held_as y.held y) c (asked_as x.ask)

  pub call_row : enabled none_riding none_carrying s (RequestMove c) ≡ true →
      is_some (request_row (held_as b0.held b0) c (asked_as n0.ask)) ≡ true
  call_row on =
      ap (λ (x : Node). is_some (row_for x b0)) is
      ∙ (ap (λ (y : HomeBlock). is_some (row_for (node_at f.nodes.items c) y)) entry_is
      ∙ row_met f s memory c within asks stands on)

  pub call_empty : b0.held ≡ NotHeld → b0.set ≡ no_cores
  call_empty = subst (λ (y : HomeBlock). y.held ≡ NotHeld → y.set ≡ no_cores) (sym entry_is)
      (asked_empty f s memory c within asks stands)

  module _ (b' : HomeBlock) (telling : Telling)
      (turn : IsTurned (request_row (held_as b0.held b0) c (asked_as n0.ask)) b0 b' telling) where
    turn_here : IsTurned (row_for (node_at f.nodes.items c) (home_at f.home.items (node_at f.nodes.items c).place))
        (home_at f.home.items (node_at f.nodes.items c).place) b' telling
    turn_here = subst (λ (y : HomeBlock). IsTurned (row_for (node_at f.nodes.items c) y) y b' telling) entry_is
        (subst (λ (x : Node). IsTurned (row_for x b0) b0 b' telling) is turn)

    pub call_there : (to : ℕ) → addressee telling ≡ Some to →
        to < length (slice_set f.nodes.items c (record n0 { asks = false }))
    call_there to at =
        subst (λ (k : ℕ). to < k) (sym (length-set f.nodes.items c (record n0 { asks = false })))
        (told_there f s memory c within asks stands b' telling turn_here to at)

    pub call_room : enabled none_riding none_carrying s (RequestMove c) ≡ true → (d : ℕ) →
        d < length (slice_set f.nodes.items c (record n0 { asks = false })) → tells telling d ≡ true →
        length (node_at (slice_set f.nodes.items c (record n0 { asks = false })) d).messages < 16
    call_room on d lies tells_it =
        left_room f.nodes.items c (record n0 { asks = false }) d within (ap (λ (x : Node). x.messages) is)
        (told_room f s memory c within asks stands b' telling turn_here on d
        (subst (λ (k : ℕ). d < k) (length-set f.nodes.items c (record n0 { asks = false })) lies) tells_it)

    pub call_stands : (f' : Flat) → f'.program ≡ f.program →
        f'.home.items ≡ slice_set f.home.items n0.place b' →
        length f'.nodes.items ≡ length (slice_set f.nodes.items c (record n0 { asks = false })) →
        ((d : ℕ) → d < length (slice_set f.nodes.items c (record n0 { asks = false })) → node_at f'.nodes.items d
        ≡ with_message (tells telling d) n0.place (told_of telling)
        (node_at (slice_set f.nodes.items c (record n0 { asks = false })) d)) →
        enabled none_riding none_carrying s (RequestMove c) ≡ true →
        Stands f' (plain_step s (RequestMove c)) (memory_after (plain_event s (RequestMove c)) memory)
    call_stands f' program home long nodes on =
        request_stands f s memory c within asks stands b' telling turn_here f' program
        (home ∙ ap (λ (x : Node). slice_set f.home.items x.place b') is)
        (long ∙ length-set f.nodes.items c (record n0 { asks = false }))
        (λ d lies. nodes d (subst (λ (k : ℕ). d < k) (sym (length-set f.nodes.items c (record n0 { asks = false })))
        lies)
        ∙ (ap (λ (x : Node). with_message (tells telling d) n0.place (told_of telling) x)
        (node_set f.nodes.items c (record n0 { asks = false }) d within)
        ∙ ap (λ (x : Node). with_message (tells telling d) x.place (told_of telling)
        (if d == c then record x { asks = false } else node_at f.nodes.items d)) is))
        on
