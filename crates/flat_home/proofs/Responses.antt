-- The home takes a core's oldest response: where that can be done, and where the new flat state then stands.
use Rattle.std.proofs.Common.{◌≡◌, ◌∙◌, refl, sym, ap, subst, ℕ, ◌<◌, ◌≤◌, ◌==◌, Bool, true, List, [], ◌∷◌, length, map}
use Rattle.std.proofs.Common.{arith, Option, Some}
use Rattle.std.specs.Prelude.{if◌then◌else◌, is_some, nat_lt, not, slice_set}
use Rattle.std.proofs.lemmas.Bool.{and_from, and_parts, lt-ltb, ltb-true}
use Rattle.std.proofs.lemmas.Bool.Decides.{nat_tests}
use Rattle.std.proofs.lemmas.List.{length-map, length-set}
use Rattle.access_times.specs.Riding.{none_riding, none_carrying}
use Rattle.link_order.specs.Queue.{is_nil}
use Rattle.rtr_types.proofs.Lists.{cons-head, cons-rest}
use Rattle.rtr_types.specs.declared.TheConstants.{CORES_MAX}
use Rattle.msi_cache.specs.Messages.{block_of, reply_of, response_block, signal}
use Rattle.msi_cache.specs.Table.{Reply as Replying}
use Rattle.msi_cache.specs.declared.messages.Response.{Response}
use Rattle.msi_directory.specs.Blocks.{entry_at, no_entry}
use Rattle.msi_directory.specs.Entries.{entry_for_response, response_rider, response_words}
use Rattle.msi_directory.specs.Table.{HomeRow, response_row}
use Rattle.msi_directory.specs.declared.entry.Entry.{Entry}
use Rattle.msi_directory.specs.declared.entry.HomeAnswer.{HomeAnswer}
use Rattle.msi_directory.specs.declared.entry.Stage.{Stage}
use Rattle.msi_directory.specs.declared.entry.Stage.TheVariants.{Acks, Data, Owned, Shared, Unshared}
use Rattle.msi_memory.specs.Acts.{TakeResponse, port_responded, take_response_in}
use Rattle.msi_memory.specs.Memories.{Memory, port_at}
use Rattle.msi_memory.specs.Rests.{can_respond_in, hears, names_below, response_answer_in}
use Rattle.msi_memory.specs.declared.port.Mail.{Mail}
use Rattle.msi_memory.specs.declared.port.Port.{Port}
use Rattle.msi_laws.proofs.HomeMessages.{Taken, response_taken}
use Rattle.msi_laws.proofs.Ready.{memory_ready}
use Rattle.msi_laws.proofs.Sends.{response_there}
use Rattle.msi_state.specs.declared.moves.Move.TheVariants.{Response as ResponseMove}
use Rattle.msi_state.specs.Runs.{plain_event, plain_step}
use Rattle.msi_state.specs.States.{PlainState, core_at}
use Rattle.msi_state.specs.Steps.{enabled}
use Rattle.machine_data.specs.Coherent.{memory_after}
use Rattle.flat_state.specs.declared.block.HomeBlock.{HomeBlock}
use Rattle.flat_state.specs.declared.flat.Flat.{Flat}
use Rattle.flat_state.specs.declared.message_ring.Message.{Message}
use Rattle.flat_state.specs.declared.node.Node.{Node}
use Rattle.flat_state.specs.declared.reply_ring.Reply.{Reply}
use Rattle.flat_state.specs.Shows.{BlockShows, NodeShows, Shows, Stands, are_replied_placed, block_at, blocks_of}
use Rattle.flat_state.specs.Shows.{held_as}
use Rattle.flat_state.specs.Shows.{home_at, kept_message, kept_reply, node_at, replied_as, seen_message, seen_reply}
use Rattle.flat_state.proofs.Frames.{moved_stands}
use Rattle.flat_state.proofs.HomeBlocks.{block_is, place_within, words_same}
use Rattle.flat_state.proofs.HomeTurns.{shows_taken, told_message}
use Rattle.flat_state.proofs.NodeReads.{core_within, own_node}
use Rattle.flat_home.specs.Tellings.{IsTurned, addressee, tells, told_of, with_message}
use Rattle.flat_home.specs.declared.tellings.Telling.{Telling}
use Rattle.flat_home.proofs.Tells.{left_room, node_set}
use Rattle.flat_home.proofs.Turning.{about_is, answer_is, answer_told, entry_shown, kind_is, tells_is, to_there}

-- the oldest response on a link is the one that is kept
pub record OldestReply (items : List (Mail (Response (Unit {0})) (Unit {0}))) (blocks : List ℕ) (reply : Reply)
    (rest : List Reply) : Type 0 where
  pub mail : Mail (Response (Unit {0})) (Unit {0})
  pub later : List (Mail (Response (Unit {0})) (Unit {0}))
  pub items_are : items ≡ mail ∷ later
  pub kind : reply_of mail.item ≡ replied_as reply.replied
  pub block_is : response_block mail.item ≡ block_at blocks reply.place
  pub left : map (kept_reply blocks) rest ≡ map seen_reply later

oldest_reply : (items : List (Mail (Response (Unit {0})) (Unit {0}))) (blocks : List ℕ) (reply : Reply)
    (rest : List Reply) → map (kept_reply blocks) (reply ∷ rest) ≡ map seen_reply items →
    OldestReply items blocks reply rest
oldest_reply [] blocks reply rest seen = absurd (cc)
oldest_reply (mail ∷ later) blocks reply rest seen =
    let same = cons-head _ _ _ _ seen in
    record {
      mail = mail;
      later = later;
      items_are = refl;
      kind = sym (ap (λ (x : Replying × ℕ). x.0) same);
      block_is = sym (ap (λ (x : Replying × ℕ). x.1) same);
      left = cons-rest _ _ _ _ seen;
    }

named_below : (stage : Stage) (n m : ℕ) → n ≤ m → names_below stage n ≡ true → names_below stage m ≡ true
named_below Unshared n m few named = refl
named_below (Shared by) n m few named = refl
named_below (Owned owner) n m few named = grind (arith, nat_tests)
named_below (Acks awaited requester) n m few named = grind (arith, nat_tests)
named_below (Data giver requester share) n m few named = grind (arith, nat_tests)

module _ (f : Flat) (s : PlainState) (memory : ℕ → List ℕ) (c : ℕ) (reply : Reply) (rest : List Reply)
    (within : c < length f.nodes.items) (oldest : (node_at f.nodes.items c).replies ≡ reply ∷ rest)
    (stands : Stands f s memory) where
  abbrev n : Node
  n = node_at f.nodes.items c

  abbrev b : HomeBlock
  b = home_at f.home.items reply.place

  abbrev blocks : List ℕ
  blocks = blocks_of f.home.items

  abbrev p : Port (Unit {0}) (Unit {0})
  p = port_at none_carrying s.memory.ports c

  inside : c < length s.cores
  inside = core_within f s c stands.shows within

  there : c < length s.memory.ports
  there = subst (λ (k : ℕ). c < k) (sym stands.holds.ports_there) inside

  own : NodeShows s.image blocks n (core_at s.cores c) p
  own = own_node f s c stands.shows within

  placed : (nat_lt reply.place (length blocks) ≡ true) × (are_replied_placed blocks rest ≡ true)
  placed = and_parts _ _ (ap (are_replied_placed blocks) (sym oldest) ∙ own.replied)

  pub reply_lies : reply.place < length f.home.items
  reply_lies = place_within f.home.items reply.place (ltb-true reply.place (length blocks) placed.0)

  pub replier_below : c < CORES_MAX
  replier_below = let few : length s.memory.ports ≤ CORES_MAX = stands.holds.memory.cores in omega (arith, few, there)

  first : OldestReply p.responses.items blocks reply rest
  first = oldest_reply p.responses.items blocks reply rest
      (ap (λ (l : List Reply). map (kept_reply blocks) l) (sym oldest) ∙ own.replies)

  abbrev mail : Mail (Response (Unit {0})) (Unit {0})
  mail = first.mail

  abbrev e : Entry (Unit {0})
  e = entry_at tt s.memory.home (response_block mail.item)

  shown : BlockShows b e
  shown = subst (λ (x : ℕ). BlockShows b (entry_at tt s.memory.home x))
      (sym (first.block_is ∙ block_is f.home.items reply.place)) (stands.shows.home.blocks reply.place reply_lies)

  -- there is one, so it can be taken
  pub can_hear : enabled none_riding none_carrying s (ResponseMove c) ≡ true
  can_hear =
      and_from _ _ (lt-ltb c (length s.memory.ports) there)
      (ap (λ (l : List (Mail (Response (Unit {0})) (Unit {0}))). not (is_nil l)) first.items_are)

  row_same : response_row e.stage c (reply_of mail.item) ≡ response_row (held_as b.held b) c (replied_as reply.replied)
  row_same = ap (λ (x : Stage). response_row x c (reply_of mail.item)) (sym shown.stage)
      ∙ ap (λ (a : Replying). response_row (held_as b.held b) c a) first.kind

  -- the table has a row for it
  pub reply_met : is_some (response_row (held_as (home_at f.home.items reply.place).held
      (home_at f.home.items reply.place)) c (replied_as reply.replied)) ≡ true
  reply_met =
      let met : can_respond_in p.responses.items none_riding s.memory c ≡ true =
      (memory_ready none_riding none_carrying s.memory stands.holds.memory).rows (TakeResponse c) can_hear in
      ap is_some (sym row_same)
      ∙ (and_parts (nat_lt (response_block mail.item) (length s.memory.home))
      (is_some (response_row e.stage c (reply_of mail.item)))
      (ap (λ (l : List (Mail (Response (Unit {0})) (Unit {0}))). can_respond_in l none_riding s.memory c)
      (sym first.items_are) ∙ met)).1

  -- whom its block's entry names is a core
  pub reply_named : names_below (held_as (home_at f.home.items reply.place).held (home_at f.home.items reply.place))
      CORES_MAX ≡ true
  reply_named =
      named_below (held_as b.held b) (length s.memory.ports) CORES_MAX stands.holds.memory.cores
      (ap (λ (x : Stage). names_below x (length s.memory.ports)) shown.stage
      ∙ (memory_ready none_riding none_carrying s.memory stands.holds.memory).names (response_block mail.item)
      (no_entry tt) (subst (λ (k : ℕ). k < length s.memory.home) (sym (first.block_is ∙ block_is f.home.items
      reply.place)) (stands.shows.home.within reply.place reply_lies)))

  abbrev t : Taken (Unit {0}) (Unit {0})
  t = response_taken none_riding none_carrying s.memory c mail first.later

  abbrev sent_entry : Entry (Unit {0})
  sent_entry = entry_for_response none_riding.absorbed e c mail.item

  module _ (b' : HomeBlock) (telling : Telling)
      (turn : IsTurned (response_row (held_as (home_at f.home.items reply.place).held
      (home_at f.home.items reply.place)) c (replied_as reply.replied)) (home_at f.home.items reply.place) b' telling)
    where
      turned_here : IsTurned (response_row e.stage c (reply_of mail.item)) b b' telling
      turned_here = subst (λ (row : Option HomeRow). IsTurned row b b' telling) (sym row_same) turn

      answered : t.answer ≡ answer_told telling (response_block mail.item) sent_entry
      answered = answer_is (response_row e.stage c (reply_of mail.item)) b b' telling (response_block mail.item)
          sent_entry turned_here

      heard : (d : ℕ) → hears t.answer d ≡ tells telling d
      heard d = ap (λ (a : HomeAnswer (Unit {0})). hears a d) answered
          ∙ tells_is telling (response_block mail.item) sent_entry d

      -- the one core that is told is there
      pub reply_there : (to : ℕ) → addressee telling ≡ Some to → to < length f.nodes.items
      reply_there to is =
          subst (λ (k : ℕ). to < k) (stands.holds.ports_there ∙ sym stands.shows.long)
          (to_there telling (response_block mail.item) sent_entry (length s.memory.ports) to
          (λ k m at. response_there none_riding none_carrying s.memory c mail.item stands.holds.memory k m
          (ap (λ (a : HomeAnswer (Unit {0})). a.send) answered ∙ at)) is)

      -- each core that is told has room for it
      pub reply_room : (d : ℕ) → d < length f.nodes.items → tells telling d ≡ true →
          length (node_at f.nodes.items d).messages < 16
      reply_room d lies tells_it =
          let there_d : d < length s.memory.ports = subst (λ (k : ℕ). d < k)
          (stands.shows.long ∙ sym stands.holds.ports_there) lies in
          let q = port_at none_carrying s.memory.ports d in
          let fits : length q.messages.items < q.messages.room =
          (memory_ready none_riding none_carrying s.memory stands.holds.memory).rooms (TakeResponse c) can_hear d
          there_d
          (ap (λ (l : List (Mail (Response (Unit {0})) (Unit {0}))). hears (response_answer_in l none_riding s.memory c)
          d)
          first.items_are ∙ (heard d ∙ tells_it)) in
          let room = (stands.holds.memory.ports d there_d).messages_room in
          let long = sym (length-map (node_at f.nodes.items d).messages (kept_message blocks))
          ∙ (ap length (own_node f s d stands.shows lies).messages ∙ length-map q.messages.items seen_message) in
          omega (arith, fits, room, long)

      abbrev left : Node
      left = record n { replies = rest }

      abbrev kept : Message
      kept = record { place = reply.place; told = told_of telling }

      left_shows : NodeShows s.image blocks left (core_at s.cores c) (port_responded p first.later)
      left_shows = record {
        core_is = own.core_is;
        need = own.need;
        op = own.op;
        lines = own.lines;
        requests = own.requests;
        replies = first.left;
        messages = own.messages;
        placed = own.placed;
        asked = own.asked;
        replied = placed.1;
        told = own.told;
      }

      pub response_stands : (f' : Flat) → f'.program ≡ f.program →
          f'.home.items ≡ slice_set f.home.items reply.place b' →
          length f'.nodes.items ≡ length f.nodes.items →
          ((d : ℕ) → d < length f.nodes.items → node_at f'.nodes.items d
          ≡ with_message (tells telling d) reply.place (told_of telling)
          (if d == c then record (node_at f.nodes.items c) { replies = rest } else node_at f.nodes.items d)) →
          enabled none_riding none_carrying s (ResponseMove c) ≡ true →
          Stands f' (plain_step s (ResponseMove c)) (memory_after (plain_event s (ResponseMove c)) memory)
      response_stands f' program home long nodes on =
          moved_stands f f' s memory (ResponseMove c) on stands
          (subst (λ (m : Memory (Unit {0}) (Unit {0})). Shows none_riding none_carrying f' (record s { memory = m }))
          (sym (ap (λ (l : List (Mail (Response (Unit {0})) (Unit {0}))). take_response_in l none_riding none_carrying
          s.memory c) first.items_are))
          (shows_taken none_riding none_carrying f f' s c reply.place t left b' kept inside stands.holds.ports_there
          program long reply_lies (first.block_is ∙ block_is f.home.items reply.place) home turn.block
          (entry_shown none_riding (response_row e.stage c (reply_of mail.item)) b b' telling e
          (response_words mail.item e.words) (response_rider mail.item) turned_here)
          left_shows
          (λ d lies. nodes d lies ∙ ap (λ (h : Bool). with_message h reply.place (told_of telling)
          (if d == c then left else node_at f.nodes.items d)) (sym (heard d)))
          (kind_is telling (response_block mail.item) sent_entry
          ∙ ap (λ (a : HomeAnswer (Unit {0})). signal (told_message a.send (response_block mail.item))) (sym answered))
          (ltb-true reply.place (length blocks) placed.0)
          (sym first.block_is ∙ (about_is telling (response_block mail.item) sent_entry
          ∙ ap (λ (a : HomeAnswer (Unit {0})). block_of (told_message a.send (response_block mail.item))) (sym
          answered)))
          (response_there none_riding none_carrying s.memory c mail.item stands.holds.memory)
          stands.shows))
          (words_same s.image f.home.items f'.home.items reply.place b' memory home turn.block turn.words stands.words)

-- ---- what the turn calls, of a node and an entry that were read

module _ (f : Flat) (s : PlainState) (memory : ℕ → List ℕ) (c : ℕ) (reply : Reply) (rest : List Reply) (n0 : Node)
    (b0 : HomeBlock) (within : c < length f.nodes.items) (is : n0 ≡ node_at f.nodes.items c)
    (found : b0 ≡ home_at f.home.items reply.place) (oldest : n0.replies ≡ reply ∷ rest)
    (stands : Stands f s memory) where
  first_there : (node_at f.nodes.items c).replies ≡ reply ∷ rest
  first_there = ap (λ (x : Node). x.replies) (sym is) ∙ oldest

  pub reply_placed : reply.place < length f.home.items
  reply_placed = reply_lies f s memory c reply rest within first_there stands

  pub reply_core : c < CORES_MAX
  reply_core = replier_below f s memory c reply rest within first_there stands

  pub reply_names : names_below (held_as b0.held b0) CORES_MAX ≡ true
  reply_names = ap (λ (y : HomeBlock). names_below (held_as y.held y) CORES_MAX) found
      ∙ reply_named f s memory c reply rest within first_there stands

  pub reply_row : is_some (response_row (held_as b0.held b0) c (replied_as reply.replied)) ≡ true
  reply_row = ap (λ (y : HomeBlock). is_some (response_row (held_as y.held y) c (replied_as reply.replied))) found
      ∙ reply_met f s memory c reply rest within first_there stands

  module _ (b' : HomeBlock) (telling : Telling)
      (turn : IsTurned (response_row (held_as b0.held b0) c (replied_as reply.replied)) b0 b' telling) where
    turn_here : IsTurned (response_row (held_as (home_at f.home.items reply.place).held
        (home_at f.home.items reply.place)) c (replied_as reply.replied)) (home_at f.home.items reply.place) b' telling
    turn_here = subst (λ (y : HomeBlock). IsTurned (response_row (held_as y.held y) c (replied_as reply.replied)) y b'
        telling) found turn

    pub hear_there : (to : ℕ) → addressee telling ≡ Some to →
        to < length (slice_set f.nodes.items c (record n0 { replies = rest }))
    hear_there to at =
        subst (λ (k : ℕ). to < k) (sym (length-set f.nodes.items c (record n0 { replies = rest })))
        (reply_there f s memory c reply rest within first_there stands b' telling turn_here to at)

    pub hear_room : (d : ℕ) →
        d < length (slice_set f.nodes.items c (record n0 { replies = rest })) → tells telling d ≡ true →
        length (node_at (slice_set f.nodes.items c (record n0 { replies = rest })) d).messages < 16
    hear_room d lies tells_it =
        left_room f.nodes.items c (record n0 { replies = rest }) d within (ap (λ (x : Node). x.messages) is)
        (reply_room f s memory c reply rest within first_there stands b' telling turn_here d
        (subst (λ (k : ℕ). d < k) (length-set f.nodes.items c (record n0 { replies = rest })) lies) tells_it)

    pub hear_stands : (f' : Flat) → f'.program ≡ f.program →
        f'.home.items ≡ slice_set f.home.items reply.place b' →
        length f'.nodes.items ≡ length (slice_set f.nodes.items c (record n0 { replies = rest })) →
        ((d : ℕ) → d < length (slice_set f.nodes.items c (record n0 { replies = rest })) → node_at f'.nodes.items d
        ≡ with_message (tells telling d) reply.place (told_of telling)
        (node_at (slice_set f.nodes.items c (record n0 { replies = rest })) d)) →
        enabled none_riding none_carrying s (ResponseMove c) ≡ true →
        Stands f' (plain_step s (ResponseMove c)) (memory_after (plain_event s (ResponseMove c)) memory)
    hear_stands f' program home long nodes on =
        response_stands f s memory c reply rest within first_there stands b' telling turn_here f' program home
        (long ∙ length-set f.nodes.items c (record n0 { replies = rest }))
        (λ d lies. nodes d (subst (λ (k : ℕ). d < k) (sym (length-set f.nodes.items c (record n0 { replies = rest })))
        lies)
        ∙ (ap (λ (x : Node). with_message (tells telling d) reply.place (told_of telling) x)
        (node_set f.nodes.items c (record n0 { replies = rest }) d within)
        ∙ ap (λ (x : Node). with_message (tells telling d) reply.place (told_of telling)
        (if d == c then record x { replies = rest } else node_at f.nodes.items d)) is))
        on
