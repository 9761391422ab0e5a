-- A core takes a message without data: where that can be done, and where the new flat state then stands.
use Rattle.std.proofs.Common.{◌≡◌, ◌∙◌, refl, sym, ap, subst, ℕ, ◌<◌, ◌%◌, Bool, true, false, List, [], ◌∷◌, length}
use Rattle.std.proofs.Common.{map}
use Rattle.std.proofs.Common.{arith, Some}
use Rattle.std.specs.Prelude.{if◌then◌else◌, nat_lt, not, slice_set}
use Rattle.std.proofs.lemmas.Bool.{and_from, and_parts, lt-ltb, ltb-true}
use Rattle.std.proofs.lemmas.List.{length-map}
use Rattle.access_times.specs.Riding.{none_riding, none_carrying}
use Rattle.link_order.specs.Queue.{is_nil}
use Rattle.rtr_types.proofs.Lists.{some_same}
use Rattle.rtr_types.specs.declared.TheConstants.{LINES}
use Rattle.rv_core.specs.declared.core_state.Core.{Core}
use Rattle.msi_cache.specs.Messages.{signal}
use Rattle.msi_cache.specs.Table.{Signal}
use Rattle.msi_cache.specs.declared.messages.FromHome.{FromHome}
use Rattle.msi_cache.specs.declared.messages.FromHome.TheVariants.{BlockData, FwdGetM, FwdGetS, Inv as Invalidate}
use Rattle.msi_cache.specs.declared.messages.FromHome.TheVariants.{PutAck}
use Rattle.msi_memory.specs.Acts.{TakeMessage, data_next, is_data as has_data}
use Rattle.msi_memory.specs.Memories.{port_at}
use Rattle.msi_memory.specs.declared.port.Mail.{Mail}
use Rattle.msi_memory.specs.declared.port.Port.{Port}
use Rattle.msi_laws.proofs.PortsAndBlocks.{message_row}
use Rattle.msi_laws.proofs.Ready.{memory_ready}
use Rattle.msi_state.specs.declared.moves.Move.TheVariants.{FromHome as MessageMove}
use Rattle.msi_state.specs.Events.{Event, Nothing, event_working, port_taken}
use Rattle.msi_state.specs.Runs.{plain_event, plain_step}
use Rattle.msi_state.specs.States.{PlainState, core_at}
use Rattle.msi_state.specs.Steps.{enabled}
use Rattle.machine_data.specs.Coherent.{memory_after}
use Rattle.machine_invariant.proofs.StepFrame.{core_after, port_told}
use Rattle.flat_state.specs.declared.block.HomeBlock.{HomeBlock}
use Rattle.flat_state.specs.declared.flat.Flat.{Flat}
use Rattle.flat_state.specs.declared.message_ring.Message.{Message}
use Rattle.flat_state.specs.declared.message_ring.Told.{Told}
use Rattle.flat_state.specs.declared.message_ring.Told.TheVariants.{Data, Ack, Inv, FwdS, FwdM}
use Rattle.flat_state.specs.declared.node.Node.{Node}
use Rattle.flat_state.specs.Shows.{HomeShows, NodeShows, Stands, WordsKept, are_told_placed, blocks_of, home_at}
use Rattle.flat_state.specs.Shows.{kept_message, kept_reply, node_at, seen_reply, told_as}
use Rattle.flat_state.proofs.Frames.{moved_stands, node_same, shows_message}
use Rattle.flat_state.proofs.HomeBlocks.{block_is, place_within}
use Rattle.flat_state.proofs.NodeReads.{core_within, own_node}
use Rattle.flat_messages.specs.Heard.{is_data, node_heard, told_next}
use Rattle.flat_messages.proofs.HeardNodes.{OldestMessage, heard_shows, oldest_message}

told_some : (messages : List Message) (told : Told) → told_next messages ≡ Some told → is_nil messages ≡ false
told_some [] told is = absurd (cc)
told_some (m ∷ later) told is = refl

pub told_head : (messages : List Message) (told : Told) (m : Message) (later : List Message) →
    told_next messages ≡ Some told → messages ≡ m ∷ later → m.told ≡ told
told_head messages told m later is oldest = some_same _ _ (ap told_next (sym oldest) ∙ is)

pub some_message : (nodes : List Node) (c : ℕ) (n : Node) (told : Told) → n ≡ node_at nodes c →
    told_next (node_at nodes c).messages ≡ Some told → is_nil n.messages ≡ false
some_message nodes c n told is next = ap (λ (x : Node). is_nil x.messages) is
    ∙ told_some (node_at nodes c).messages told next

module _ {R : Type 0} where
  -- whether a message has data is seen by its kind
  data_kind : (m : FromHome R) (told : Told) → signal m ≡ told_as told → has_data m ≡ is_data told
  data_kind m told kind = kinds (signal m) m refl ∙ (ap data_signal kind ∙ told_kinds told)
    where
      data_signal : Signal → Bool
      data_signal Signal.BlockData = true
      data_signal _ = false

      kinds : (k : Signal) (x : FromHome R) → signal x ≡ k → has_data x ≡ data_signal k
      kinds k (BlockData block words rider) is = ap data_signal is
      kinds k (FwdGetS block) is = ap data_signal is
      kinds k (FwdGetM block) is = ap data_signal is
      kinds k (Invalidate block) is = ap data_signal is
      kinds k (PutAck block) is = ap data_signal is

      told_kinds : (t : Told) → data_signal (told_as t) ≡ is_data t
      told_kinds Data = refl
      told_kinds Ack = refl
      told_kinds Inv = refl
      told_kinds FwdS = refl
      told_kinds FwdM = refl

module _ (f : Flat) (s : PlainState) (memory : ℕ → List ℕ) (c : ℕ) (n : Node) (m : Message) (later : List Message)
    (within : c < length f.nodes.items) (is : n ≡ node_at f.nodes.items c) (oldest : n.messages ≡ m ∷ later)
    (stands : Stands f s memory) where
  abbrev blocks : List ℕ
  blocks = blocks_of f.home.items

  abbrev core : Core
  core = core_at s.cores c

  abbrev p : Port (Unit {0}) (Unit {0})
  p = port_at none_carrying s.memory.ports c

  inside : c < length s.cores
  inside = core_within f s c stands.shows within

  pub port_inside : c < length s.memory.ports
  port_inside = subst (λ (k : ℕ). c < k) (sym stands.holds.ports_there) inside

  pub own_shows : NodeShows s.image (blocks_of f.home.items) n (core_at s.cores c)
      (port_at none_carrying s.memory.ports c)
  own_shows = subst (λ (x : Node). NodeShows s.image (blocks_of f.home.items) x (core_at s.cores c)
      (port_at none_carrying s.memory.ports c)) (sym is) (own_node f s c stands.shows within)

  pub told_lies : m.place < length f.home.items
  told_lies = place_within f.home.items m.place (ltb-true m.place (length blocks)
      (and_parts (nat_lt m.place (length blocks)) (are_told_placed blocks later)
      (ap (are_told_placed blocks) (sym oldest) ∙ own_shows.told)).0)

  pub first_mail : OldestMessage (port_at none_carrying s.memory.ports c).messages.items (blocks_of f.home.items) m
      later
  first_mail = oldest_message p.messages.items blocks m later
      (ap (map (kept_message blocks)) (sym oldest) ∙ own_shows.messages)

  -- there is one, so it can be taken
  pub can_hear : enabled none_riding none_carrying s (MessageMove c) ≡ true
  can_hear =
      and_from _ _ (lt-ltb c (length s.memory.ports) port_inside)
      (ap (λ (l : List (Mail (FromHome (Unit {0})) (Unit {0}))). not (is_nil l)) first_mail.items_are)

  -- there is room for an answer
  pub reply_room : length n.replies < 16
  reply_room =
      let fits : length p.responses.items < p.responses.room =
      (memory_ready none_riding none_carrying s.memory stands.holds.memory).rooms (TakeMessage c) can_hear in
      let room = (stands.holds.memory.ports c port_inside).responses_room in
      let long = sym (length-map n.replies (kept_reply blocks)) ∙ (ap length own_shows.replies
      ∙ length-map p.responses.items seen_reply) in
      omega (arith, fits, room, long)

  -- the node shows its port once this took the message
  pub taken_shows : (n' : Node) (block : ℕ) → block ≡ (home_at f.home.items m.place).block →
      n' ≡ node_heard n (block % LINES) m later →
      NodeShows s.image (blocks_of f.home.items) n' (core_at s.cores c)
      (port_taken none_riding none_carrying (port_at none_carrying s.memory.ports c))
  taken_shows n' block at new =
      heard_shows none_riding none_carrying s.image blocks n n' core p m later block
      (at ∙ sym (block_is f.home.items m.place)) oldest new (stands.holds.memory.ports c port_inside).all_lines
      (λ mail rest items. let seen = message_row none_riding none_carrying s.memory c mail rest port_inside items
      stands.holds.memory in (seen.at, seen.there)) own_shows

  data_there : data_next p.messages.items ≡ is_data m.told
  data_there = ap (λ (l : List (Mail (FromHome (Unit {0})) (Unit {0}))). data_next l) first_mail.items_are
      ∙ data_kind first_mail.mail.item m.told first_mail.kind

  pub heard_event : plain_event s (MessageMove c)
      ≡ (if is_data m.told then event_working s.image none_riding (core_at s.cores c)
      (port_taken none_riding none_carrying (port_at none_carrying s.memory.ports c)) else Nothing)
  heard_event = ap (λ (t : Bool). if t then event_working s.image none_riding core
      (port_taken none_riding none_carrying p) else Nothing) data_there

  pub data_comes : m.told ≡ Data → data_next (port_at none_carrying s.memory.ports c).messages.items ≡ true
  data_comes brings = data_there ∙ ap is_data brings

  -- without data nothing is told
  pub word_told : (told : Told) → told_next (node_at f.nodes.items c).messages ≡ Some told → is_data told ≡ false →
      plain_event s (MessageMove c) ≡ Nothing
  word_told told next word =
      heard_event ∙ ap (λ (t : Bool). if t then event_working s.image none_riding core
      (port_taken none_riding none_carrying p) else Nothing)
      (ap is_data (told_head n.messages told m later (ap (λ (x : Node). told_next x.messages) is ∙ next) oldest) ∙ word)

  pub word_stands : (f' : Flat) (n' : Node) (told : Told) (block : ℕ) →
      told_next (node_at f.nodes.items c).messages ≡ Some told → is_data told ≡ false →
      block ≡ (home_at f.home.items m.place).block → n' ≡ node_heard n (block % LINES) m later →
      f'.program ≡ f.program → f'.home.items ≡ f.home.items → f'.nodes.items ≡ slice_set f.nodes.items c n' →
      Stands f' (plain_step s (MessageMove c)) (memory_after (plain_event s (MessageMove c)) memory)
  word_stands f' n' told block next word at new program home nodes =
      moved_stands f f' s memory (MessageMove c) can_hear stands
      (shows_message none_riding none_carrying tt f f' s c n' inside stands.holds.ports_there program (ap blocks_of
      home)
      (subst (λ (l : List HomeBlock). HomeShows tt l s.memory.home) (sym home) stands.shows.home) nodes own_now
      stands.shows)
      (subst (λ (e : Event). WordsKept s.image f'.home.items (memory_after e memory)) (sym nothing)
      (subst (λ (l : List HomeBlock). WordsKept s.image l memory) (sym home) stands.words))
    where
      nothing : plain_event s (MessageMove c) ≡ Nothing
      nothing = word_told told next word

      own_now : NodeShows s.image blocks n' (core_after s.image (plain_event s (MessageMove c)) core)
          (port_told none_riding none_carrying tt (plain_event s (MessageMove c))
          (port_taken none_riding none_carrying p))
      own_now = node_same _ _ _ _ _ _ _ _ _ refl refl (ap (λ (e : Event). core_after s.image e core) nothing)
          (ap (λ (e : Event). port_told none_riding none_carrying tt e (port_taken none_riding none_carrying p))
          nothing)
          (taken_shows n' block at new)
