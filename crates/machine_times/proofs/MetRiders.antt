-- Riders that meet in a move have the same last writes.
use Rattle.std.proofs.Common.{◌≡◌, ◌∙◌, ap, refl, sym, ℕ, ◌<◌, Bool, true, List, [], ◌∷◌, Option, Some, None, IsTrue}
use Rattle.std.proofs.Common.{arith, eq-eqb}
use Rattle.std.specs.Prelude.{map, reverse}
use Rattle.std.proofs.lemmas.Bool.Decides.{nat_tests}
use Rattle.access_times.specs.Riding.{Carrying}
use Rattle.rtr_types.specs.declared.TheConstants.{BLOCK_WORDS, CORES_MAX}
use Rattle.msi_cache.specs.Lines.{line_for}
use Rattle.msi_cache.specs.Messages.{block_of, request_block, response_block}
use Rattle.msi_cache.specs.Table.{Signal, Ask, Reply}
use Rattle.msi_cache.specs.declared.line.Line.{Line}
use Rattle.msi_cache.specs.declared.messages.FromHome.{FromHome}
use Rattle.msi_cache.specs.declared.messages.Request.{Request}
use Rattle.msi_cache.specs.declared.messages.Response.{Response}
use Rattle.msi_directory.specs.Blocks.{entry_at}
use Rattle.msi_directory.specs.declared.entry.Entry.{Entry}
use Rattle.msi_protocol.specs.Counting.{home_counts, line_counts, sent_counts, reply_counts}
use Rattle.msi_protocol.specs.Phases.{role, role_in, picture}
use Rattle.msi_protocol.specs.Seats.{Seat, FullBlock, put_counts}
use Rattle.msi_protocol.specs.Showing.{Shows}
use Rattle.msi_protocol.specs.Shown.{Payload, Sight, ask_with, reply_with, signal_with, line_with, entry_with}
use Rattle.msi_protocol.proofs.TablesAndSeats.{shown_asked, shown_replied}
use Rattle.msi_protocol.proofs.Shows.{messages_cons}
use Rattle.msi_memory.specs.declared.port.Mail.{Mail}
use Rattle.msi_memory.specs.declared.port.Port.{Port}
use Rattle.msi_memory.specs.Acts.{TakeMessage, can}
use Rattle.msi_memory.specs.Memories.{Memory, port_at}
use Rattle.msi_laws.specs.Holds.{MemoryHolds}
use Rattle.msi_laws.specs.Links.{of_block, line_if, port_sight}
use Rattle.msi_laws.specs.Sights.{cons_if}
use Rattle.msi_state.specs.declared.moves.Move.TheVariants.{Core as CoreMove, Request as RequestMove}
use Rattle.msi_state.specs.declared.moves.Move.TheVariants.{Response as ResponseMove, FromHome as MessageMove}
use Rattle.msi_laws.proofs.PortsKept.{there_of}
use Rattle.msi_laws.proofs.PortsAndBlocks.{HasRow, message_row}
use Rattle.machine_times.specs.Absorbing.{request_meets, response_meets, message_meets, request_meets_in}
use Rattle.machine_times.specs.Absorbing.{response_meets_in, message_meets_in, AreAlike, MeetAlike}
use Rattle.machine_times.specs.History.{Exact, NotedAccess}
use Rattle.machine_times.specs.Retirements.{noted_accesses}
use Rattle.machine_times.specs.StandsFor.{TimesParts, HasTimes, HaveTimes, slot_times, word_number}
use Rattle.machine_times.proofs.MoveTimes.{mover_below}

module _ {R : Type 0} where
  -- ---- of one block

  request_counts : (b : ℕ) (bl : FullBlock (Payload R)) (c : ℕ) (a : Ask) (rest : List Ask) (x y : R) →
      (picture (bl.seats c).phase).requests ≡ a ∷ rest →
      role_in (bl.seats c).phase ≡ role bl.stage c →
      request_meets (entry_with bl) c (ask_with b (bl.seats c).put a) ≡ Some (x, y)
      → (home_counts bl.stage ≡ true) × (line_counts (bl.seats c).phase ≡ true) × (put_counts
      (bl.seats c).phase ≡ true) × (x ≡ bl.home.rider)
      × (y ≡ (bl.seats c).put.rider)
  request_counts b bl c a rest x y asks is met = (
    grind (arith, nat_tests),
    grind (arith, nat_tests),
    grind (arith, nat_tests),
    grind (arith, nat_tests),
    grind (arith, nat_tests),
  )

  response_counts : (b : ℕ) (bl : FullBlock (Payload R)) (c : ℕ) (a : Reply) (rest : List Reply) (x y : R) →
      (picture (bl.seats c).phase).responses
      ≡ a ∷ rest → role_in (bl.seats c).phase ≡ role bl.stage c →
      response_meets (entry_with bl) c (reply_with b (bl.seats c).reply a) ≡ Some (x, y)
      → (home_counts bl.stage ≡ true) × (reply_counts (bl.seats c).phase ≡ true) × (x ≡ bl.home.rider) × (y ≡ (bl.seats
      c).reply.rider)
  response_counts b bl c a rest x y asks is met =
      (grind (arith, nat_tests), grind (arith, nat_tests), grind (arith, nat_tests), grind (arith, nat_tests))

  message_counts : (b : ℕ) (s : Seat (Payload R)) (g : Signal) (rest : List Signal) (x y : R) →
      (picture s.phase).messages ≡ g ∷ rest →
      message_meets (line_with b s) (signal_with b s.sent g) ≡ Some (x, y)
      → (sent_counts s.phase ≡ true) × (line_counts s.phase ≡ true) × (x ≡ s.sent.rider) × (y ≡ s.line.rider)
  message_counts b s g rest x y asks met = (grind arith, grind arith, grind arith, grind arith)

  pub message_alike : (parts : TimesParts R) (h : List NotedAccess) (b : ℕ) (entry : Entry R) (sights : ℕ →
      Sight R) (c : ℕ) (m : FromHome R)
      (rest : List (FromHome R)) (x y : R) → c < CORES_MAX → (sights c).messages ≡ m ∷ rest →
      Shows (HasTimes parts h b) b entry sights →
      message_meets (sights c).line m ≡ Some (x, y)
      → (slot : ℕ) → slot < BLOCK_WORDS → parts.write x slot ≡ parts.write y slot
  message_alike parts h b entry sights c m rest x y lc asks f met slot ls =
      let s : Seat (Payload R) = f.block.seats c in
      let seat = (f.has slot ls).holders.seats c lc in
      let head : map (signal_with b s.sent) (picture s.phase).messages ≡ m ∷ rest =
      ap (λ (v : Sight R). v.messages) (f.shows c lc) ∙ asks in
      let q = messages_cons b s.sent m rest (picture s.phase).messages head in
      let first : signal_with b s.sent q.0 ≡ m =
      head_is (map (signal_with b s.sent) q.1) (ap (map (signal_with b s.sent)) (sym q.2) ∙ head) in
      let here : message_meets (line_with b s) (signal_with b s.sent q.0) ≡ Some (x, y) =
      ap (λ (v : Sight R). message_meets v.line (signal_with b s.sent q.0)) (f.shows c lc)
      ∙ (ap (λ (n : FromHome R). message_meets (sights c).line n) first ∙ met) in
      let counts = message_counts b s q.0 q.1 x y q.2 here in
      ap (λ (r : R). parts.write r slot) counts.2
      ∙ ((seat.sent counts.0).write
      ∙ (sym (seat.line counts.1).write
      ∙ ap (λ (r : R). parts.write r slot) (sym counts.3)))
    where
      head_is : {n : FromHome R} (more : List (FromHome R)) → n ∷ more ≡ m ∷ rest → n ≡ m
      head_is more e = cc

-- a block is shown of whose copies' riders a word's times are exact
module _ {R : Type 0} (parts : TimesParts R) (h : List NotedAccess) (b c : ℕ) (lc : c < CORES_MAX) {entry : Entry R}
    {sights : ℕ → Sight R} (f : Shows (HasTimes parts h b) b entry sights) (slot : ℕ) (ls : slot < BLOCK_WORDS) where
  abbrev bl : FullBlock (Payload R)
  bl = f.block

  abbrev s : Seat (Payload R)
  s = bl.seats c

  exact : Exact (slot_times parts slot) h (word_number b slot) bl
  exact = f.has slot ls

  roles : role_in s.phase ≡ role bl.stage c
  roles = exact.stands.roles c lc

  -- what meets at the entry that is shown meets at the block's
  met_here : {T : Type 0} (meets : Entry R → T → Option (R × R)) {told first : T} {met : Option (R × R)} →
      told ≡ first → meets entry told ≡ met → meets (entry_with bl) first ≡ met
  met_here meets {told} {first} same is =
      ap (λ (e : Entry R). meets e first) f.entry_is ∙ (ap (meets entry) (sym same) ∙ is)

  -- the home's copy and one that a core put have the same last write, and so have it and a core's reply
  put_alike : {x y : R} →
      (home_counts bl.stage ≡ true) × (line_counts s.phase ≡ true) × (put_counts s.phase ≡ true)
      × (x ≡ bl.home.rider) × (y ≡ s.put.rider) → parts.write x slot ≡ parts.write y slot
  put_alike counts =
      ap (λ (r : R). parts.write r slot) counts.3
      ∙ ((exact.holders.home counts.0).write
      ∙ (sym ((exact.holders.seats c lc).line counts.1).write
      ∙ (ap (λ (p : Payload R). parts.write p.rider slot) (sym ((exact.holders.seats c lc).put counts.2))
      ∙ ap (λ (r : R). parts.write r slot) (sym counts.4))))

  reply_alike : {x y : R} → (home_counts bl.stage ≡ true) × (reply_counts s.phase ≡ true) × (x ≡ bl.home.rider)
      × (y ≡ s.reply.rider) → parts.write x slot ≡ parts.write y slot
  reply_alike counts =
      ap (λ (r : R). parts.write r slot) counts.2
      ∙ ((exact.holders.home counts.0).write
      ∙ (sym ((exact.holders.seats c lc).reply counts.1).write ∙ ap (λ (r : R). parts.write r slot) (sym counts.3)))

  request_alike : (request : Request R) {rest : List (Request R)} {x y : R} → (sights c).requests ≡ request ∷ rest →
      request_meets entry c request ≡ Some (x, y) → parts.write x slot ≡ parts.write y slot
  request_alike request {rest} {x} {y} asks met =
      let q = shown_asked b s request rest (ap (λ (v : Sight R). v.requests) (f.shows c lc) ∙ asks) in
      put_alike (request_counts b bl c q.0 q.1 x y q.2 roles (met_here (λ e r. request_meets e c r) q.3 met))

  response_alike : (response : Response R) {rest : List (Response R)} {x y : R} →
      (sights c).responses ≡ response ∷ rest → response_meets entry c response ≡ Some (x, y) →
      parts.write x slot ≡ parts.write y slot
  response_alike response {rest} {x} {y} asks met =
      let q = shown_replied b s response rest (ap (λ (v : Sight R). v.responses) (f.shows c lc) ∙ asks) in
      reply_alike (response_counts b bl c q.0 q.1 x y q.2 roles (met_here (λ e r. response_meets e c r) q.3 met))

-- the oldest of the messages, where it is about the block
head_shown : {T K : Type 0} (block : T → ℕ) (mail : Mail T K) (rest items : List (Mail T K)) → items ≡ mail ∷ rest →
    of_block block (block mail.item) items ≡ mail.item ∷ of_block block (block mail.item) rest
head_shown block mail rest items is =
    let b : ℕ = block mail.item in
    ap (of_block block b) is ∙ ap (λ (t : Bool). cons_if t mail.item (of_block block b rest)) (eq-eqb b b refl)

-- ---- of the memory system

module _ {R K : Type 0} (parts : TimesParts R) (carrying : Carrying K) (h : List NotedAccess) (m : Memory R K) (c : ℕ)
    (lc : c < CORES_MAX) (f : HaveTimes parts carrying h m) where
  abbrev sender : Port R K
  sender = port_at carrying m.ports c

  -- of some messages none but the oldest meets what another has
  oldest_alike : {T : Type 0} (block : T → ℕ) (items : List (Mail T K)) (met_in : List (Mail T K) → Option (R × R)) →
      met_in [] ≡ None →
      ((mail : Mail T K) (rest : List (Mail T K)) → of_block block (block mail.item) items
      ≡ mail.item ∷ of_block block (block mail.item) rest → AreAlike parts (met_in (mail ∷ rest))) →
      AreAlike parts (met_in items)
  oldest_alike block [] met_in none some = λ x y met. absurd cc
  oldest_alike block (mail ∷ rest) met_in none some =
      some mail rest (head_shown block mail rest (mail ∷ rest) refl)

  -- riders that meet as the home takes core c's oldest request,
  pub requests_alike : AreAlike parts (request_meets_in sender.requests.items parts.riding m c)
  requests_alike =
      oldest_alike request_block sender.requests.items (λ q. request_meets_in q parts.riding m c) refl
      (λ mail rest shown x y met slot ls. request_alike parts h (request_block mail.item) c lc
      (f.blocks (request_block mail.item)) slot ls mail.item shown met)

  -- or its oldest response,
  pub responses_alike : AreAlike parts (response_meets_in sender.responses.items parts.riding m c)
  responses_alike =
      oldest_alike response_block sender.responses.items (λ q. response_meets_in q parts.riding m c) refl
      (λ mail rest shown x y met slot ls. response_alike parts h (response_block mail.item) c lc
      (f.blocks (response_block mail.item)) slot ls mail.item shown met)

module _ {R K : Type 0} where
  -- and as its cache takes a message
  pub messages_alike : (parts : TimesParts R) (carrying : Carrying K) (h : List NotedAccess) (m : Memory R K) (c : ℕ) →
      c < CORES_MAX → MemoryHolds parts.riding carrying m → IsTrue (can parts.riding carrying m (TakeMessage c)) →
      HaveTimes parts carrying h m →
      AreAlike parts (message_meets_in (port_at carrying m.ports c).messages.items parts.riding carrying m c)
  messages_alike parts carrying h m c lc holds e f x y met slot ls = by p.messages.items refl met
    where
      p : Port R K
      p = port_at carrying m.ports c

      by : (q : List (Mail (FromHome R) K)) → p.messages.items ≡ q →
          message_meets_in q parts.riding carrying m c ≡ Some (x, y) → parts.write x slot ≡ parts.write y slot
      by [] is met = absurd cc
      by (mail ∷ rest) is met =
          let b : ℕ = block_of mail.item in
          let l : Line R = line_for parts.riding.fresh p.cache b in
          let row : HasRow parts.riding p mail.item =
          message_row parts.riding carrying m c mail rest (there_of parts.riding carrying m (TakeMessage c) e) is
          holds in
          message_alike parts h b (entry_at parts.riding.fresh m.home b)
          (λ d. port_sight parts.riding b (port_at carrying m.ports d)) c mail.item (of_block block_of b rest) x y lc
          (head_shown block_of mail rest p.messages.items is) (f.blocks b)
          (ap (λ (t : Bool). message_meets (line_if t b l) mail.item) (eq-eqb l.block b row.at) ∙ met) slot ls

  -- ---- of the machine

  pub meet_alike : (parts : TimesParts R) (carrying : Carrying K) → MeetAlike parts carrying
  meet_alike parts carrying list s (CoreMove c) holds e f = λ x y met slot ls. absurd cc
  meet_alike parts carrying list s (RequestMove c) holds e f =
      requests_alike parts carrying (noted_accesses (reverse list)) s.memory c
      (mover_below parts carrying s (RequestMove c) holds e) f.all
  meet_alike parts carrying list s (ResponseMove c) holds e f =
      responses_alike parts carrying (noted_accesses (reverse list)) s.memory c
      (mover_below parts carrying s (ResponseMove c) holds e) f.all
  meet_alike parts carrying list s (MessageMove c) holds e f =
      messages_alike parts carrying (noted_accesses (reverse list)) s.memory c
      (mover_below parts carrying s (MessageMove c) holds e) holds.memory e f.all
