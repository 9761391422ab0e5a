-- While a port waits some message can be taken, and where none waits nothing is under way.
use Rattle.std.proofs.Common.{◌≡◌, ◌∙◌, ap, refl, sym, subst, ℕ, ◌<◌, ◌≤◌, ◌%◌, Bool, true, false, not, nat_lt, ◌||◌}
use Rattle.std.proofs.Common.{List, [], ◌∷◌, length, arith}
use Rattle.std.proofs.Common.{inl, inr, ◌⊎◌, ◌&&◌}
use Rattle.std.specs.Prelude.{if◌then◌else◌, slice_index_or}
use Rattle.std.proofs.lemmas.List.{get_or_default}
use Rattle.std.proofs.lemmas.List.Sums.{AllPass-from_list_all, list_all-from_AllPass}
use Rattle.std.proofs.lemmas.Bool.{and_parts, cases_lt, eq-eqb, lt-ltb, and_from}
use Rattle.access_times.specs.Riding.{Riding, Carrying}
use Rattle.link_order.specs.Queue.{is_nil}
use Rattle.rtr_types.specs.declared.TheConstants.{LINES}
use Rattle.msi_cache.specs.declared.line.Line.{Line}
use Rattle.msi_cache.specs.declared.line.State.TheVariants.{I}
use Rattle.msi_cache.specs.declared.messages.Request.{Request}
use Rattle.msi_cache.specs.declared.messages.Response.{Response}
use Rattle.msi_cache.specs.declared.messages.FromHome.{FromHome}
use Rattle.msi_cache.specs.Table.{is_transient}
use Rattle.msi_cache.specs.Lines.{line_for, waits, empty_line}
use Rattle.msi_cache.specs.Messages.{request_block, response_block, block_of, signal}
use Rattle.msi_directory.specs.declared.entry.Stage.{Stage}
use Rattle.msi_directory.specs.Blocks.{entry_at}
use Rattle.msi_directory.specs.Table.{is_free}
use Rattle.msi_protocol.specs.Block.{View}
use Rattle.msi_protocol.specs.Phases.{Phase, picture, role, role_in}
use Rattle.msi_protocol.specs.Promises.{is_moving}
use Rattle.msi_protocol.proofs.Keeps.{busy_moves}
use Rattle.msi_memory.specs.declared.port.Mail.{Mail}
use Rattle.msi_memory.specs.declared.port.Port.{Port}
use Rattle.msi_memory.specs.Memories.{Memory, port_at, no_port}
use Rattle.msi_memory.specs.Acts.{Act, Want, Touch, Retire, TakeRequest, TakeResponse, TakeMessage, can, can_at}
use Rattle.msi_memory.specs.Acts.{head_free, port_of}
use Rattle.msi_memory.specs.Waiting.{ends_wait}
use Rattle.msi_laws.specs.Sights.{line_state, asks_of, replies_of, signals_of}
use Rattle.msi_laws.specs.Holds.{MemoryHolds, port_view, block_in}
use Rattle.msi_laws.specs.Moving.{CanTake, MovingLaw, QuietLaw, are_links_empty, is_take, links_empty}
use Rattle.msi_directory.specs.declared.entry.Entry.{Entry}
use Rattle.msi_laws.proofs.KindsShown.{blocks_hold}
use Rattle.msi_laws.proofs.MoveNumbers.{not_enabled}
use Rattle.msi_laws.proofs.Lines.{waits_some, waits_none, transient_there}
use Rattle.msi_laws.proofs.PortsAndBlocks.{past_view, view_waits, stands_at}
use Rattle.msi_laws.proofs.Pigeons.{Item, owns, others, own_here, other_here}
use Rattle.msi_laws.proofs.MessageWants.{items_of, answers_of, Wants, awaiting, own_wants, others_owe}
use Rattle.msi_laws.proofs.MessageWants.{owed_to}
use Rattle.msi_laws.proofs.Spaces.{request_waits}

-- one that waits with nothing under way is one for which the home is at work
phase_waits : (p : Phase) → is_transient (picture p).line ≡ true → is_nil (picture p).messages ≡ true →
    is_nil (picture p).responses ≡ true →
    is_nil (picture p).requests ≡ true → awaiting (role_in p) ≡ true
phase_waits p w m r q = grind arith

awaits_busy : (stage : Stage) (d : ℕ) → awaiting (role stage d) ≡ true → is_free stage ≡ false
awaits_busy stage d e = grind arith

-- an act that takes a message is one of three
pub by_take : {R : Type 0} (P : Act R → Type 0) → ((c : ℕ) → P (TakeRequest c)) → ((c : ℕ) → P (TakeResponse c)) →
    ((c : ℕ) → P (TakeMessage c)) → (act : Act R) → is_take act ≡ true → P act
by_take P request response message (Want c block kind) e = absurd (cc)
by_take P request response message (Touch c block slot kind value rider) e = absurd (cc)
by_take P request response message (Retire c at) e = absurd (cc)
by_take P request response message (TakeRequest c) e = request c
by_take P request response message (TakeResponse c) e = response c
by_take P request response message (TakeMessage c) e = message c

nothing_left : {X : Type 0} (xs : List X) → ((x : X) (rest : List X) → xs ≡ x ∷ rest → ⊥) → xs ≡ []
nothing_left [] none = refl
nothing_left (x ∷ rest) none = absurd (none x rest refl)

not_nil : {X : Type 0} (xs : List X) → is_nil xs ≡ false → not (is_nil xs) ≡ true
not_nil [] e = absurd (cc)
not_nil (x ∷ xs) e = refl

module _ {R K : Type 0} where
  -- ---- something can be taken

  can_take : (riding : Riding R) (carrying : Carrying K) (m : Memory R K) (act : Act R) → is_take act ≡ true →
      port_of act < length m.ports → can_at riding m.home (port_at carrying m.ports (port_of act)) act ≡ true →
      CanTake riding carrying m
  can_take riding carrying m act take lc is =
      (act, take, and_from (nat_lt (port_of act) (length m.ports)) _ (lt-ltb (port_of act) (length m.ports) lc) is)

  -- what a view shows is on the links
  view_messages : (b : ℕ) (q : List (Mail (FromHome R) K)) → is_nil (signals_of b q) ≡ false → is_nil q ≡ false
  view_messages b [] e = e
  view_messages b (x ∷ xs) e = refl

  view_responses : (b : ℕ) (q : List (Mail (Response R) K)) → is_nil (replies_of b q) ≡ false → is_nil q ≡ false
  view_responses b [] e = e
  view_responses b (x ∷ xs) e = refl

  view_requests : (b : ℕ) (q : List (Mail (Request R) K)) → is_nil (asks_of b q) ≡ false → is_nil q ≡ false
  view_requests b [] e = e
  view_requests b (x ∷ xs) e = refl

  -- where the home is at work on a block, a response or a message can be taken
  busy_some : (riding : Riding R) (carrying : Carrying K) (m : Memory R K) (b : ℕ) → MemoryHolds riding carrying m →
      is_free (entry_at riding.fresh m.home b).stage ≡ false → CanTake riding carrying m
  busy_some riding carrying m b h busy =
      let moving = busy_moves (block_in riding carrying m b) (blocks_hold riding carrying m h b) busy in
      by_place moving.0 moving.2 (cases_lt moving.0 (length m.ports))
    where
      by_place : (d : ℕ) → is_moving (port_view riding b (port_at carrying m.ports d)) ≡ true →
          (d < length m.ports) ⊎ (length m.ports ≤ d) →
          CanTake riding carrying m
      by_place d e (inr past) =
          absurd (let f : is_moving (port_view riding b (port_at carrying m.ports d)) ≡ false =
          ap is_moving (past_view riding carrying m.ports b d past) in cc)
      by_place d e (inl ld) =
          by_links (is_nil (replies_of b (port_at carrying m.ports d).responses.items)) refl
          (is_nil (signals_of b (port_at carrying m.ports d).messages.items)) refl e
        where
          by_links : (t : Bool) → is_nil (replies_of b (port_at carrying m.ports d).responses.items) ≡ t → (u : Bool) →
              is_nil (signals_of b (port_at carrying m.ports d).messages.items) ≡ u → (not t || not u) ≡ true →
              CanTake riding carrying m
          by_links false f u g k = can_take riding carrying m (TakeResponse d) refl ld
              (not_nil _ (view_responses b (port_at carrying m.ports d).responses.items f))
          by_links true f false g k = can_take riding carrying m (TakeMessage d) refl ld
              (not_nil _ (view_messages b (port_at carrying m.ports d).messages.items g))
          by_links true f true g k = absurd (cc)

  -- the block for which a port waits
  waits_for : (riding : Riding R) (carrying : Carrying K) (m : Memory R K) (c : ℕ) → MemoryHolds riding carrying m →
      c < length m.ports →
      waits (port_at carrying m.ports c).cache ≡ true → (b : ℕ) × Wants riding carrying m c b
  waits_for riding carrying m c h lc e =
      let p : Port R K = port_at carrying m.ports c in
      let w = waits_some p.cache riding.fresh e in
      let l : Line R = slice_index_or p.cache w.0 (empty_line riding.fresh) in
      let holds = (h.ports c lc).lines w.0 in
      let place : l.block % LINES ≡ w.0 = holds.place (transient_there l.state w.1) in
      let same : line_for riding.fresh p.cache l.block ≡ l =
      ap (λ (i : ℕ). slice_index_or p.cache i (empty_line riding.fresh)) place in
      let at : line_state l.block l ≡ l.state =
      ap (λ (t : Bool). if t then l.state else I) (eq-eqb l.block l.block refl) in
      (l.block, record { core = lc; waits = ap is_transient (ap (line_state l.block) same ∙ at) ∙ w.1 })

  -- where a port waits for a block, something can be taken
  waiting_some : (riding : Riding R) (carrying : Carrying K) (m : Memory R K) (c b : ℕ) →
      MemoryHolds riding carrying m → Wants riding carrying m c b →
      CanTake riding carrying m
  waiting_some riding carrying m c b h w =
      by_links (is_nil (port_view riding b p).messages) refl (is_nil (port_view riding b p).responses) refl
      (is_nil (port_view riding b p).requests) refl
    where
      p : Port R K
      p = port_at carrying m.ports c

      by_head : (q : List (Mail (Request R) K)) → p.requests.items ≡ q → is_nil q ≡ false → CanTake riding carrying m
      by_head [] is f = absurd (cc)
      by_head (mail ∷ rest) is f = by_free (is_free (entry_at riding.fresh m.home (request_block mail.item)).stage) refl
        where
          by_free : (t : Bool) → is_free (entry_at riding.fresh m.home (request_block mail.item)).stage ≡ t →
              CanTake riding carrying m
          by_free true e = can_take riding carrying m (TakeRequest c) refl w.core
              (ap (λ (q : List (Mail (Request R) K)). head_free q riding m.home) is ∙ e)
          by_free false e = busy_some riding carrying m (request_block mail.item) h e

      by_links : (t : Bool) → is_nil (port_view riding b p).messages ≡ t → (u : Bool) →
          is_nil (port_view riding b p).responses ≡ u → (v : Bool) →
          is_nil (port_view riding b p).requests ≡ v → CanTake riding carrying m
      by_links false f u g v k =
          can_take riding carrying m (TakeMessage c) refl w.core (not_nil _ (view_messages b p.messages.items f))
      by_links true f false g v k =
          can_take riding carrying m (TakeResponse c) refl w.core (not_nil _ (view_responses b p.responses.items g))
      by_links true f true g false k = by_head p.requests.items refl (view_requests b p.requests.items k)
      by_links true f true g true k =
          let st = stands_at riding carrying m c b w.core h in
          let wait : is_transient (picture st.phase).line ≡ true = ap (λ (v : View). is_transient v.line) st.view_is
          ∙ w.waits in
          let awaits : awaiting (role_in st.phase) ≡ true =
          phase_waits st.phase wait (ap (λ (v : View). is_nil v.messages) st.view_is
          ∙ f) (ap (λ (v : View). is_nil v.responses) st.view_is ∙ g)
          (ap (λ (v : View). is_nil v.requests) st.view_is ∙ k) in
          busy_some riding carrying m b h (awaits_busy (entry_at riding.fresh m.home b).stage c
          (ap awaiting (sym st.role_is) ∙ awaits))

  pub waiting_moves : (riding : Riding R) (carrying : Carrying K) → MovingLaw riding carrying
  waiting_moves riding carrying m c h lc e = let w = waits_for riding carrying m c h lc e in
      waiting_some riding carrying m c w.0 h w.1

  -- ---- nothing is under way

  -- no port waits for a block
  abbrev NoWants : Riding R → Carrying K → Memory R K → Type 0
  NoWants riding carrying m = (c b : ℕ) → Wants riding carrying m c b → ⊥

  none_wants : (riding : Riding R) (carrying : Carrying K) (m : Memory R K) →
      ((c : ℕ) → c < length m.ports → waits (port_at carrying m.ports c).cache ≡ false) → NoWants riding carrying m
  none_wants riding carrying m none c b w =
      let p : Port R K = port_at carrying m.ports c in
      let l : Line R = line_for riding.fresh p.cache b in
      let still : is_transient l.state ≡ false = waits_none p.cache riding.fresh (none c w.core) (b % LINES) in
      let waits_it = (view_waits b l w.waits).1 in
      cc

  no_requests_left : (riding : Riding R) (carrying : Carrying K) (m : Memory R K) (c : ℕ) →
      MemoryHolds riding carrying m → c < length m.ports →
      NoWants riding carrying m → (port_at carrying m.ports c).requests.items ≡ []
  no_requests_left riding carrying m c h lc none =
      nothing_left (port_at carrying m.ports c).requests.items
      (λ mail rest is. none c _ (request_waits riding carrying m c mail rest h lc is).0)

  no_responses_left : (riding : Riding R) (carrying : Carrying K) (m : Memory R K) (c : ℕ) →
      MemoryHolds riding carrying m → c < length m.ports →
      NoWants riding carrying m → (port_at carrying m.ports c).responses.items ≡ []
  no_responses_left riding carrying m c h lc none = nothing_left (port_at carrying m.ports c).responses.items some_left
    where
      some_left : (mail : Mail (Response R) K) (rest : List (Mail (Response R) K)) →
          (port_at carrying m.ports c).responses.items ≡ mail ∷ rest → ⊥
      some_left mail rest is =
          let b : ℕ = response_block mail.item in
          let here = other_here (record { block = b; own = false }) (answers_of rest) refl in
          let some : 1 ≤ others b (answers_of (port_at carrying m.ports c).responses.items) = rw is (omega arith) in
          none _ b (owed_to riding carrying m c b h (others_owe riding carrying m c b lc h (inr some))).0

  no_messages_left : (riding : Riding R) (carrying : Carrying K) (m : Memory R K) (c : ℕ) →
      MemoryHolds riding carrying m → c < length m.ports →
      NoWants riding carrying m → (port_at carrying m.ports c).messages.items ≡ []
  no_messages_left riding carrying m c h lc none =
      nothing_left (port_at carrying m.ports c).messages.items
      (λ mail rest is. by_kind mail rest is (ends_wait (signal mail.item)) refl)
    where
      item : Mail (FromHome R) K → Item
      item mail = record { block = block_of mail.item; own = ends_wait (signal mail.item) }

      by_kind : (mail : Mail (FromHome R) K) (rest : List (Mail (FromHome R) K)) →
          (port_at carrying m.ports c).messages.items ≡ mail ∷ rest →
          (own : Bool) → ends_wait (signal mail.item) ≡ own → ⊥
      by_kind mail rest is true e =
          let here = own_here (item mail) (items_of rest) e in
          let some : 1 ≤ owns (block_of mail.item) (items_of (port_at carrying m.ports c).messages.items) =
          rw is (omega arith) in
          none c (block_of mail.item) (own_wants riding carrying m c (block_of mail.item) lc h some)
      by_kind mail rest is false e =
          let here = other_here (item mail) (items_of rest) e in
          let some : 1 ≤ others (block_of mail.item) (items_of (port_at carrying m.ports c).messages.items) =
          rw is (omega arith) in
          none _ (block_of mail.item) (owed_to riding carrying m c (block_of mail.item) h
          (others_owe riding carrying m c (block_of mail.item) lc h (inl some))).0

  port_empty : (riding : Riding R) (carrying : Carrying K) (m : Memory R K) (c : ℕ) → MemoryHolds riding carrying m →
      c < length m.ports →
      NoWants riding carrying m → are_links_empty (port_at carrying m.ports c) ≡ true
  port_empty riding carrying m c h lc none =
      rw (
        no_requests_left riding carrying m c h lc none,
        no_responses_left riding carrying m c h lc none,
        no_messages_left riding carrying m c h lc none,
      ) refl

  pub quiet_links : (riding : Riding R) (carrying : Carrying K) → QuietLaw riding carrying
  quiet_links riding carrying m h none =
      list_all-from_AllPass are_links_empty m.ports
      (λ c d lc. subst (λ (p : Port R K). are_links_empty p ≡ true) (get_or_default m.ports c (no_port carrying) d lc)
      (port_empty riding carrying m c h lc (none_wants riding carrying m none)))

  -- nor can anything be taken then
  none_at : (riding : Riding R) (home : List (Entry R)) (p : Port R K) (act : Act R) → is_take act ≡ true →
      are_links_empty p ≡ true → can_at riding home p act ≡ false
  none_at riding home p act take empty = by_take (λ (a : Act R). can_at riding home p a ≡ false)
      (λ c. by_items p.requests.items none.0) (λ c. ap not rest.0) (λ c. ap not rest.1) act take
    where
      none : (is_nil p.requests.items ≡ true) × ((is_nil p.responses.items && is_nil p.messages.items) ≡ true)
      none = and_parts (is_nil p.requests.items) (is_nil p.responses.items && is_nil p.messages.items) empty

      rest : (is_nil p.responses.items ≡ true) × (is_nil p.messages.items ≡ true)
      rest = and_parts (is_nil p.responses.items) (is_nil p.messages.items) none.1

      by_items : (q : List (Mail (Request R) K)) → is_nil q ≡ true → head_free q riding home ≡ false
      by_items [] e = refl
      by_items (mail ∷ later) e = absurd (cc)

  pub none_taken : (riding : Riding R) (carrying : Carrying K) (m : Memory R K) (act : Act R) → is_take act ≡ true →
      links_empty m ≡ true → can riding carrying m act ≡ false
  none_taken riding carrying m act take empty =
      not_enabled (port_of act) (length m.ports) (can_at riding m.home (port_at carrying m.ports (port_of act)) act)
      (λ within. none_at riding m.home (port_at carrying m.ports (port_of act)) act take
      (AllPass-from_list_all are_links_empty m.ports empty (port_of act) (no_port carrying) within))
