-- Each act of the memory system keeps what the blocks show, for every property that blocks keep.
use Rattle.std.proofs.Common.{Bool, ◌≡◌, refl, ℕ, ◌<◌, ◌≤◌, ◌%◌, true, false, List, [], ◌∷◌, length, arith, IsTrue}
use Rattle.access_times.specs.Riding.{Riding, Carrying}
use Rattle.rtr_types.specs.declared.TheConstants.{CORES_MAX, LINES}
use Rattle.rtr_types.specs.declared.access.Kind.{Kind}
use Rattle.msi_cache.specs.declared.messages.FromHome.{FromHome}
use Rattle.msi_cache.specs.declared.messages.Response.{Response}
use Rattle.msi_cache.specs.declared.messages.Request.{Request}
use Rattle.msi_cache.specs.Lines.{line_for}
use Rattle.msi_memory.specs.declared.port.Mail.{Mail}
use Rattle.msi_protocol.specs.Seats.{FullBlock}
use Rattle.msi_protocol.specs.Shown.{Payload, payload_absorbed}
use Rattle.msi_memory.specs.declared.port.Port.{Port}
use Rattle.msi_memory.specs.Memories.{Memory, port_at}
use Rattle.msi_memory.specs.Acts.{head_free, Act, Want, Touch, Retire, TakeRequest, TakeResponse, TakeMessage, can}
use Rattle.msi_memory.specs.Acts.{after_act, touch, allows}
use Rattle.msi_memory.specs.Acts.{with_port, port_asking, port_touched, port_retiring, port_taking, take_request_in}
use Rattle.msi_memory.specs.Acts.{take_response_in}
use Rattle.msi_laws.specs.Holds.{MemoryHolds}
use Rattle.msi_protocol.specs.Showing.{KeptBy}
use Rattle.msi_laws.specs.Links.{AllShow, TouchGives, payload_at, words_left}
use Rattle.msi_laws.proofs.Lines.{waits_none}
use Rattle.msi_laws.proofs.PortsAndBlocks.{request_within, response_within, message_row}
use Rattle.msi_laws.proofs.PortsKept.{there_of, can_of, can_want}
use Rattle.msi_laws.proofs.Home.{all_request, all_response}
use Rattle.msi_laws.proofs.Sends.{sends_request, sends_response}
use Rattle.msi_laws.proofs.Leads.{leads_same, leads_received, leads_asking, leads_touch, all_set}

-- an access
abbrev pub is_touch : {R : Type 0} → Act R → Bool
is_touch (Touch c block slot kind value rider) = true
is_touch _ = false

module _ {R K : Type 0} where
  want_links : (riding : Riding R) (carrying : Carrying K) (Q : ℕ → FullBlock (Payload R) → Type 0) →
      ((b : ℕ) → KeptBy (payload_absorbed riding) (Q b)) →
      (m : Memory R K) (c block : ℕ) (kind : Kind) → IsTrue (can riding carrying m (Want c block kind)) →
      MemoryHolds riding carrying m →
      AllShow riding carrying Q m → AllShow riding carrying Q
      (with_port m c (port_asking riding (port_at carrying m.ports c) block kind))
  want_links riding carrying Q well m c block kind e h f =
      let p : Port R K = port_at carrying m.ports c in
      let asks = can_want riding carrying m c block kind e in
      let lc = there_of riding carrying m (Want c block kind) e in
      let few : length m.ports ≤ CORES_MAX = h.cores in
      all_set riding carrying Q Q m c (port_asking riding p block kind) lc
      (leads_asking riding Q well c p block kind (omega arith) (h.ports c lc).all_lines
      ((h.ports c lc).lines (block % LINES)).place
      (waits_none p.cache riding.fresh asks.still (block % LINES)) asks.needed) f

  message_links : (riding : Riding R) (carrying : Carrying K) (Q : ℕ → FullBlock (Payload R) → Type 0) →
      ((b : ℕ) → KeptBy (payload_absorbed riding) (Q b)) →
      (m : Memory R K) (c : ℕ) (q : List (Mail (FromHome R) K)) → c < length m.ports →
      (port_at carrying m.ports c).messages.items ≡ q →
      MemoryHolds riding carrying m → AllShow riding carrying Q m → AllShow riding carrying Q
      (with_port m c (port_taking riding carrying (port_at carrying m.ports c) q))
  message_links riding carrying Q well m c [] lc is h f = all_set riding carrying Q Q m c (port_at carrying m.ports c)
      lc
      (leads_same riding Q well c (port_at carrying m.ports c) (port_at carrying m.ports c) (λ b. refl)) f
  message_links riding carrying Q well m c (mail ∷ rest) lc is h f =
      let few : length m.ports ≤ CORES_MAX = h.cores in
      all_set riding carrying Q Q m c (port_taking riding carrying (port_at carrying m.ports c) (mail ∷ rest)) lc
      (leads_received riding Q well carrying c (port_at carrying m.ports c) mail rest (omega arith)
      (h.ports c lc).all_lines is
      (message_row riding carrying m c mail rest lc is h).at) f

  request_links : (riding : Riding R) (carrying : Carrying K) (Q : ℕ → FullBlock (Payload R) → Type 0) →
      ((b : ℕ) → KeptBy (payload_absorbed riding) (Q b)) →
      (m : Memory R K) (c : ℕ) (q : List (Mail (Request R) K)) → c < length m.ports →
      (port_at carrying m.ports c).requests.items ≡ q →
      head_free q riding m.home ≡ true → MemoryHolds riding carrying m → AllShow riding carrying Q m →
      AllShow riding carrying Q
      (take_request_in q riding carrying m c)
  request_links riding carrying Q well m c [] lc is free h f = f
  request_links riding carrying Q well m c (mail ∷ rest) lc is free h f =
      all_request riding carrying Q well m c mail rest h.cores lc (request_within riding carrying m c mail rest h lc is)
      is free
      (sends_request riding carrying Q m c mail.item f h.cores lc) f

  response_links : (riding : Riding R) (carrying : Carrying K) (Q : ℕ → FullBlock (Payload R) → Type 0) →
      ((b : ℕ) → KeptBy (payload_absorbed riding) (Q b)) →
      (m : Memory R K) (c : ℕ) (q : List (Mail (Response R) K)) → c < length m.ports →
      (port_at carrying m.ports c).responses.items ≡ q →
      MemoryHolds riding carrying m → AllShow riding carrying Q m →
      AllShow riding carrying Q (take_response_in q riding carrying m c)
  response_links riding carrying Q well m c [] lc is h f = f
  response_links riding carrying Q well m c (mail ∷ rest) lc is h f =
      all_response riding carrying Q well m c mail rest h.cores lc (response_within riding carrying m c mail rest h lc
      is) is
      (sends_response riding carrying Q m c mail.item f) f

  -- every act but an access
  pub links_kept : (riding : Riding R) (carrying : Carrying K) (Q : ℕ → FullBlock (Payload R) → Type 0) →
      ((b : ℕ) → KeptBy (payload_absorbed riding) (Q b)) →
      (m : Memory R K) (act : Act R) → IsTrue (can riding carrying m act) → is_touch act ≡ false →
      MemoryHolds riding carrying m → AllShow riding carrying Q m →
      AllShow riding carrying Q (after_act riding carrying m act)
  links_kept riding carrying Q well m (Want c block kind) e other h f =
      want_links riding carrying Q well m c block kind e h f
  links_kept riding carrying Q well m (Touch c block slot kind value rider) e other h f = absurd (cc)
  links_kept riding carrying Q well m (Retire c at) e other h f =
      all_set riding carrying Q Q m c (port_retiring carrying (port_at carrying m.ports c) at)
      (there_of riding carrying m (Retire c at) e) (leads_same riding Q well c (port_at carrying m.ports c)
      (port_retiring carrying (port_at carrying m.ports c) at) (λ b. refl)) f
  links_kept riding carrying Q well m (TakeRequest c) e other h f =
      request_links riding carrying Q well m c (port_at carrying m.ports c).requests.items
      (there_of riding carrying m (TakeRequest c) e) refl (can_of riding carrying m (TakeRequest c) e) h f
  links_kept riding carrying Q well m (TakeResponse c) e other h f =
      response_links riding carrying Q well m c (port_at carrying m.ports c).responses.items
      (there_of riding carrying m (TakeResponse c) e) refl h f
  links_kept riding carrying Q well m (TakeMessage c) e other h f =
      message_links riding carrying Q well m c (port_at carrying m.ports c).messages.items
      (there_of riding carrying m (TakeMessage c) e) refl h f

  -- an access, after which the blocks have another property
  pub links_touched : (riding : Riding R) (carrying : Carrying K) (Q P : ℕ → FullBlock (Payload R) → Type 0) →
      ((b : ℕ) → KeptBy (payload_absorbed riding) (P b)) → (m : Memory R K) (c block slot : ℕ) (kind : Kind) (value : ℕ)
      (rider : R) → c < length m.ports →
      allows riding (port_at carrying m.ports c) block kind ≡ true → MemoryHolds riding carrying m
      → TouchGives Q P c block kind (payload_at riding (port_at carrying m.ports c) block) (record {
        words = words_left kind (line_for riding.fresh (port_at carrying m.ports c).cache block).words slot value;
        rider = rider;
      })
      → AllShow riding carrying Q m → AllShow riding carrying P (touch riding carrying m c block slot kind value rider)
  links_touched riding carrying Q P well m c block slot kind value rider lc allowed h gives f =
      let few : length m.ports ≤ CORES_MAX = h.cores in
      all_set riding carrying Q P m c (port_touched riding (port_at carrying m.ports c) block slot kind value rider) lc
      (leads_touch riding Q P well c (port_at carrying m.ports c) block slot kind value rider (omega arith)
      (h.ports c lc).all_lines allowed gives) f
