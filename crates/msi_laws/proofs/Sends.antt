-- What the home sends goes to a core that is there.
use Rattle.std.proofs.Common.{◌≡◌, ◌≢◌, ap, refl, sym, subst, ℕ, ◌<◌, ◌≤◌, Bool, true, false, List, [], ◌∷◌, length}
use Rattle.std.proofs.Common.{arith, inl, inr, ◌⊎◌, Some}
use Rattle.msi_directory.specs.Entries.{answer_to_request, answer_to_response}
use Rattle.rtr_types.specs.declared.TheConstants.{CORES_MAX}
use Rattle.std.proofs.lemmas.Bool.Decides.{nat_tests}
use Rattle.access_times.specs.Riding.{Riding, Carrying}
use Rattle.rtr_types.specs.CoreSets.{no_cores}
use Rattle.msi_cache.specs.declared.messages.FromHome.{FromHome}
use Rattle.msi_cache.specs.declared.messages.Request.{Request}
use Rattle.msi_cache.specs.declared.messages.Response.{Response}
use Rattle.msi_cache.specs.Messages.{block_of, request_block, response_block}
use Rattle.msi_directory.specs.declared.entry.Entry.{Entry}
use Rattle.msi_directory.specs.Blocks.{entry_at}
use Rattle.msi_protocol.specs.Phases.{Role, Out, role, StageFits}
use Rattle.msi_memory.specs.declared.port.Mail.{Mail}
use Rattle.msi_memory.specs.Memories.{Memory, port_at}
use Rattle.msi_memory.specs.Acts.{take_request_in, take_response_in}
use Rattle.msi_protocol.specs.Seats.{FullBlock}
use Rattle.msi_protocol.specs.Shown.{Payload}
use Rattle.msi_laws.specs.Links.{AllShow}
use Rattle.msi_laws.proofs.Sent.{Sends}
use Rattle.msi_laws.specs.Holds.{Anything, MemoryHolds}
use Rattle.msi_laws.proofs.KindsShown.{shows_hold}
use Rattle.msi_laws.proofs.PortsAndBlocks.{there}
use Rattle.msi_laws.proofs.HomeMessages.{Taken, after_taken, request_taken, response_taken}
use Rattle.msi_directory.specs.declared.entry.Stage.{Stage}

abbrev is_out : Role → Bool
is_out Out = true
is_out _ = false

not_out : (r : Role) → is_out r ≡ false → r ≢ Out
not_out r some is = absurd (let out = ap is_out is in cc)

module _ {R : Type 0} where
  request_sends : (riding : Riding R) (e : Entry R) (c : ℕ) (r : Request R) (to : ℕ) (sent : FromHome R) →
      c < CORES_MAX → StageFits e.stage →
      (answer_to_request riding.absorbed e c r).send ≡ Some (to, sent) →
      (((to ≡ c) ⊎ (is_out (role e.stage to) ≡ false)) × (to < CORES_MAX))
      × (((answer_to_request riding.absorbed e c r).invalidate ≡ no_cores) × (block_of sent ≡ request_block r))
  request_sends riding e c r to sent lc fits is = grind (arith, nat_tests)

  response_sends : (riding : Riding R) (e : Entry R) (c : ℕ) (r : Response R) (to : ℕ) (sent : FromHome R) →
      StageFits e.stage →
      (answer_to_response riding.absorbed e c r).send ≡ Some (to, sent) →
      ((is_out (role e.stage to) ≡ false) × (to < CORES_MAX))
      × (((answer_to_response riding.absorbed e c r).invalidate ≡ no_cores) × (block_of sent ≡ response_block r))
  response_sends riding e c r to sent fits is = grind (arith, nat_tests)

module _ {R K : Type 0} where
  -- a core that the home has in some role is there
  named_there : (riding : Riding R) (carrying : Carrying K) (Q : ℕ → FullBlock (Payload R) → Type 0) (m : Memory R K)
      (b d : ℕ) →
      AllShow riding carrying Q m → d < CORES_MAX → is_out (role (entry_at riding.fresh m.home b).stage d) ≡ false →
      d < length m.ports
  named_there riding carrying Q m b d f ld some =
      let stage : Stage = (entry_at riding.fresh m.home b).stage in
      there riding carrying m.ports stage b d ((shows_hold riding carrying Q m f b).stands d ld)
      (not_out (role stage d) some)

  pub sends_request : (riding : Riding R) (carrying : Carrying K) (Q : ℕ → FullBlock (Payload R) →
      Type 0) (m : Memory R K) (c : ℕ) (r : Request R) →
      AllShow riding carrying Q m → length m.ports ≤ CORES_MAX → c < length m.ports →
      Sends (answer_to_request riding.absorbed (entry_at riding.fresh m.home (request_block r)) c r) (request_block r)
      m.ports
  sends_request riding carrying Q m c r f few lc =
      record {
        each = λ to sent is. let q = request_sends riding (entry_at riding.fresh m.home (request_block r)) c r to sent
            (omega arith)
            (shows_hold riding carrying Q m f (request_block r)).fits is in (
              elim q.0.0 [
                | inl e ↦ subst (λ (x : ℕ). x < length m.ports) (sym e) lc
                | inr some ↦ named_there riding carrying Q m
                    (request_block r) to f q.0.1 some
              ],
              q.1.0,
              q.1.1,
            );
      }

  pub sends_response : (riding : Riding R) (carrying : Carrying K) (Q : ℕ → FullBlock (Payload R) →
      Type 0) (m : Memory R K) (c : ℕ) (r : Response R) →
      AllShow riding carrying Q m → Sends (answer_to_response riding.absorbed (entry_at riding.fresh m.home
      (response_block r)) c r) (response_block r) m.ports
  sends_response riding carrying Q m c r f =
      record {
        each = λ to sent is. let q = response_sends riding (entry_at riding.fresh m.home (response_block r)) c r to sent
            (shows_hold riding carrying Q m f (response_block r)).fits is in (
              named_there riding carrying Q m (response_block r) to f q.0.1 q.0.0,
              q.1.0,
              q.1.1,
            );
      }

  -- whom the home answers is there
  pub request_there : (riding : Riding R) (carrying : Carrying K) (m : Memory R K) (c : ℕ) (r : Request R) →
      MemoryHolds riding carrying m →
      c < length m.ports → (to : ℕ) (sent : FromHome R) →
      (answer_to_request riding.absorbed (entry_at riding.fresh m.home (request_block r)) c r).send ≡ Some (to, sent) →
      to < length m.ports
  request_there riding carrying m c r h lc to sent is =
      ((sends_request riding carrying Anything m c r h.shows h.cores lc).each to sent is).0

  pub response_there : (riding : Riding R) (carrying : Carrying K) (m : Memory R K) (c : ℕ) (r : Response R) →
      MemoryHolds riding carrying m →
      (to : ℕ) (sent : FromHome R) →
      (answer_to_response riding.absorbed (entry_at riding.fresh m.home (response_block r)) c r).send ≡ Some (
        to,
        sent,
      ) → to < length m.ports
  response_there riding carrying m c r h to sent is =
      ((sends_response riding carrying Anything m c r h.shows).each to sent is).0

  -- what the home takes of core c's messages leaves its cache and the rooms of its links, and is answered to ports that
  -- are there
  pub record IsTaken (carrying : Carrying K) (m : Memory R K) (c : ℕ) (t : Taken R K) : Type 0 where
    pub cache : t.left.cache ≡ (port_at carrying m.ports c).cache
    pub requests : t.left.requests.room ≡ (port_at carrying m.ports c).requests.room
    pub responses : t.left.responses.room ≡ (port_at carrying m.ports c).responses.room
    pub messages : t.left.messages.room ≡ (port_at carrying m.ports c).messages.room
    pub there : (to : ℕ) (sent : FromHome R) → t.answer.send ≡ Some (to, sent) → to < length m.ports

  -- so what holds now, and would after anything that is so taken, holds after the home took a request, or a response
  pub by_request : (P : Memory R K → Type 0) (riding : Riding R) (carrying : Carrying K) (m : Memory R K) (c : ℕ)
      (q : List (Mail (Request R) K)) → MemoryHolds riding carrying m → c < length m.ports → P m →
      ((t : Taken R K) → IsTaken carrying m c t → P (after_taken carrying m c t)) →
      P (take_request_in q riding carrying m c)
  by_request P riding carrying m c [] h lc now each = now
  by_request P riding carrying m c (mail ∷ rest) h lc now each =
      let there = request_there riding carrying m c mail.item h lc in
      each (request_taken riding carrying m c mail rest)
      (record { cache = refl; requests = refl; responses = refl; messages = refl; there = there })

  pub by_response : (P : Memory R K → Type 0) (riding : Riding R) (carrying : Carrying K) (m : Memory R K) (c : ℕ)
      (q : List (Mail (Response R) K)) → MemoryHolds riding carrying m → P m →
      ((t : Taken R K) → IsTaken carrying m c t → P (after_taken carrying m c t)) →
      P (take_response_in q riding carrying m c)
  by_response P riding carrying m c [] h now each = now
  by_response P riding carrying m c (mail ∷ rest) h now each =
      let there = response_there riding carrying m c mail.item h in
      each (response_taken riding carrying m c mail rest)
      (record { cache = refl; requests = refl; responses = refl; messages = refl; there = there })
