-- A request or a response that the home takes leads from blocks that show to blocks that show, for every property that
-- blocks keep.
use Rattle.std.proofs.Common.{◌≡◌, ◌≢◌, ◌∙◌, ap, refl, sym, subst, ℕ, ◌<◌, ◌≤◌, ◌==◌, Bool, true, false, List, ◌∷◌}
use Rattle.std.proofs.Common.{length, arith, inl, inr, ◌⊎◌}
use Rattle.msi_directory.specs.Entries.{answer_to_request}
use Rattle.msi_directory.specs.Entries.{answer_to_response}
use Rattle.rtr_types.specs.declared.TheConstants.{CORES_MAX}
use Rattle.std.specs.Prelude.{if◌then◌else◌, slice_set}
use Rattle.std.proofs.lemmas.List.{get_or-set_same, get_or-set_other, length-set, get_or_past}
use Rattle.std.proofs.lemmas.Bool.{cases_eq, cases_lt, eq-eqb}
use Rattle.std.proofs.lemmas.Bool.Decides.{nat_tests}
use Rattle.access_times.specs.Riding.{Riding, Carrying}
use Rattle.msi_cache.specs.declared.messages.Request.{Request}
use Rattle.msi_cache.specs.declared.messages.Response.{Response}
use Rattle.msi_cache.specs.declared.line.State.TheVariants.{I}
use Rattle.msi_cache.specs.Messages.{request_block, response_block}
use Rattle.msi_cache.specs.Lines.{empty_line}
use Rattle.msi_directory.specs.declared.entry.Entry.{Entry}
use Rattle.msi_directory.specs.Blocks.{entry_at, no_entry}
use Rattle.msi_directory.specs.Table.{is_free}
use Rattle.msi_memory.specs.declared.port.Mail.{Mail}
use Rattle.msi_memory.specs.declared.port.Port.{Port}
use Rattle.msi_memory.specs.Memories.{Memory, port_at, no_port}
use Rattle.msi_memory.specs.Acts.{port_requested, take_request_in, port_responded, take_response_in}
use Rattle.msi_protocol.specs.Shown.{Sight, sight_answered, sight_requested, sight_responded}
use Rattle.msi_protocol.proofs.Shows.{IsBlank}
use Rattle.msi_protocol.specs.Seats.{FullBlock}
use Rattle.msi_protocol.specs.Shown.{Payload, payload_absorbed}
use Rattle.msi_protocol.specs.Showing.{KeptBy, Shows}
use Rattle.msi_protocol.proofs.Shows.{for_request, for_response, same_sights, blank_request, blank_response}
use Rattle.msi_laws.specs.Sights.{cons_if}
use Rattle.msi_laws.specs.Links.{of_block, line_if}
use Rattle.msi_laws.specs.Links.{port_sight, AllShow}
use Rattle.msi_laws.proofs.Sent.{Sends}
use Rattle.msi_laws.proofs.Sent.{sight-delivered}
use Rattle.msi_laws.proofs.HomeMessages.{Taken, after_taken, length_taken, request_taken, response_taken}
use Rattle.msi_laws.proofs.Views.{port_at-set}

module _ {R K : Type 0} where
  pub no_port_blank : (riding : Riding R) (carrying : Carrying K) (b : ℕ) →
      IsBlank (port_sight {R = R} {K = K} riding b (no_port carrying))
  no_port_blank riding carrying b = record {
    line = by_test (0 == b);
    requests = refl;
    responses = refl;
    messages =
        refl;
  }
    where
      by_test : (t : Bool) → (line_if t b (empty_line riding.fresh)).state ≡ I
      by_test true = refl
      by_test false = refl

  pub past_blank : (riding : Riding R) (carrying : Carrying K) (ps : List (Port R K)) (b d : ℕ) → length ps ≤ d →
      IsBlank (port_sight riding b (port_at carrying ps d))
  past_blank riding carrying ps b d past = subst (λ (p : Port R K). IsBlank (port_sight riding b p))
      (sym (get_or_past ps d (no_port carrying) past))
      (no_port_blank riding carrying b)

  -- both ports are none
  pub past_same : (riding : Riding R) (carrying : Carrying K) (ps qs : List (Port R K)) (b d : ℕ) → length ps ≤ d →
      length qs ≤ d → port_sight riding b
      (port_at carrying ps d) ≡ port_sight riding b (port_at carrying qs d)
  past_same riding carrying ps qs b d p q = ap (port_sight riding b) (get_or_past ps d (no_port carrying) p
      ∙ sym (get_or_past qs d (no_port carrying) q))

  -- each core's sight once a message of core c is taken, where pop is what that does to a sight: nothing to another's
  sight-taken : (riding : Riding R) (carrying : Carrying K) (m : Memory R K) (c : ℕ) (t : Taken R K)
      (pop : Bool → Sight R → Sight R) (b d : ℕ) → c < length m.ports → d < length m.ports →
      Sends t.answer t.block m.ports → ((v : Sight R) → pop false v ≡ v) →
      port_sight riding b t.left ≡ (if t.block == b then pop true (port_sight riding b (port_at carrying m.ports c))
      else port_sight riding b (port_at carrying m.ports c)) →
      port_sight riding b (port_at carrying (after_taken carrying m c t).ports d) ≡ (if t.block == b then sight_answered
      t.answer t.block d (pop (d == c) (port_sight riding b (port_at carrying m.ports d))) else port_sight riding b
      (port_at carrying m.ports d))
  sight-taken riding carrying m c t pop b d lc ld sends stays left =
      let ps : List (Port R K) = slice_set m.ports c t.left in
      let long : length ps ≡ length m.ports = length-set m.ports c t.left in
      let sent = sight-delivered riding carrying t.answer t.block t.carry ps b d (rw long ld)
      (record { each = λ to sent e. let f = sends.each to sent e in (rw long f.0, f.1, f.2) }) in
      let popped : port_sight riding b (port_at carrying ps d) ≡ (if t.block == b then pop (d == c) old else old) =
      ap (port_sight riding b) (port_at-set carrying m.ports c t.left d lc) ∙ by_core (d == c)
      (λ (e : (d == c) ≡ true). grind (arith, nat_tests)) in
      sent ∙ rw popped (by_block (t.block == b) (pop (d == c) old) old)
    where
      old : Sight R
      old = port_sight riding b (port_at carrying m.ports d)

      by_block : (u : Bool) (v w : Sight R) →
          (if u then sight_answered t.answer t.block d (if u then v else w) else (if u then v else w))
          ≡ (if u then sight_answered t.answer t.block d v else w)
      by_block true v w = refl
      by_block false v w = refl

      by_core : (u : Bool) → (u ≡ true → d ≡ c) →
          port_sight riding b (if u then t.left else port_at carrying m.ports d)
          ≡ (if t.block == b then pop u old else old)
      by_core true f = rw (f refl) left
      by_core false f = same (t.block == b)
        where
          same : (u : Bool) → old ≡ (if u then pop false old else old)
          same true = sym (stays old)
          same false = refl

  -- the block that the message is of shows as `moved` says, and the others what they did
  all_taken : (riding : Riding R) (carrying : Carrying K) (Q : ℕ → FullBlock (Payload R) → Type 0) (memory : Memory R K)
      (c : ℕ) (taken : Taken R K) (pop : ℕ → Bool → Sight R → Sight R) → c < length memory.ports →
      taken.block < length memory.home →
      Sends taken.answer taken.block memory.ports → ((b : ℕ) (v : Sight R) → pop b false v ≡ v) →
      ((b : ℕ) → port_sight riding b taken.left ≡ (if taken.block == b then pop b true (port_sight riding b
      (port_at carrying memory.ports c)) else port_sight riding b (port_at carrying memory.ports c))) →
      ((d : ℕ) → d < CORES_MAX → length memory.ports ≤ d →
      sight_answered taken.answer taken.block d (pop taken.block (d == c)
      (port_sight riding taken.block (port_at carrying memory.ports d))) ≡ port_sight riding taken.block
      (port_at carrying memory.ports d)) →
      Shows (Q taken.block) taken.block taken.entry
      (λ d. sight_answered taken.answer taken.block d (pop taken.block (d == c)
      (port_sight riding taken.block (port_at carrying memory.ports d)))) →
      AllShow riding carrying Q memory → AllShow riding carrying Q (after_taken carrying memory c taken)
  all_taken riding carrying Q memory c taken pop lc lb sends stays left blank moved shown =
      record { blocks = λ b. by_block b (cases_eq b taken.block) }
    where
      new : Memory R K
      new = after_taken carrying memory c taken

      old_sight : ℕ → ℕ → Sight R
      old_sight b d = port_sight riding b (port_at carrying memory.ports d)

      -- and where no port is nothing shows
      past : (b d : ℕ) → length memory.ports ≤ d → old_sight b d ≡ port_sight riding b (port_at carrying new.ports d)
      past b d le = past_same riding carrying memory.ports new.ports b d le
          (rw (length_taken carrying memory c taken) le)

      within : (b d : ℕ) → d < length memory.ports → (u : Bool) → (taken.block == b) ≡ u →
          (if u then sight_answered taken.answer taken.block d (pop b (d == c) (old_sight b d)) else old_sight b d)
          ≡ port_sight riding b (port_at carrying new.ports d)
      within b d ld u is = sym (sight-taken riding carrying memory c taken (pop b) b d lc ld sends (stays b) (left b)
          ∙ ap (λ (u : Bool).
          if u then sight_answered taken.answer taken.block d (pop b (d == c) (old_sight b d)) else old_sight b d) is)

      here : Shows (Q taken.block) taken.block (entry_at riding.fresh new.home taken.block)
          (λ d. port_sight riding taken.block
          (port_at carrying new.ports d))
      here =
          same_sights (Q taken.block) taken.block taken.entry (entry_at riding.fresh new.home taken.block)
          (λ d. sight_answered taken.answer taken.block d (pop taken.block (d == c) (old_sight taken.block d)))
          (λ d. port_sight riding taken.block (port_at carrying new.ports d))
          (sym (get_or-set_same memory.home taken.block taken.entry (no_entry riding.fresh) lb))
          (λ d ld. at d ld (cases_lt d (length memory.ports))) moved
        where
          at : (d : ℕ) → d < CORES_MAX → (d < length memory.ports) ⊎ (length memory.ports ≤ d) →
              sight_answered taken.answer taken.block d (pop taken.block (d == c) (old_sight taken.block d))
              ≡ port_sight riding taken.block (port_at carrying new.ports d)
          at d ld (inr le) = blank d ld le ∙ past taken.block d le
          at d ld (inl lt) = within taken.block d lt true (eq-eqb taken.block taken.block refl)

      by_block : (b : ℕ) → (b ≡ taken.block) ⊎ (b ≢ taken.block) → Shows (Q b) b (entry_at riding.fresh new.home b)
          (λ d. port_sight riding b (port_at carrying new.ports d))
      by_block b (inl e) = subst (λ (x : ℕ). Shows (Q x) x (entry_at riding.fresh new.home x) (λ d. port_sight riding x
          (port_at carrying new.ports d)))
          (sym e) here
      by_block b (inr other) =
          same_sights (Q b) b (entry_at riding.fresh memory.home b) (entry_at riding.fresh new.home b) (old_sight b)
          (λ d. port_sight riding b (port_at carrying new.ports d))
          (sym (get_or-set_other memory.home taken.block b taken.entry (no_entry riding.fresh) other))
          (λ d ld. at d (cases_lt d (length memory.ports))) (shown.blocks b)
        where
          at : (d : ℕ) → (d < length memory.ports) ⊎ (length memory.ports ≤ d) →
              old_sight b d ≡ port_sight riding b (port_at carrying new.ports d)
          at d (inr le) = past b d le
          at d (inl lt) = within b d lt false (grind (arith, nat_tests))

module _ {R K : Type 0} where
  sight-requested : (riding : Riding R) (b : ℕ) (p : Port R K) (mail : Mail (Request R) K)
      (rest : List (Mail (Request R) K)) → p.requests.items ≡ mail ∷ rest → port_sight riding b (port_requested p rest)
      ≡ (if request_block mail.item == b then sight_requested true (of_block request_block b rest)
      (port_sight riding b p) else port_sight riding b p)
  sight-requested riding b p mail rest is = by_test (request_block mail.item == b) (ap (of_block request_block b) is)
    where
      by_test : (t : Bool) →
          of_block request_block b p.requests.items ≡ cons_if t mail.item (of_block request_block b rest) →
          port_sight riding b (port_requested p rest) ≡ (if t then sight_requested true (of_block request_block b rest)
          (port_sight riding b p) else port_sight riding b p)
      by_test true e = refl
      by_test false e = ap (λ (q : List (Request R)). record (port_sight riding b p) { requests = q }) (sym e)

  sight-responded : (riding : Riding R) (b : ℕ) (p : Port R K) (mail : Mail (Response R) K)
      (rest : List (Mail (Response R) K)) → p.responses.items ≡ mail ∷ rest →
      port_sight riding b (port_responded p rest) ≡ (if response_block mail.item == b then sight_responded true
      (of_block response_block b rest) (port_sight riding b p) else port_sight riding b p)
  sight-responded riding b p mail rest is = by_test (response_block mail.item == b) (ap (of_block response_block b) is)
    where
      by_test : (t : Bool) →
          of_block response_block b p.responses.items ≡ cons_if t mail.item (of_block response_block b rest) →
          port_sight riding b (port_responded p rest) ≡ (if t then sight_responded true
          (of_block response_block b rest) (port_sight riding b p) else port_sight riding b p)
      by_test true e = refl
      by_test false e = ap (λ (q : List (Response R)). record (port_sight riding b p) { responses = q }) (sym e)

  pub all_request : (riding : Riding R) (carrying : Carrying K) (Q : ℕ → FullBlock (Payload R) → Type 0) →
      ((b : ℕ) → KeptBy (payload_absorbed riding) (Q b)) →
      (m : Memory R K) (c : ℕ) (mail : Mail (Request R) K) (rest : List (Mail (Request R) K)) →
      length m.ports ≤ CORES_MAX → c < length m.ports →
      request_block mail.item < length m.home → (port_at carrying m.ports c).requests.items ≡ mail ∷ rest →
      is_free (entry_at riding.fresh m.home (request_block mail.item)).stage ≡ true →
      Sends (answer_to_request riding.absorbed (entry_at riding.fresh m.home (request_block mail.item)) c mail.item)
      (request_block mail.item) m.ports →
      AllShow riding carrying Q m → AllShow riding carrying Q (take_request_in (mail ∷ rest) riding carrying m c)
  all_request riding carrying Q well m c mail rest few lc lb is free sends f =
      let block : ℕ = request_block mail.item in
      let entry : Entry R = entry_at riding.fresh m.home block in
      let asked : List (Request R) = of_block request_block block rest in
      let sights : ℕ → Sight R = λ d. port_sight riding block (port_at carrying m.ports d) in
      let first : (port_sight riding block (port_at carrying m.ports c)).requests ≡ mail.item ∷ asked =
      ap (of_block request_block block) is
      ∙ ap (λ (t : Bool). cons_if t mail.item asked) (eq-eqb block block refl) in
      all_taken riding carrying Q m c (request_taken riding carrying m c mail rest)
      (λ b t v. sight_requested t (of_block request_block b rest) v) lc lb sends (λ b v. refl)
      (λ b. sight-requested riding b (port_at carrying m.ports c) mail rest is)
      (λ d ld past. blank_request riding (Q block) block entry sights c mail.item asked d (omega arith) ld
      (λ (e : d ≡ c). omega arith) free first (past_blank riding carrying m.ports block d past) (f.blocks block))
      (for_request riding (Q block) (well block) block entry sights c mail.item asked (omega arith) free first
      (f.blocks block)) f

  pub all_response : (riding : Riding R) (carrying : Carrying K) (Q : ℕ → FullBlock (Payload R) → Type 0) →
      ((b : ℕ) → KeptBy (payload_absorbed riding) (Q b)) →
      (m : Memory R K) (c : ℕ) (mail : Mail (Response R) K) (rest : List (Mail (Response R) K)) →
      length m.ports ≤ CORES_MAX → c < length m.ports →
      response_block mail.item < length m.home → (port_at carrying m.ports c).responses.items ≡ mail ∷ rest →
      Sends (answer_to_response riding.absorbed (entry_at riding.fresh m.home (response_block mail.item)) c mail.item)
      (response_block mail.item) m.ports →
      AllShow riding carrying Q m → AllShow riding carrying Q (take_response_in (mail ∷ rest) riding carrying m c)
  all_response riding carrying Q well m c mail rest few lc lb is sends f =
      all_taken riding carrying Q m c (response_taken riding carrying m c mail rest)
      (λ b t v. sight_responded t (of_block response_block b rest) v) lc lb sends (λ b v. refl)
      (λ b. sight-responded riding b (port_at carrying m.ports c) mail rest is)
      (λ d ld past. blank_response riding (Q block) block entry sights c mail.item sent d (omega arith) ld
      (λ (e : d ≡ c). omega arith) first (past_blank riding carrying m.ports block d past) (f.blocks block))
      (for_response riding (Q block) (well block) block entry sights c mail.item sent (omega arith) first
      (f.blocks block)) f
    where
      block : ℕ
      block = response_block mail.item

      entry : Entry R
      entry = entry_at riding.fresh m.home block

      sent : List (Response R)
      sent = of_block response_block block rest

      sights : ℕ → Sight R
      sights d = port_sight riding block (port_at carrying m.ports d)

      first : (port_sight riding block (port_at carrying m.ports c)).responses ≡ mail.item ∷ sent
      first = ap (of_block response_block block) is
          ∙ ap (λ (t : Bool). cons_if t mail.item sent) (eq-eqb block block refl)
