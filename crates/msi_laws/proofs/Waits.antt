-- What a port waits for: from the asking on, until the data come.
use Rattle.std.proofs.Common.{◌≡◌, ◌∙◌, ap, refl, sym, subst, ℕ, ◌+◌, ◌<◌, ◌==◌, Bool, true, false, List, [], ◌∷◌}
use Rattle.std.proofs.Common.{length, Option, Some, None, arith}
use Rattle.std.specs.Prelude.{if◌then◌else◌, slice_set}
use Rattle.std.proofs.lemmas.List.{length-set}
use Rattle.std.proofs.lemmas.Bool.Decides.{nat_tests}
use Rattle.access_times.specs.Riding.{Riding, Carrying}
use Rattle.rtr_types.specs.Accesses.{is_write}
use Rattle.rtr_types.specs.declared.access.Kind.{Kind}
use Rattle.rtr_types.specs.declared.access.Kind.TheVariants.{Load as IsLoad, Store as IsStore}
use Rattle.msi_cache.specs.declared.line.Line.{Line}
use Rattle.msi_cache.specs.declared.line.State.{State as LineState}
use Rattle.msi_cache.specs.declared.messages.FromHome.{FromHome}
use Rattle.msi_cache.specs.declared.messages.Response.{Response}
use Rattle.msi_cache.specs.Table.{is_transient}
use Rattle.msi_cache.specs.Lines.{line_for, is_allowed, waits}
use Rattle.msi_memory.specs.declared.port.Mail.{Mail}
use Rattle.msi_memory.specs.declared.port.Port.{Port}
use Rattle.msi_memory.specs.Memories.{Memory, port_at}
use Rattle.msi_memory.specs.Acts.{Want, Touch, Retire, TakeRequest, TakeResponse, TakeMessage, after_act, with_port}
use Rattle.msi_memory.specs.Acts.{allows, data_next}
use Rattle.msi_memory.specs.Acts.{port_asking, port_touched, port_retiring}
use Rattle.msi_memory.specs.Acts.{port_hearing, port_taking, port_answering}
use Rattle.msi_memory.specs.Acts.{port_sent, answer_to}
use Rattle.msi_laws.specs.Holds.{MemoryHolds, place_at}
use Rattle.msi_laws.specs.Waits.{serves, WaitsFor, WantsLaw, WaitsLaw, StillLaw, GrantsLaw}
use Rattle.msi_laws.proofs.Views.{port_at-set}
use Rattle.msi_laws.proofs.Sends.{IsTaken, by_request, by_response}
use Rattle.msi_laws.proofs.HomeMessages.{Taken, after_taken}
use Rattle.msi_laws.proofs.Lines.{none_waits, waits_none, same_lines_wait, asking_waits, fits_still, still_serves}
use Rattle.msi_laws.proofs.Lines.{taking_waits, taking_allows, taking_still}
use Rattle.msi_laws.proofs.PortsAndBlocks.{HasRow, message_row}
use Rattle.msi_laws.proofs.PortsKept.{delivered_keeps, there_of, can_want, touched_lines}

-- a line that would do for any access doesn't wait
serves_all : (s : LineState) (l i : ℕ) → serves s false l i (i + 1) ≡ true → serves s true l i (i + 1) ≡ true →
    is_transient s ≡ false
serves_all s l i e f = grind (arith, nat_tests)

module _ {R K : Type 0} where
  answering_cache : (p : Port R K) (o : Option (Response R)) → (port_answering p o).cache ≡ p.cache
  answering_cache p None = refl
  answering_cache p (Some r) = refl

  -- the port that an act changed
  pub port_there : (carrying : Carrying K) (m : Memory R K) (c : ℕ) (q : Port R K) → c < length m.ports →
      port_at carrying (with_port m c q).ports c ≡ q
  port_there carrying m c q lc = port_at-set carrying m.ports c q c lc ∙ same (c == c) (grind (arith, nat_tests))
    where
      same : (t : Bool) → t ≡ true → (if t then q else port_at carrying m.ports c) ≡ q
      same true e = refl
      same false e = absurd (cc)

  -- a fact of a port that an act keeps where it changes it
  pub port_keeps : (P : Port R K → Type 0) (carrying : Carrying K) (m : Memory R K) (c : ℕ) (q : Port R K) (d : ℕ) →
      c < length m.ports →
      (d ≡ c → P (port_at carrying m.ports c) → P q) → P (port_at carrying m.ports d) →
      P (port_at carrying (with_port m c q).ports d)
  port_keeps P carrying m c q d lc keeps h = subst P (sym (port_at-set carrying m.ports c q d lc))
      (by_test (d == c) refl)
    where
      by_test : (t : Bool) → (d == c) ≡ t → P (if t then q else port_at carrying m.ports d)
      by_test true e = let same : d ≡ c = grind (arith, nat_tests) in
          keeps same (subst (λ (x : ℕ). P (port_at carrying m.ports x)) same h)
      by_test false e = h

  pub wants_law : (riding : Riding R) (carrying : Carrying K) → WantsLaw riding carrying
  wants_law riding carrying m c block kind h e =
      let p : Port R K = port_at carrying m.ports c in
      let asks = can_want riding carrying m c block kind e in
      let lc = there_of riding carrying m (Want c block kind) e in
      subst (λ (q : Port R K). WaitsFor riding q block kind)
      (sym (port_there carrying m c (port_asking riding p block kind) lc))
      (asking_waits riding (length m.home) p block kind asks.needed (fits_still riding (length m.home) p asks.still
      (h.ports c lc)))

  relinked_waits : (riding : Riding R) (p q : Port R K) (block : ℕ) (kind : Kind) → q.cache ≡ p.cache →
      WaitsFor riding p block kind →
      WaitsFor riding q block kind
  relinked_waits riding p q block kind lines h = λ i. rw lines (h i)

  message_waits : (riding : Riding R) (carrying : Carrying K) (m : Memory R K) (c : ℕ) (q : List (Mail (FromHome R) K))
      (block : ℕ) (kind : Kind) →
      MemoryHolds riding carrying m → c < length m.ports → (port_at carrying m.ports c).messages.items ≡ q →
      WaitsFor riding (port_at carrying m.ports c) block kind →
      WaitsFor riding (port_taking riding carrying (port_at carrying m.ports c) q) block kind
  message_waits riding carrying m c [] block kind h lc is f = f
  message_waits riding carrying m c (mail ∷ rest) block kind h lc is f =
      let p : Port R K = port_at carrying m.ports c in
      relinked_waits riding (port_hearing riding carrying p mail rest) (port_taking riding carrying p (mail ∷ rest))
      block kind
      (answering_cache (port_hearing riding carrying p mail rest) (answer_to riding p mail.item))
      (taking_waits riding carrying p mail rest block kind (h.ports c lc).all_lines (message_row riding carrying m c
      mail rest lc is h).there f)

  -- what the home takes leaves every cache as it is, and so each fact that is of a cache
  pub taken_keeps : (P : Port R K → Type 0) → ((p q : Port R K) → q.cache ≡ p.cache → P p → P q) →
      (carrying : Carrying K) (m : Memory R K) (c d : ℕ) → c < length m.ports → P (port_at carrying m.ports d) →
      (t : Taken R K) → IsTaken carrying m c t → P (port_at carrying (after_taken carrying m c t).ports d)
  taken_keeps P keeps carrying m c d lc f t is =
      delivered_keeps P carrying t.answer t.block t.carry (slice_set m.ports c t.left)
      (λ p sent g. keeps p (port_sent p sent t.carry) refl g)
      (λ to sent e. rw length-set (is.there to sent e)) d
      (port_keeps P carrying m c t.left d lc (λ here g. keeps (port_at carrying m.ports c) t.left is.cache g) f)

  pub waits_law : (riding : Riding R) (carrying : Carrying K) → WaitsLaw riding carrying
  waits_law riding carrying m (Want c block' kind') d block kind h e other ld f =
      port_keeps (λ (p : Port R K). WaitsFor riding p block kind) carrying m c
      (port_asking riding (port_at carrying m.ports c) block' kind') d
      (there_of riding carrying m (Want c block' kind') e) (λ here g. absurd (grind (arith, nat_tests))) f
  waits_law riding carrying m (Touch c block' slot kind' value rider) d block kind h e other ld f =
      let lc = there_of riding carrying m (Touch c block' slot kind' value rider) e in
      let p : Port R K = port_at carrying m.ports c in
      let q : Port R K = port_touched riding p block' slot kind' value rider in
      port_keeps (λ (x : Port R K). WaitsFor riding x block kind) carrying m c q d lc
      (λ here g. same_lines_wait riding p q block kind (touched_lines riding (length m.home) p block' slot kind' value
      rider (h.ports c lc)) g) f
  waits_law riding carrying m (Retire c at) d block kind h e other ld f =
      let p : Port R K = port_at carrying m.ports c in
      port_keeps (λ (x : Port R K). WaitsFor riding x block kind) carrying m c (port_retiring carrying p at) d
      (there_of riding carrying m (Retire c at) e)
      (λ here g. relinked_waits riding p (port_retiring carrying p at) block kind refl g) f
  waits_law riding carrying m (TakeRequest c) d block kind h e other ld f =
      let lc = there_of riding carrying m (TakeRequest c) e in
      by_request (λ (n : Memory R K). WaitsFor riding (port_at carrying n.ports d) block kind) riding carrying m c
      (port_at carrying m.ports c).requests.items h lc f (taken_keeps (λ (p : Port R K). WaitsFor riding p block kind)
      (λ p q. relinked_waits riding p q block kind) carrying m c d lc f)
  waits_law riding carrying m (TakeResponse c) d block kind h e other ld f =
      by_response (λ (n : Memory R K). WaitsFor riding (port_at carrying n.ports d) block kind) riding carrying m c
      (port_at carrying m.ports c).responses.items h f (taken_keeps (λ (p : Port R K). WaitsFor riding p block kind)
      (λ p q. relinked_waits riding p q block kind) carrying m c d (there_of riding carrying m (TakeResponse c) e) f)
  waits_law riding carrying m (TakeMessage c) d block kind h e other ld f =
      let lc = there_of riding carrying m (TakeMessage c) e in
      let p : Port R K = port_at carrying m.ports c in
      port_keeps (λ (x : Port R K). WaitsFor riding x block kind) carrying m c
      (port_taking riding carrying p p.messages.items) d lc
      (λ here g. message_waits riding carrying m c p.messages.items block kind h lc refl g) f

  -- a port that doesn't wait would do so for any access, and the other way round
  still_waits : (riding : Riding R) (p : Port R K) (block : ℕ) (kind : Kind) → waits p.cache ≡ false →
      WaitsFor riding p block kind
  still_waits riding p block kind none i =
      still_serves (place_at riding p i).state (is_write kind) (place_at riding p i).block i block
      (waits_none p.cache riding.fresh none i)

  waits_all : (riding : Riding R) (p : Port R K) → ((block : ℕ) (kind : Kind) → WaitsFor riding p block kind) →
      waits p.cache ≡ false
  waits_all riding p h =
      none_waits p.cache riding.fresh
      (λ i. serves_all (place_at riding p i).state (place_at riding p i).block i (h (i + 1) IsLoad i)
      (h (i + 1) IsStore i))

  pub still_law : (riding : Riding R) (carrying : Carrying K) → StillLaw riding carrying
  still_law riding carrying m act d h e other ld none =
      waits_all riding (port_at carrying (after_act riding carrying m act).ports d)
      (λ block kind. waits_law riding carrying m act d block kind h e other ld
      (still_waits riding (port_at carrying m.ports d) block kind none))

  pub grants_law : (riding : Riding R) (carrying : Carrying K) → GrantsLaw riding carrying
  grants_law riding carrying m c block kind h lc d f = by_items p.messages.items refl d
    where
      p : Port R K
      p = port_at carrying m.ports c

      left : List (Mail (FromHome R) K) → Port R K
      left q = port_at carrying (with_port m c (port_taking riding carrying p q)).ports c

      by_items : (q : List (Mail (FromHome R) K)) → p.messages.items ≡ q → data_next q ≡ true →
          (allows riding (left q) block kind ≡ true) × (waits (left q).cache ≡ false)
      by_items [] is e = absurd (cc)
      by_items (mail ∷ rest) is e =
          let row : HasRow riding p mail.item = message_row riding carrying m c mail rest lc is h in
          let same : (left (mail ∷ rest)).cache ≡ (port_hearing riding carrying p mail rest).cache =
          ap (λ (x : Port R K). x.cache) (port_there carrying m c (port_taking riding carrying p (mail ∷ rest)) lc)
          ∙ answering_cache (port_hearing riding carrying p mail rest) (answer_to riding p mail.item) in (
            ap (λ (lines : List (Line R)). is_allowed (line_for riding.fresh lines block) block kind) same
                ∙ taking_allows riding carrying p mail rest block kind e (h.ports c lc).all_lines row.at row.there f,
            ap waits same ∙ none_waits (port_hearing riding carrying p mail rest).cache riding.fresh
                (taking_still riding carrying (length m.home) p mail rest e row.there (h.ports c lc)),
          )
