-- What a port's acts make each block show, and what an access finds.
use Rattle.std.proofs.Common.{◌≡◌, ◌≢◌, ◌∙◌, ap, refl, sym, subst, ℕ, ◌<◌, ◌==◌, ◌%◌, Bool, true, false, List, ◌∷◌}
use Rattle.std.proofs.Common.{length, arith, inl, inr, ◌⊎◌}
use Rattle.std.specs.Prelude.{if◌then◌else◌, slice_set}
use Rattle.std.proofs.lemmas.Bool.{cases_eq}
use Rattle.std.proofs.lemmas.Bool.Decides.{nat_tests}
use Rattle.access_times.specs.Riding.{Riding, Carrying}
use Rattle.rtr_types.specs.declared.TheConstants.{CORES_MAX, LINES}
use Rattle.rtr_types.specs.declared.access.Kind.{Kind}
use Rattle.msi_cache.specs.declared.line.Line.{Line}
use Rattle.msi_cache.specs.declared.line.State.TheVariants.{I}
use Rattle.msi_cache.specs.declared.messages.FromHome.{FromHome}
use Rattle.msi_cache.specs.Messages.{block_of, request_block}
use Rattle.msi_cache.specs.Lines.{line_for, asks, is_allowed}
use Rattle.msi_cache.specs.Table.{is_transient}
use Rattle.msi_directory.specs.declared.entry.Entry.{Entry}
use Rattle.msi_directory.specs.Blocks.{entry_at}
use Rattle.msi_memory.specs.declared.port.Mail.{Mail}
use Rattle.msi_laws.specs.Sights.{cons_if}
use Rattle.msi_laws.specs.Links.{of_block, line_here, line_if}
use Rattle.msi_protocol.specs.Seats.{FullBlock, PhasesFit, allows as phase_allows}
use Rattle.msi_protocol.specs.Shown.{Payload, payload_absorbed, Sight, sight_received, sight_asking, sight_accessed}
use Rattle.msi_protocol.specs.Shown.{line_with}
use Rattle.msi_protocol.proofs.TablesAndSeats.{shown_allows}
use Rattle.msi_protocol.proofs.Shows.{sight_at}
use Rattle.msi_memory.specs.declared.port.Port.{Port}
use Rattle.msi_memory.specs.Memories.{Memory, port_at}
use Rattle.msi_memory.specs.Acts.{port_taking, port_asking, port_touched, with_port, allows}
use Rattle.msi_laws.proofs.Views.{port_at-set}
use Rattle.msi_protocol.specs.Showing.{KeptBy, Shows}
use Rattle.msi_laws.specs.Links.{AllShow, TouchGives, payload_at, words_left, port_sight}
use Rattle.msi_protocol.proofs.Shows.{for_message, for_wish, for_touch, same_sights}
use Rattle.msi_protocol.proofs.TablesAndSeats.{copy_in}
use Rattle.msi_protocol.proofs.DeadCopies.{SameSight, alike_sights}
use Rattle.msi_laws.proofs.Ports.{sight-received, sight-received_other, sight-asking, sight-asking_other}
use Rattle.msi_laws.proofs.Ports.{asked_needed, asked_there, left_line, left_other}

module _ {R : Type 0} where
  same_sight : (v w : Sight R) → v ≡ w → SameSight v w
  same_sight v w e = record {
    state = ap (λ (x : Sight R). x.line.state) e;
    block = ap (λ (x : Sight R). x.line.block) e;
    payload = λ valid. ap
        (λ (x : Sight R). x.line) e;
    requests = ap (λ (x : Sight R). x.requests) e;
    responses = ap (λ (x : Sight R). x.responses) e;
    messages = ap
        (λ (x : Sight R). x.messages) e;
  }

  pub sight_at_same : (c : ℕ) (v : Sight R) (sights : ℕ → Sight R) → sight_at c v sights c ≡ v
  sight_at_same c v sights = let t : (c == c) ≡ true = grind (arith, nat_tests) in
      ap (λ (u : Bool). if u then v else sights c) t

  sight_at_twice : (c d : ℕ) (v w : Sight R) (sights : ℕ → Sight R) → sight_at c v (sight_at c w sights) d ≡ sight_at c
      v sights d
  sight_at_twice c d v w sights = by (d == c)
    where
      by : (t : Bool) → (if t then v else (if t then w else sights d)) ≡ (if t then v else sights d)
      by true = refl
      by false = refl

  -- where c's sight is alike
  pub alike_at : (riding : Riding R) (Q : FullBlock (Payload R) → Type 0) → KeptBy (payload_absorbed riding) Q →
      (b : ℕ) (entry : Entry R)
      (sights : ℕ → Sight R) (c : ℕ) (v : Sight R) → SameSight (sights c) v → Shows Q b entry sights →
      Shows Q b entry (sight_at c v sights)
  alike_at riding Q well b entry sights c v same f = alike_sights riding Q well b entry sights (sight_at c v sights)
      (λ d ld. by d (cases_eq d c)) f
    where
      by : (d : ℕ) → (d ≡ c) ⊎ (d ≢ c) → SameSight (sights d) (sight_at c v sights d)
      by d (inl e) = subst (λ (x : ℕ). SameSight (sights x) (sight_at c v sights x)) (sym e)
          (subst (λ (w : Sight R). SameSight (sights c) w)
          (sym (sight_at_same c v sights)) same)
      by d (inr p) = same_sight (sights d) (sight_at c v sights d) (let t : (d == c) ≡ false =
          grind (arith, nat_tests) in
          ap (λ (u : Bool). if u then v else sights d) (sym t))

-- where each block that port p of core c shows has the property Q, each that m shows has P
pub record Leads {R K : Type 0} (riding : Riding R) (Q P : ℕ → FullBlock (Payload R) → Type 0) (c : ℕ)
    (p m : Port R K) : Type 0 where
  pub each : (b : ℕ) (entry : Entry R) (sights : ℕ → Sight R) → sights c ≡ port_sight riding b p →
      Shows (Q b) b entry sights → Shows (P b) b entry
      (sight_at c (port_sight riding b m) sights)

module _ {R K : Type 0} where
  -- the port shows the same
  pub leads_same : (riding : Riding R) (Q : ℕ → FullBlock (Payload R) → Type 0) →
      ((b : ℕ) → KeptBy (payload_absorbed riding) (Q b)) →
      (c : ℕ) (p m : Port R K) → ((b : ℕ) → port_sight riding b p ≡ port_sight riding b m) → Leads riding Q Q c p m
  leads_same riding Q well c p m e = record {
    each = λ b entry sights is s. alike_at riding (Q b) (well b) b entry sights c (port_sight riding b m)
        (same_sight (sights c) (port_sight riding b m) (is ∙ e b)) s;
  }

  -- the ports differ in block k alone, where the one property leads to the other, as it does of other blocks that are
  -- as they were
  leads_at : (riding : Riding R) (Q P : ℕ → FullBlock (Payload R) → Type 0) →
      ((b : ℕ) → KeptBy (payload_absorbed riding) (P b)) → (c : ℕ) (p m : Port R K) (k : ℕ) →
      ((entry : Entry R) (sights : ℕ → Sight R) → sights c ≡ port_sight riding k p → Shows (Q k) k entry sights →
      Shows (P k) k entry (sight_at c (port_sight riding k m) sights)) →
      ((b : ℕ) → b ≢ k → SameSight (port_sight riding b p) (port_sight riding b m)) →
      ((b : ℕ) (block : FullBlock (Payload R)) → b ≢ k → Q b block → P b block) → Leads riding Q P c p m
  leads_at riding Q P well c p m k here same elsewhere =
      record { each = λ b entry sights shows s. by b entry sights shows s (cases_eq b k) }
    where
      by : (b : ℕ) (entry : Entry R) (sights : ℕ → Sight R) → sights c ≡ port_sight riding b p →
          Shows (Q b) b entry sights → (b ≡ k) ⊎ (b ≢ k) →
          Shows (P b) b entry (sight_at c (port_sight riding b m) sights)
      by b entry sights shows s (inl e) = subst (λ (x : ℕ). Shows (P x) x entry (sight_at c (port_sight riding x m)
          sights)) (sym e)
          (here entry sights (shows ∙ ap (λ (x : ℕ). port_sight riding x p) e)
          (subst (λ (x : ℕ). Shows (Q x) x entry sights) e s))
      by b entry sights shows s (inr other) =
          alike_at riding (P b) (well b) b entry sights c (port_sight riding b m)
          (subst (λ (x : Sight R). SameSight x (port_sight riding b m)) (sym shows) (same b other))
          (record {
            block = s.block;
            entry_is = s.entry_is;
            shows = s.shows;
            fits = s.fits;
            has = elsewhere b s.block other s.has;
          })

  pub leads_received : (riding : Riding R) (Q : ℕ → FullBlock (Payload R) → Type 0) →
      ((b : ℕ) → KeptBy (payload_absorbed riding) (Q b)) →
      (carrying : Carrying K) (c : ℕ) (p : Port R K) (mail : Mail (FromHome R) K) (rest : List (Mail (FromHome R) K)) →
      c < CORES_MAX → length p.cache ≡ LINES →
      p.messages.items ≡ mail ∷ rest → (line_for riding.fresh p.cache (block_of mail.item)).block ≡ block_of mail.item →
      Leads riding Q Q c p (port_taking riding carrying p (mail ∷ rest))
  leads_received riding Q well carrying c p mail rest lc long is at =
      leads_at riding Q Q well c p m k here
      (λ b other. sight-received_other riding carrying p mail rest b long is at (λ (e : k ≡ b). other (sym e)))
      (λ b block other has. has)
    where
      m : Port R K
      m = port_taking riding carrying p (mail ∷ rest)

      k : ℕ
      k = block_of mail.item

      here : (entry : Entry R) (sights : ℕ → Sight R) → sights c ≡ port_sight riding k p → Shows (Q k) k entry sights →
          Shows (Q k) k entry
          (sight_at c (port_sight riding k m) sights)
      here entry sights shows s =
          let head : (sights c).messages ≡ mail.item ∷ of_block block_of k rest = ap (λ (x : Sight R). x.messages) shows
          ∙ (ap (of_block block_of k) is ∙ (let t : (k == k) ≡ true = grind (arith, nat_tests) in
          ap (λ (u : Bool). cons_if u mail.item (of_block block_of k rest)) t)) in
          let moved = for_message riding (Q k) (well k) k entry sights c mail.item (of_block block_of k rest) lc head
          s in
          let e : sight_received riding mail.item (of_block block_of k rest) (sights c) ≡ port_sight riding k m = ap
          (λ (x : Sight R). sight_received riding mail.item (of_block block_of k rest) x) shows
          ∙ sym (sight-received riding carrying p mail rest long is at) in
          subst (λ (x : Sight R). Shows (Q k) k entry (sight_at c x sights)) e moved

  pub leads_asking : (riding : Riding R) (Q : ℕ → FullBlock (Payload R) → Type 0) →
      ((b : ℕ) → KeptBy (payload_absorbed riding) (Q b)) → (c : ℕ) (p : Port R K)
      (block : ℕ) (kind : Kind) → c < CORES_MAX → length p.cache ≡ LINES →
      ((line_for riding.fresh p.cache block).state ≢ I →
      (line_for riding.fresh p.cache block).block % LINES ≡ block % LINES) → is_transient (line_for riding.fresh p.cache
      block).state ≡ false →
      is_allowed (line_for riding.fresh p.cache block) block kind ≡ false →
      Leads riding Q Q c p (port_asking riding p block kind)
  leads_asking riding Q well c p block kind lc long placed still needed =
      leads_at riding Q Q well c p m k here
      (λ b other. sight-asking_other riding p block kind b long still needed (λ (e : k ≡ b). other (sym e)))
      (λ b block other has. has)
    where
      m : Port R K
      m = port_asking riding p block kind

      l : Line R
      l = line_for riding.fresh p.cache block

      k : ℕ
      k = request_block (asks l block kind)

      there : line_for riding.fresh p.cache k ≡ l
      there = asked_there riding p block kind placed still

      here : (entry : Entry R) (sights : ℕ → Sight R) → sights c ≡ port_sight riding k p → Shows (Q k) k entry sights →
          Shows (Q k) k entry
          (sight_at c (port_sight riding k m) sights)
      here entry sights shows s =
          let line : (sights c).line ≡ line_here k l = ap (λ (x : Sight R). x.line) shows ∙ ap (line_here k) there in
          let needs = asked_needed k l block kind still needed refl in
          let moved = for_wish riding (Q k) (well k) k block kind entry sights c lc
          (ap (λ (x : Line R). is_transient x.state) line ∙ needs.0)
          (ap (λ (x : Line R). is_allowed x block kind) line ∙ needs.1) (λ (e : (sights c).line.state ≡ I). needs.2
          (ap (λ (x : Line R). x.state) (sym line)
          ∙ e)) s in
          let e : sight_asking block kind (sights c) ≡ port_sight riding k m =
          ap (λ (x : Sight R). sight_asking block kind x) shows
          ∙ sym (sight-asking riding p block kind long placed still needed) in
          subst (λ (x : Sight R). Shows (Q k) k entry (sight_at c x sights)) e moved

  -- an access of the port's core
  pub leads_touch : (riding : Riding R) (Q P : ℕ → FullBlock (Payload R) → Type 0) →
      ((b : ℕ) → KeptBy (payload_absorbed riding) (P b)) → (core : ℕ) (port : Port R K)
      (touched slot : ℕ) (kind : Kind) (value : ℕ) (rider : R) → core < CORES_MAX → length port.cache ≡ LINES →
      is_allowed (line_for riding.fresh port.cache touched) touched kind ≡ true
      → TouchGives Q P core touched kind (payload_at riding port touched) (record {
        words =
            words_left kind (line_for riding.fresh port.cache touched).words slot value;
        rider = rider;
      })
      → Leads riding Q P core port (port_touched riding port touched slot kind value rider)
  leads_touch riding Q P well core port touched slot kind value rider lc long allowed gives =
      leads_at riding Q P well core port m touched here elsewhere
      (λ b block other has. gives.elsewhere b block other has)
    where
      m : Port R K
      m = port_touched riding port touched slot kind value rider

      l : Line R
      l = line_for riding.fresh port.cache touched

      words : List ℕ
      words = words_left kind l.words slot value

      at : l.block ≡ touched
      at = grind (arith, nat_tests)

      holds : line_here touched l ≡ l
      holds = let t : (l.block == touched) ≡ true = grind (arith, nat_tests) in ap (λ (u : Bool). line_if u touched l) t

      new_line : line_here touched (line_for riding.fresh m.cache touched)
          ≡ record (line_here touched l) { words = words; rider = rider }
      new_line =
          let left : line_for riding.fresh m.cache touched ≡ record l { words = words; rider = rider } =
          left_line riding port.cache touched slot kind value rider long in
          let t : (l.block == touched) ≡ true = grind (arith, nat_tests) in
          ap (line_here touched) left
          ∙ (ap (λ (u : Bool). line_if u touched (record l { words = words; rider = rider })) t
          ∙ ap (λ (x : Line R). (let y : Line R = record x { words = words; rider = rider } in y)) (sym holds))

      here : (entry : Entry R) (sights : ℕ → Sight R) → sights core ≡ port_sight riding touched port →
          Shows (Q touched) touched entry sights →
          Shows (P touched) touched entry
          (sight_at core (port_sight riding touched m) sights)
      here entry sights shows s =
          let line : (sights core).line ≡ l = ap (λ (x : Sight R). x.line) shows ∙ holds in
          let new : Payload R = record { words = words; rider = rider } in
          let moved = for_touch (Q touched) (P touched) touched core kind (payload_at riding port touched) new lc
          (λ bl. gives.here bl lc) entry
          sights (ap copy_in line)
          (ap (λ (x : Line R). is_allowed x touched kind) line ∙ allowed) s in
          let e : sight_accessed words rider (sights core) ≡ port_sight riding touched m =
          ap (λ (x : Sight R). sight_accessed words rider x) shows
          ∙ ap (λ (x : Line R). (let y : Sight R = record (port_sight riding touched port) { line = x } in y))
          (sym new_line) in
          subst (λ (x : Sight R). Shows (P touched) touched entry (sight_at core x sights)) e moved

      elsewhere : (b : ℕ) → b ≢ touched → SameSight (port_sight riding b port) (port_sight riding b m)
      elsewhere b other =
          let line = left_other riding port.cache touched slot kind value rider b long
          (λ (e : l.block ≡ b). other (sym e
          ∙ at)) in
          record {
            requests = refl;
            responses = refl;
            messages = refl;
            state = line.state;
            block = line.block;
            payload = line.payload;
          }

  -- an act that changes one port and leaves the home
  pub all_set : (riding : Riding R) (carrying : Carrying K) (Q P : ℕ → FullBlock (Payload R) → Type 0) (m : Memory R K)
      (c : ℕ) (p : Port R K) →
      c < length m.ports → Leads riding Q P c (port_at carrying m.ports c) p → AllShow riding carrying Q m →
      AllShow riding carrying P (with_port m c p)
  all_set riding carrying Q P m c p lc leads f =
      record {
        blocks = λ b.
            same_sights (P b) b (entry_at riding.fresh m.home b) (entry_at riding.fresh m.home b)
            (sight_at c (port_sight riding b p) (λ d. port_sight riding b (port_at carrying m.ports d)))
            (λ d. port_sight riding b (port_at carrying (slice_set m.ports c p) d)) refl
            (λ d ld. at b d) (leads.each b (entry_at riding.fresh m.home b) (λ d. port_sight riding b
            (port_at carrying m.ports d)) refl (f.blocks b));
      }
    where
      at : (b d : ℕ) → sight_at c (port_sight riding b p) (λ x. port_sight riding b (port_at carrying m.ports x))
          d ≡ port_sight riding b
          (port_at carrying (slice_set m.ports c p) d)
      at b d = sym (ap (port_sight riding b) (port_at-set carrying m.ports c p d lc) ∙ split (d == c))
        where
          split : (t : Bool) → port_sight riding b (if t then p else port_at carrying m.ports d) ≡ (if t then port_sight
              riding b p else port_sight riding b
              (port_at carrying m.ports d))
          split true = refl
          split false = refl

-- a block of which Q holds, in whose line of core c an access of the kind finds this copy
pub record Finds {R : Type 0} (Q : FullBlock (Payload R) → Type 0) (c : ℕ) (kind : Kind) (copy : Payload R) : Type 0
  where
    pub block : FullBlock (Payload R)
    pub core : c < CORES_MAX
    pub fits : PhasesFit block
    pub line : (block.seats c).line ≡ copy
    pub may : phase_allows kind (block.seats c).phase ≡ true
    pub has : Q block

module _ {R K : Type 0} where
  pub touch_finds : (riding : Riding R) (carrying : Carrying K) (Q : ℕ → FullBlock (Payload R) →
      Type 0) (m : Memory R K) (c block : ℕ) (kind : Kind) →
      c < CORES_MAX → allows riding (port_at carrying m.ports c) block kind ≡ true → AllShow riding carrying Q m →
      Finds (Q block) c kind (payload_at riding (port_at carrying m.ports c) block)
  touch_finds riding carrying Q m c block kind lc allowed f =
      record { block = s.block; core = lc; fits = s.fits; line = ap copy_in line; may = may; has = s.has }
    where
      l : Line R
      l = line_for riding.fresh (port_at carrying m.ports c).cache block

      s : Shows (Q block) block (entry_at riding.fresh m.home block) (λ d. port_sight riding block
          (port_at carrying m.ports d))
      s = f.blocks block

      at : (l.block == block) ≡ true
      at = grind (arith, nat_tests)

      line : line_with block (s.block.seats c) ≡ l
      line = ap (λ (v : Sight R). v.line) (s.shows c lc) ∙ ap (λ (t : Bool). line_if t block l) at

      may : phase_allows kind (s.block.seats c).phase ≡ true
      may = sym (shown_allows block kind (s.block.seats c)) ∙ (ap (λ (x : Line R). is_allowed x block kind) line
          ∙ allowed)
