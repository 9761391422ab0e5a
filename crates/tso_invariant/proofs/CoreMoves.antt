-- What an enabled move does at its core can be done, and leaves the core well. One function for each kind of move, by
-- cases of what the core needs, of its queue and of who asks. Each case says only which of `told_turn` and
-- `asking_turn` it is, and that the core is well afterwards: executed, pushed to or popped from.
use Rattle.std.proofs.Common.{◌≡◌, ◌∙◌, ap, refl, sym, subst, ℕ, ◌+◌, ◌<◌, ◌==◌, ◌/◌, Bool, true, false, not, ◌&&◌}
use Rattle.std.proofs.Common.{◌||◌, List, [], ◌∷◌, ◌++◌, length}
use Rattle.std.proofs.Common.{Option, Some, arith}
use Rattle.std.specs.Prelude.{drop, if◌then◌else◌}
use Rattle.std.proofs.lemmas.Bool.{and_parts, not-true}
use Rattle.access_times.specs.Riding.{Riding, Carrying}
use Rattle.image_mem.specs.Contents.{Contents}
use Rattle.link_order.specs.Queue.{is_nil}
use Rattle.rtr_types.specs.declared.TheConstants.{BLOCK_WORDS}
use Rattle.rtr_types.specs.declared.access.Access.{Access}
use Rattle.rtr_types.specs.declared.access.Kind.{Kind}
use Rattle.rtr_types.specs.declared.access.Kind.TheVariants.{Load as Loading, Store as Storing, Amo as Exchanging}
use Rattle.rtr_types.specs.declared.instr.Instr.{Instr}
use Rattle.rv_core.specs.declared.core_state.Need.{Need}
use Rattle.rv_core.specs.declared.core_state.Need.TheVariants.{Local, Load, Store, Amo, Done}
use Rattle.rv_core.specs.Steps.{need, after, is_done, access_of as need_access}
use Rattle.rv_core.proofs.LawLemmas.{within_law}
use Rattle.msi_cache.specs.Lines.{waits}
use Rattle.msi_directory.specs.Blocks.{block_count}
use Rattle.msi_memory.specs.declared.port.Port.{Port}
use Rattle.msi_memory.specs.Acts.{TakeMessage, can, after_act, allows, data_next}
use Rattle.msi_memory.specs.Memories.{Memory, port_at, word_at}
use Rattle.msi_laws.specs.Holds.{MemoryHolds, PortHolds}
use Rattle.msi_laws.proofs.ActInvariant.{memory_kept}
use Rattle.msi_laws.proofs.PortsKept.{length_act}
use Rattle.msi_laws.proofs.Waits.{still_law}
use Rattle.msi_laws.specs.Waits.{Awaited}
use Rattle.msi_laws.proofs.Awaits.{Granted, awaited_kept, data_granted, taken_there}
use Rattle.msi_state.specs.Events.{access_of, next_instr, port_taken}
use Rattle.msi_state.specs.Rests.{may_access}
use Rattle.tso_state.specs.declared.pending.Pending.{Pending}
use Rattle.tso_state.specs.declared.pending.Pending.TheVariants.{Load as PendingLoad, Store as PendingStore}
use Rattle.tso_state.specs.declared.pending.Asker.{Asker}
use Rattle.tso_state.specs.declared.pending.Asker.TheVariants.{Nobody, Next, Head}
use Rattle.tso_state.specs.Pending.{count_of, forwarded, value_of, word_of}
use Rattle.tso_state.specs.States.{BufferedCore}
use Rattle.tso_state.specs.Events.{Alone, Ordered, Logged, Event, Nothing, Executes, Buffers, Performs, Drains, Logs}
use Rattle.tso_state.specs.Events.{pending_store, event_loading, event_executing, event_ordering}
use Rattle.tso_state.specs.Events.{event_granted, event_receiving, core_after, queue_after, asker_after, tellings}
use Rattle.tso_state.specs.Events.{locals_behind}
use Rattle.tso_state.specs.Steps.{acts_told, acts_asking, can_execute, can_order, case_holds, head_access, has_room}
use Rattle.tso_state.specs.Steps.{is_fence, is_next}
use Rattle.tso_invariant.specs.Holds.{BufferedFits, BufferedHolds, QueueHolds, is_asking, may_ask, next_may_ask}
use Rattle.tso_invariant.specs.Holds.{wish_by}
use Rattle.msi_laws.proofs.PortWaits.{awaited_denied}
use Rattle.tso_invariant.proofs.Queues.{asks_past, asks_popped, asks_pushed, fits_asking, fits_executed, fits_popped}
use Rattle.tso_invariant.proofs.Queues.{fits_pushed, head_within, is_head}
use Rattle.tso_invariant.proofs.Queues.{load_asks_not, room_for, wish_past, wish_popped, wish_pushed}
use Rattle.tso_invariant.proofs.ToldAtPorts.{Turned, asking_turn, first_tellable, locals_alone, tellable, told_turn}
use Rattle.tso_invariant.proofs.EventCases.{either_event, where_allowed}
use Rattle.tso_invariant.proofs.OrderedStores.{stored}

-- what becomes of a core in which this happens, with this asker
abbrev pub left : Contents → BufferedCore → Event → Asker → BufferedCore
left image t e asker = record { core = core_after image t.core e; queue = queue_after t.queue e; asker = asker }

block_within : (words word : ℕ) → word < words → word / BLOCK_WORDS < block_count words
block_within words word lt = omega arith

pub refused_still : (a w : Bool) → (a || not w) ≡ true → a ≡ false → w ≡ false
refused_still true w e f = absurd (cc)
refused_still false w e f = not-true w e

nil_is : (queue : List Pending) → is_nil queue ≡ true → queue ≡ []
nil_is [] e = refl
nil_is (x ∷ queue) e = absurd (cc)

module _ {R K : Type 0} where
  -- ---- what is well at a port

  executed_holds : (image : Contents) (riding : Riding R) (c : ℕ) (t : BufferedCore) (p : Port R K) (v : ℕ) →
      is_done (need image t.core) ≡ false →
      is_next t.asker ≡ false → BufferedHolds image riding c t p →
      BufferedHolds image riding c (record { core = after image t.core v; queue = t.queue; asker = t.asker }) p
  executed_holds image riding c t p v more older h =
      record {
        fits = fits_executed image c t v t.asker more h.fits (asks_past t.asker (need image t.core)
            (need image (after image t.core v)) t.queue older h.fits.asks);
        awaited = subst (λ (wanted : Option (Kind × ℕ)). Awaited wanted riding p)
            (wish_past t.asker (need image t.core) (need image (after image t.core v)) t.queue older) h.awaited;
        waiting = h.waiting;
      }

  pushed_holds : (image : Contents) (riding : Riding R) (c : ℕ) (t : BufferedCore) (p : Port R K) (v : ℕ)
      (x : Pending) → is_done (need image t.core) ≡ false →
      is_next t.asker ≡ false → room_for x t.queue ≡ true → count_of x ≡ t.core.count + 1 → word_of x < image.words →
      BufferedHolds image riding c t p →
      BufferedHolds image riding c (record {
        core = after image t.core v;
        queue = t.queue ++ x ∷ [];
        asker = t.asker;
      }) p
  pushed_holds image riding c t p v x more older room is within h =
      record {
        fits = fits_pushed image c t v x t.asker more h.fits room is within
            (asks_pushed t.asker (need image t.core) (need image (after image t.core v)) t.queue
            (x ∷ []) older h.fits.asks);
        awaited = subst (λ (wanted : Option (Kind × ℕ)). Awaited wanted riding p)
            (sym (wish_pushed t.asker (need image t.core) (need image (after image t.core v)) t.queue (x ∷ []) older
            h.fits.asks)) h.awaited;
        waiting = h.waiting;
      }

  -- the oldest leaves, for which the port doesn't wait
  popped_holds : (image : Contents) (riding : Riding R) (c : ℕ) (t : BufferedCore) (p : Port R K) (x : Pending)
      (rest : List Pending) →
      t.queue ≡ x ∷ rest → is_head t.asker ≡ false → BufferedHolds image riding c t p →
      BufferedHolds image riding c (record { core = t.core; queue = drop 1 t.queue; asker = t.asker }) p
  popped_holds image riding c t p x rest is other h =
      subst (λ (q : List Pending). BufferedHolds image riding c (record { core = t.core; queue = q; asker = t.asker })
      p) (sym (ap (drop 1) is))
      (record {
        fits = fits_popped image c t x rest t.asker h.fits is
            (asks_popped t.asker (need image t.core) x rest other (ap (may_ask t.asker (need image t.core)) (sym is)
            ∙ h.fits.asks));
        awaited = subst (λ (wanted : Option (Kind × ℕ)). Awaited wanted riding p)
            (ap (wish_by t.asker (need image t.core)) is
            ∙ sym (wish_popped t.asker (need image t.core) x rest other)) h.awaited;
        waiting = h.waiting;
      })

  -- ---- a core's own move

  -- what it does, by what it needs
  abbrev CoreTurn : Contents → Riding R → Carrying K → R → Memory R K → (c : ℕ) → BufferedCore → Need → Event → Type 0
  CoreTurn image riding carrying rider m c t needed e =
      Turned image riding carrying m c (acts_asking c (need_access needed) e ++ acts_told c rider (tellings t e))
      (left image t e (asker_after Next t.asker e))

  -- what is there of it
  record CanTurn (image : Contents) (riding : Riding R) (carrying : Carrying K) (m : Memory R K) (c : ℕ)
      (t : BufferedCore) : Type 0 where
    holds : MemoryHolds riding carrying m
    there : c < length m.ports
    blocks : length m.home ≡ block_count image.words
    well : BufferedHolds image riding c t (port_at carrying m.ports c)

  -- the next instruction asks
  next_asks : (image : Contents) (riding : Riding R) (carrying : Carrying K) (m : Memory R K) (c : ℕ) (t : BufferedCore)
      (kind : Kind) (word : ℕ) →
      CanTurn image riding carrying m c t → need_access (need image t.core) ≡ Some (kind, word) →
      next_may_ask (need image t.core) t.queue ≡ true →
      waits (port_at carrying m.ports c).cache ≡ false →
      allows riding (port_at carrying m.ports c) (word / BLOCK_WORDS) kind ≡ false →
      Turned image riding carrying m c (acts_asking c (Some (kind, word)) Nothing)
      (record { core = t.core; queue = t.queue; asker = Next })
  next_asks image riding carrying m c t kind word h is may still refused =
      asking_turn image riding carrying m c kind word
      (record { core = t.core; queue = t.queue; asker = Next }) h.holds h.there
      (rw h.blocks (block_within image.words word (within_law image t.core kind word is))) still refused
      (fits_asking image c t Next h.well.fits may) is refl

  loading_turn : (image : Contents) (riding : Riding R) (carrying : Carrying K) (rider : R) (m : Memory R K) (c : ℕ)
      (t : BufferedCore) (word : ℕ) →
      CanTurn image riding carrying m c t → is_next t.asker ≡ false → need image t.core ≡ Load word →
      has_room t.queue ≡ true →
      allows riding (port_at carrying m.ports c) (word / BLOCK_WORDS) Loading ≡ true →
      CoreTurn image riding carrying rider m c t (Load word)
      (event_loading image riding t (port_at carrying m.ports c) word)
  loading_turn image riding carrying rider m c t word h older is room allowed = by_nil (is_nil t.queue)
    where
      p : Port R K
      p = port_at carrying m.ports c

      a : Access
      a = access_of image riding t.core p word Loading

      x : Pending
      x = PendingLoad (t.core.count + 1) word (forwarded t.queue word (word_at riding p word))

      more : is_done (need image t.core) ≡ false
      more = ap is_done is

      by_nil : (b : Bool) →
          CoreTurn image riding carrying rider m c t (Load word)
          (if b then Performs a else Buffers (next_instr t.core) x)
      by_nil true =
          told_turn image riding carrying rider m c (Ordered a ∷ []) (left image t (Performs a) t.asker) h.holds h.there
          (first_tellable riding p (Ordered a) [] allowed refl)
          (executed_holds image riding c t p a.before more older h.well)
      by_nil false =
          told_turn image riding carrying rider m c []
          (left image t (Buffers (next_instr t.core) x) t.asker) h.holds h.there refl
          (pushed_holds image riding c t p (value_of x) x more older room refl
          (within_law image t.core Loading word (ap need_access is)) h.well)

  core_turn_by : (image : Contents) (riding : Riding R) (carrying : Carrying K) (rider : R) (memory : Memory R K)
      (c : ℕ)
      (core : BufferedCore) (needed : Need)
      (fence : Bool) → CanTurn image riding carrying memory c core → is_next core.asker ≡ false →
      need image core.core ≡ needed →
      case_holds needed fence riding core.queue (port_at carrying memory.ports c) ≡ true →
      CoreTurn image riding carrying rider memory c core needed
      (event_executing needed image riding core (port_at carrying memory.ports c))
  core_turn_by image riding carrying rider memory c core Local fence turns older is held =
      told_turn image riding carrying rider memory c (tellings core (Executes (next_instr core.core)))
      (left image core (Executes (next_instr core.core)) core.asker) turns.holds turns.there
      (by_nil (is_nil core.queue))
      (executed_holds image riding c core (port_at carrying memory.ports c) 0 (ap is_done is) older turns.well)
    where
      by_nil : (b : Bool) →
          tellable riding (port_at carrying memory.ports c) (if b then Alone (next_instr core.core) ∷ [] else []) ≡ true
      by_nil true = refl
      by_nil false = refl
  core_turn_by image riding carrying rider memory c core (Store word whole) fence turns older is held =
      told_turn image riding carrying rider memory c []
      (left image core (Buffers (next_instr core.core) (pending_store image core.core word)) core.asker) turns.holds
      turns.there refl
      (pushed_holds image riding c core (port_at carrying memory.ports c) 0 (pending_store image core.core word)
      (ap is_done is) older held refl
      (within_law image core.core Storing word (ap need_access is)) turns.well)
  core_turn_by image riding carrying rider memory c core (Load word) fence turns older is held =
      by_allowed (allows riding p (word / BLOCK_WORDS) Loading) refl
    where
      p : Port R K
      p = port_at carrying memory.ports c

      parts : (has_room core.queue ≡ true)
          × ((allows riding p (word / BLOCK_WORDS) Loading || not (waits p.cache)) ≡ true)
      parts = and_parts (has_room core.queue) (allows riding p (word / BLOCK_WORDS) Loading || not (waits p.cache)) held

      by_allowed : (b : Bool) → allows riding p (word / BLOCK_WORDS) Loading ≡ b →
          CoreTurn image riding carrying rider memory c core (Load word)
          (if b then event_loading image riding core p word else Nothing)
      by_allowed true f = loading_turn image riding carrying rider memory c core word turns older is parts.0 f
      by_allowed false f =
          next_asks image riding carrying memory c core Loading word turns (ap need_access is)
          (ap (λ (n : Need). next_may_ask n core.queue) is ∙ parts.0)
          (refused_still (allows riding p (word / BLOCK_WORDS) Loading) (waits p.cache) parts.1 f) f
  core_turn_by image riding carrying rider memory c core (Amo word) fence turns older is held =
      by_allowed (allows riding p (word / BLOCK_WORDS) Exchanging) refl
    where
      p : Port R K
      p = port_at carrying memory.ports c

      a : Access
      a = access_of image riding core.core p word Exchanging

      parts : (is_nil core.queue ≡ true) × (not (waits p.cache) ≡ true)
      parts = and_parts (is_nil core.queue) (not (waits p.cache)) held

      by_allowed : (b : Bool) → allows riding p (word / BLOCK_WORDS) Exchanging ≡ b →
          CoreTurn image riding carrying rider memory c core (Amo word) (if b then Performs a else Nothing)
      by_allowed true f =
          told_turn image riding carrying rider memory c (Ordered a ∷ [])
          (left image core (Performs a) core.asker) turns.holds turns.there
          (first_tellable riding p (Ordered a) [] f refl)
          (executed_holds image riding c core p a.before (ap is_done is) older turns.well)
      by_allowed false f =
          next_asks image riding carrying memory c core Exchanging word turns (ap need_access is)
          (ap (λ (n : Need). next_may_ask n core.queue) is ∙ parts.0)
          (not-true (waits p.cache) parts.1) f
  core_turn_by image riding carrying rider memory c core (Done stop) fence turns older is held = absurd (cc)

  pub core_turn : (image : Contents) (riding : Riding R) (carrying : Carrying K) (rider : R) (m : Memory R K) (c : ℕ)
      (t : BufferedCore) →
      MemoryHolds riding carrying m → c < length m.ports → length m.home ≡ block_count image.words →
      BufferedHolds image riding c t (port_at carrying m.ports c) →
      can_execute image riding t (port_at carrying m.ports c) ≡ true →
      CoreTurn image riding carrying rider m c t (need image t.core)
      (event_executing (need image t.core) image riding t (port_at carrying m.ports c))
  core_turn image riding carrying rider m c t holds there blocks well e =
      let parts = and_parts (not (is_next t.asker))
      (case_holds (need image t.core) (is_fence image t.core) riding t.queue (port_at carrying m.ports c)) e in
      core_turn_by image riding carrying rider m c t (need image t.core) (is_fence image t.core)
      (record { holds = holds; there = there; blocks = blocks; well = well })
      (not-true (is_next t.asker) parts.0) refl parts.1

  -- ---- the oldest pending access

  abbrev OrderTurn : Contents → Riding R → Carrying K → R → Memory R K → (c : ℕ) → BufferedCore → List
      Pending → Event → Type 0
  OrderTurn image riding carrying rider m c t queue e =
      Turned image riding carrying m c (acts_asking c (head_access queue) e ++ acts_told c rider (tellings t e))
      (left image t e (asker_after Head t.asker e))

  -- the port doesn't wait for a head store that it allows
  allowed_not_asked : (image : Contents) (riding : Riding R) (blocks c : ℕ) (t : BufferedCore) (p : Port R K)
      (kind : Kind) (word : ℕ) → PortHolds riding blocks p →
      BufferedHolds image riding c t p → head_access t.queue ≡ Some (kind, word) →
      allows riding p (word / BLOCK_WORDS) kind ≡ true → is_head t.asker ≡ false
  allowed_not_asked image riding blocks c t p kind word holds h is allowed = by_asker t.asker h.awaited h.waiting
    where
      by_asker : (a : Asker) → Awaited (wish_by a (need image t.core) t.queue) riding p → waits p.cache ≡ is_asking a →
          is_head a ≡ false
      by_asker Nobody f w = refl
      by_asker Next f w = refl
      by_asker Head f w =
          absurd (let refused = awaited_denied riding blocks p (word / BLOCK_WORDS) kind holds
          (subst (λ (wanted : Option (Kind × ℕ)). Awaited wanted riding p) is f) w in cc (sym allowed ∙ refused))

  drained_turn : (image : Contents) (riding : Riding R) (carrying : Carrying K) (rider : R) (m : Memory R K) (c : ℕ)
      (t : BufferedCore) (x : Pending)
      (rest : List Pending) (a : Access) → CanTurn image riding carrying m c t → t.queue ≡ x ∷ rest →
      is_head t.asker ≡ false →
      allows riding (port_at carrying m.ports c) (a.word / BLOCK_WORDS) a.kind ≡ true →
      Turned image riding carrying m c (acts_told c rider (tellings t (Drains a))) (left image t (Drains a) t.asker)
  drained_turn image riding carrying rider m c t x rest a h is other allowed =
      told_turn image riding carrying rider m c (tellings t (Drains a))
      (left image t (Drains a) t.asker) h.holds h.there
      (first_tellable riding (port_at carrying m.ports c) (Ordered a)
      (locals_behind t.core a.at.count (drop 1 t.queue)) allowed
      (locals_alone t.core a.at.count (drop 1 t.queue)))
      (popped_holds image riding c t (port_at carrying m.ports c) x rest is other h.well)

  order_turn_by : (image : Contents) (riding : Riding R) (carrying : Carrying K) (rider : R) (memory : Memory R K)
      (c : ℕ)
      (core : BufferedCore) (queue : List Pending) →
      CanTurn image riding carrying memory c core → core.queue ≡ queue →
      can_order queue riding (port_at carrying memory.ports c) ≡ true →
      OrderTurn image riding carrying rider memory c core queue
      (event_ordering queue riding core.core.id (port_at carrying memory.ports c))
  order_turn_by image riding carrying rider memory c core [] turns is held = absurd (cc)
  order_turn_by image riding carrying rider memory c core (PendingLoad count word value ∷ rest) turns is held =
      by_test (allows riding p (word / BLOCK_WORDS) Loading) refl (word_at riding p word == value)
    where
      p : Port R K
      p = port_at carrying memory.ports c

      at : Instr
      at = record { core = core.core.id; count = count }

      a : Access
      a = record { at = at; word = word; kind = Loading; before = word_at riding p word; after = word_at riding p word }

      other : is_head core.asker ≡ false
      other = load_asks_not core.asker (need image core.core) count word value rest
          (ap (may_ask core.asker (need image core.core))
          (sym is) ∙ turns.well.fits.asks)

      logs : Turned image riding carrying memory c (acts_told c rider (tellings core (Logs at word value)))
          (left image core (Logs at word value) core.asker)
      logs =
          told_turn image riding carrying rider memory c (tellings core (Logs at word value))
          (left image core (Logs at word value) core.asker) turns.holds turns.there
          (first_tellable riding p (Logged at word value) (locals_behind core.core count (drop 1 core.queue)) refl
          (locals_alone core.core count (drop 1 core.queue)))
          (popped_holds image riding c core p (PendingLoad count word value) rest is other turns.well)

      by_test : (b : Bool) → allows riding p (word / BLOCK_WORDS) Loading ≡ b → (same : Bool) →
          OrderTurn image riding carrying rider memory c core (PendingLoad count word value ∷ rest)
          (if b && same then Drains a else Logs at word value)
      by_test true f true = drained_turn image riding carrying rider memory c core
          (PendingLoad count word value) rest a turns is other f
      by_test true f false = logs
      by_test false f same = logs
  order_turn_by image riding carrying rider memory c core (PendingStore count word mask bits ∷ rest) turns is held =
      by_allowed (allows riding p (word / BLOCK_WORDS) Storing) refl
    where
      p : Port R K
      p = port_at carrying memory.ports c

      a : Access
      a = stored core.core.id count word mask bits (word_at riding p word)

      by_allowed : (b : Bool) → allows riding p (word / BLOCK_WORDS) Storing ≡ b →
          OrderTurn image riding carrying rider memory c core (PendingStore count word mask bits ∷ rest)
          (if b then Drains a else Nothing)
      by_allowed true f =
          drained_turn image riding carrying rider memory c core (PendingStore count word mask bits) rest a turns is
          (allowed_not_asked image riding (length memory.home) c core p Storing word
          (turns.holds.ports c turns.there) turns.well
          (ap head_access is) f) f
      by_allowed false f =
          asking_turn image riding carrying memory c Storing word
          (record { core = core.core; queue = core.queue; asker = Head })
          turns.holds turns.there
          (rw turns.blocks (block_within image.words word
          (head_within image.words core.core.count (PendingStore count word mask bits) rest
          (subst (λ (q : List Pending). QueueHolds image.words core.core.count q) is turns.well.fits.queue))))
          (refused_still (allows riding p (word / BLOCK_WORDS) Storing) (waits p.cache) held f) f
          (fits_asking image c core Head turns.well.fits (ap (may_ask Head (need image core.core)) is))
          (ap head_access is) refl

  pub order_turn : (image : Contents) (riding : Riding R) (carrying : Carrying K) (rider : R) (m : Memory R K) (c : ℕ)
      (t : BufferedCore) →
      MemoryHolds riding carrying m → c < length m.ports → length m.home ≡ block_count image.words →
      BufferedHolds image riding c t (port_at carrying m.ports c) →
      can_order t.queue riding (port_at carrying m.ports c) ≡ true →
      OrderTurn image riding carrying rider m c t t.queue
      (event_ordering t.queue riding t.core.id (port_at carrying m.ports c))
  order_turn image riding carrying rider m c t holds there blocks well e =
      order_turn_by image riding carrying rider m c t t.queue
      (record { holds = holds; there = there; blocks = blocks; well = well }) refl e

  -- ---- a message

  -- what happens once the port, which is this one then, took it
  abbrev MessageTurn : Contents → Riding R → Carrying K → R → Memory R K → (c : ℕ) → BufferedCore →
      Port R K → Event → Type 0
  MessageTurn image riding carrying rider m c t q e =
      Turned image riding carrying m c (acts_told c rider (tellings t e))
      (left image t e (if waits q.cache then t.asker else Nobody))

  -- with nobody's access to wait for
  nobody_holds : (image : Contents) (riding : Riding R) (c : ℕ) (t : BufferedCore) (q : Port R K) (w : Bool) →
      waits q.cache ≡ false → w ≡ false →
      BufferedFits image c (record { core = t.core; queue = t.queue; asker = Nobody }) →
      (a : Asker) → BufferedHolds image riding c
      (record { core = t.core; queue = t.queue; asker = if w then a else Nobody }) q
  nobody_holds image riding c t q true still e fits a = absurd (cc)
  nobody_holds image riding c t q false still e fits a = record { fits = fits; awaited = still; waiting = still }

  data_loading : (image : Contents) (riding : Riding R) (carrying : Carrying K) (rider : R) (m : Memory R K) (c : ℕ)
      (t : BufferedCore) (word : ℕ) →
      MemoryHolds riding carrying m → c < length m.ports → BufferedFits image c t → need image t.core ≡ Load word →
      has_room t.queue ≡ true →
      waits (port_at carrying m.ports c).cache ≡ false →
      allows riding (port_at carrying m.ports c) (word / BLOCK_WORDS) Loading ≡ true →
      MessageTurn image riding carrying rider m c t (port_at carrying m.ports c)
      (event_loading image riding t (port_at carrying m.ports c) word)
  data_loading image riding carrying rider m c t word holds there fits is room still allowed =
      let q : Port R K = port_at carrying m.ports c in
      let a : Access = access_of image riding t.core q word Loading in
      let x : Pending = PendingLoad (t.core.count + 1) word (forwarded t.queue word (word_at riding q word)) in
      let more : is_done (need image t.core) ≡ false = ap is_done is in
      either_event (λ (e : Event). MessageTurn image riding carrying rider m c t q e) (is_nil t.queue) (Performs a)
      (Buffers (next_instr t.core) x)
      (told_turn image riding carrying rider m c (Ordered a ∷ [])
      (left image t (Performs a) (if waits q.cache then t.asker else Nobody)) holds there
      (first_tellable riding q (Ordered a) [] allowed refl)
      (nobody_holds image riding c (left image t (Performs a) Nobody) q (waits q.cache) still still
      (fits_executed image c t a.before Nobody more fits refl) t.asker))
      (told_turn image riding carrying rider m c [] (left image t (Buffers (next_instr t.core) x)
      (if waits q.cache then t.asker else Nobody)) holds there refl
      (nobody_holds image riding c (left image t (Buffers (next_instr t.core) x) Nobody) q
      (waits q.cache) still still
      (fits_pushed image c t (value_of x) x Nobody more fits room refl
      (within_law image t.core Loading word (ap need_access is)) refl) t.asker))

  -- the access that data were asked for is allowed
  granted_access : (riding : Riding R) (needed : Option (Kind × ℕ)) (q : Port R K) → Granted riding needed q →
      may_access needed riding q ≡ true
  granted_access riding needed q g = ap (λ (wanted : Option (Kind × ℕ)). may_access wanted riding q) g.needs ∙ g.allowed

  data_executing : (image : Contents) (riding : Riding R) (carrying : Carrying K) (rider : R) (m : Memory R K) (c : ℕ)
      (t : BufferedCore) (needed : Need) →
      MemoryHolds riding carrying m → c < length m.ports → BufferedFits image c t → need image t.core ≡ needed →
      next_may_ask needed t.queue ≡ true →
      Granted riding (need_access needed) (port_at carrying m.ports c) →
      MessageTurn image riding carrying rider m c t (port_at carrying m.ports c)
      (event_executing needed image riding t (port_at carrying m.ports c))
  data_executing image riding carrying rider m c t Local holds there fits is may g = absurd (cc)
  data_executing image riding carrying rider m c t (Store word whole) holds there fits is may g = absurd (cc)
  data_executing image riding carrying rider m c t (Done stop) holds there fits is may g = absurd (cc)
  data_executing image riding carrying rider m c t (Load word) holds there fits is may g =
      let q : Port R K = port_at carrying m.ports c in
      let allowed : allows riding q (word / BLOCK_WORDS) Loading ≡ true =
      granted_access riding (need_access (Load word)) q g in
      where_allowed (λ (e : Event). MessageTurn image riding carrying rider m c t q e)
      (allows riding q (word / BLOCK_WORDS) Loading) (event_loading image riding t q word) allowed
      (data_loading image riding carrying rider m c t word holds there fits is may g.still allowed)
  data_executing image riding carrying rider m c t (Amo word) holds there fits is may g =
      let q : Port R K = port_at carrying m.ports c in
      let a : Access = access_of image riding t.core q word Exchanging in
      let allowed : allows riding q (word / BLOCK_WORDS) Exchanging ≡ true =
      granted_access riding (need_access (Amo word)) q g in
      where_allowed (λ (e : Event). MessageTurn image riding carrying rider m c t q e)
      (allows riding q (word / BLOCK_WORDS) Exchanging) (Performs a) allowed
      (told_turn image riding carrying rider m c (Ordered a ∷ [])
      (left image t (Performs a) (if waits q.cache then t.asker else Nobody)) holds there
      (first_tellable riding q (Ordered a) [] allowed refl)
      (nobody_holds image riding c (left image t (Performs a) Nobody) q (waits q.cache) g.still g.still
      (fits_executed image c t a.before Nobody (ap is_done is) fits refl) t.asker))

  data_draining : (image : Contents) (riding : Riding R) (carrying : Carrying K) (rider : R) (m : Memory R K) (c : ℕ)
      (t : BufferedCore)
      (queue : List Pending) → MemoryHolds riding carrying m → c < length m.ports → BufferedFits image c t →
      t.queue ≡ queue →
      Granted riding (head_access queue) (port_at carrying m.ports c) →
      MessageTurn image riding carrying rider m c t (port_at carrying m.ports c)
      (event_ordering queue riding t.core.id (port_at carrying m.ports c))
  data_draining image riding carrying rider m c t [] holds there fits is g = absurd (let n = g.needs in cc)
  data_draining image riding carrying rider m c t (PendingLoad count word value ∷ rest) holds there fits is g =
      absurd (let n = g.needs in cc)
  data_draining image riding carrying rider m c t (PendingStore count word mask bits ∷ rest) holds there fits is g =
      let q : Port R K = port_at carrying m.ports c in
      let a : Access = stored t.core.id count word mask bits (word_at riding q word) in
      let allowed : allows riding q (word / BLOCK_WORDS) Storing ≡ true =
      granted_access riding (head_access (PendingStore count word mask bits ∷ rest)) q g in
      where_allowed (λ (e : Event). MessageTurn image riding carrying rider m c t q e)
      (allows riding q (word / BLOCK_WORDS) Storing) (Drains a) allowed
      (told_turn image riding carrying rider m c (tellings t (Drains a))
      (left image t (Drains a) (if waits q.cache then t.asker else Nobody)) holds there
      (first_tellable riding q (Ordered a)
      (locals_behind t.core count (drop 1 t.queue)) allowed (locals_alone t.core count (drop 1 t.queue)))
      (nobody_holds image riding c (left image t (Drains a) Nobody) q (waits q.cache) g.still g.still
      (subst (λ (queue : List Pending). BufferedFits image c
      (record { core = t.core; queue = queue; asker = Nobody })) (sym (ap (drop 1) is))
      (fits_popped image c t (PendingStore count word mask bits) rest Nobody fits is refl)) t.asker))

  -- a block's data end the access that asked for them
  granted_turn : (image : Contents) (riding : Riding R) (carrying : Carrying K) (rider : R) (m : Memory R K) (c : ℕ)
      (t : BufferedCore) (a : Asker) →
      MemoryHolds riding carrying m → c < length m.ports → BufferedFits image c t → t.asker ≡ a →
      Granted riding (wish_by a (need image t.core) t.queue) (port_at carrying m.ports c) →
      MessageTurn image riding carrying rider m c t (port_at carrying m.ports c)
      (event_granted a image riding t (port_at carrying m.ports c))
  granted_turn image riding carrying rider m c t Nobody holds there fits is g = absurd (let n = g.needs in cc)
  granted_turn image riding carrying rider m c t Next holds there fits is g =
      data_executing image riding carrying rider m c t (need image t.core) holds there fits refl
      (ap (λ (a : Asker). may_ask a (need image t.core) t.queue) (sym is) ∙ fits.asks) g
  granted_turn image riding carrying rider m c t Head holds there fits is g =
      data_draining image riding carrying rider m c t t.queue holds there fits refl g

  -- without them the port waits on, or no more
  quiet_turn : (image : Contents) (riding : Riding R) (carrying : Carrying K) (rider : R) (m : Memory R K) (c : ℕ)
      (t : BufferedCore) →
      MemoryHolds riding carrying m → c < length m.ports → can riding carrying m (TakeMessage c) ≡ true →
      BufferedHolds image riding c t (port_at carrying m.ports c) →
      MessageTurn image riding carrying rider (after_act riding carrying m (TakeMessage c)) c t
      (port_at carrying (after_act riding carrying m (TakeMessage c)).ports c) Nothing
  quiet_turn image riding carrying rider m c t holds there can_it h =
      told_turn image riding carrying rider left_m c []
      (left image t Nothing (if waits q.cache then t.asker else Nobody))
      (memory_kept riding carrying m (TakeMessage c) can_it holds)
      (subst (λ (n : ℕ). c < n) (sym (length_act riding carrying m (TakeMessage c))) there) refl
      (by_waits (waits q.cache) refl (waits (port_at carrying m.ports c).cache) refl)
    where
      left_m : Memory R K
      left_m = after_act riding carrying m (TakeMessage c)

      q : Port R K
      q = port_at carrying left_m.ports c

      by_waits : (w : Bool) → waits q.cache ≡ w → (v : Bool) → waits (port_at carrying m.ports c).cache ≡ v →
          BufferedHolds image riding c
          (record { core = t.core; queue = t.queue; asker = if w then t.asker else Nobody }) q
      by_waits true e true f =
          record {
            fits = h.fits;
            awaited = awaited_kept riding carrying m (TakeMessage c) c (wish_by t.asker (need image t.core) t.queue)
                holds can_it refl there h.awaited;
            waiting = e ∙ (sym f ∙ h.waiting);
          }
      by_waits true e false f =
          absurd (let still = still_law riding carrying m (TakeMessage c) c holds can_it refl there f in
          cc (sym e ∙ still))
      by_waits false e v f = record { fits = fits_asking image c t Nobody h.fits refl; awaited = e; waiting = e }

  pub message_turn : (image : Contents) (riding : Riding R) (carrying : Carrying K) (rider : R) (m : Memory R K) (c : ℕ)
      (t : BufferedCore) →
      MemoryHolds riding carrying m → c < length m.ports → can riding carrying m (TakeMessage c) ≡ true →
      BufferedHolds image riding c t (port_at carrying m.ports c) →
      let p = port_at carrying m.ports c in
      let e = event_receiving image riding carrying t p in
      Turned image riding carrying m c (TakeMessage c ∷ acts_told c rider (tellings t e))
      (left image t e (if waits (port_taken riding carrying p).cache then t.asker else Nobody))
  message_turn image riding carrying rider m c t holds there can_it h = by_data (data_next p.messages.items) refl
    where
      p : Port R K
      p = port_at carrying m.ports c

      left_m : Memory R K
      left_m = after_act riding carrying m (TakeMessage c)

      taken : Port R K
      taken = port_taken riding carrying p

      at : port_at carrying left_m.ports c ≡ taken
      at = taken_there riding carrying m c there

      all : (e : Event) → MessageTurn image riding carrying rider left_m c t taken e →
          Turned image riding carrying m c (TakeMessage c ∷ acts_told c rider (tellings t e))
          (left image t e (if waits taken.cache then t.asker else Nobody))
      all e turn =
          record {
            can = rw can_it turn.can;
            apart = λ d other. rw other (turn.apart d other);
            holds = turn.holds;
          }

      by_data : (d : Bool) → data_next p.messages.items ≡ d →
          Turned image riding carrying m c
          (TakeMessage c ∷ acts_told c rider
          (tellings t (if d then event_granted t.asker image riding t taken else Nothing)))
          (left image t (if d then event_granted t.asker image riding t taken else Nothing)
          (if waits taken.cache then t.asker else Nobody))
      by_data false d =
          all Nothing (subst (λ (q : Port R K). MessageTurn image riding carrying rider left_m c t q Nothing) at
          (quiet_turn image riding carrying rider m c t holds there can_it h))
      by_data true d =
          all (event_granted t.asker image riding t taken)
          (subst (λ (q : Port R K). MessageTurn image riding carrying rider left_m c t q
          (event_granted t.asker image riding t q)) at
          (granted_turn image riding carrying rider left_m c t t.asker
          (memory_kept riding carrying m (TakeMessage c) can_it holds)
          (subst (λ (n : ℕ). c < n) (sym (length_act riding carrying m (TakeMessage c))) there) h.fits refl
          (subst (λ (q : Port R K). Granted riding (wish_by t.asker (need image t.core) t.queue) q) (sym at)
          (data_granted riding carrying m c (wish_by t.asker (need image t.core) t.queue) holds there d h.awaited))))
