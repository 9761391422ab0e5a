-- The access that an event orders is allowed at its port, and is its core's next one after what was told. Only ordered
-- accesses matter to the times. What was told of a core is at or after each of its ordered accesses, and an access that
-- is ordered has a greater count.
use Rattle.std.proofs.Common.{◌≡◌, ◌∙◌, ap, refl, sym, ℕ, ◌+◌, ◌-◌, ◌<◌, ◌≤◌, ◌/◌, ◌==◌, nat_lt, Bool}
use Rattle.std.proofs.Common.{true, false, ◌&&◌, List, [], ◌∷◌, ◌++◌, arith}
use Rattle.std.specs.Prelude.{drop, if◌then◌else◌}
use Rattle.std.proofs.lemmas.Bool.{and_parts, ltb-true}
use Rattle.std.proofs.lemmas.Bool.Decides.{nat_tests}
use Rattle.access_times.specs.Riding.{Riding}
use Rattle.image_mem.specs.Contents.{Contents}
use Rattle.link_order.specs.Queue.{is_nil}
use Rattle.rtr_types.specs.declared.TheConstants.{BLOCK_WORDS}
use Rattle.rtr_types.specs.declared.access.Access.{Access}
use Rattle.rtr_types.specs.declared.access.Kind.TheVariants.{Load as Loading, Store as Storing, Amo as Exchanging}
use Rattle.rtr_types.specs.declared.instr.Instr.{Instr}
use Rattle.rv_core.specs.declared.core_state.Core.{Core}
use Rattle.rv_core.specs.declared.core_state.Need.{Need}
use Rattle.rv_core.specs.declared.core_state.Need.TheVariants.{Local, Load, Store, Amo, Done}
use Rattle.rv_core.specs.Steps.{need, after}
use Rattle.rv_core.proofs.LawLemmas.{count_law}
use Rattle.msi_memory.specs.declared.port.Port.{Port}
use Rattle.msi_memory.specs.Acts.{allows}
use Rattle.msi_memory.specs.Memories.{word_at}
use Rattle.msi_state.specs.Events.{access_of, next_instr}
use Rattle.tso_state.specs.declared.pending.Pending.{Pending}
use Rattle.tso_state.specs.declared.pending.Pending.TheVariants.{Load as PendingLoad, Store as PendingStore}
use Rattle.tso_state.specs.declared.pending.Asker.{Asker}
use Rattle.tso_state.specs.declared.pending.Asker.TheVariants.{Nobody, Next, Head}
use Rattle.tso_state.specs.Pending.{count_of, forwarded, value_of}
use Rattle.tso_state.specs.States.{BufferedCore}
use Rattle.tso_state.specs.Events.{Event, Nothing, Buffers, Performs, Drains, Logs, count_before}
use Rattle.tso_state.specs.Events.{pending_store, event_executing, event_granted, event_loading, event_ordering}
use Rattle.tso_state.specs.Events.{core_after, queue_after}
use Rattle.tso_invariant.specs.Holds.{in_order}
use Rattle.tso_invariant.proofs.OrderedStores.{stored}

-- the access is allowed there, and comes between what was told and what is told with it
pub record Comes {R K : Type 0} (riding : Riding R) (p : Port R K) (core before now : ℕ) (a : Access) : Type 0 where
  pub allowed : allows riding p (a.word / BLOCK_WORDS) a.kind ≡ true
  pub own : a.at.core ≡ core
  pub later : before < a.at.count
  pub told : a.at.count ≤ now

abbrev pub OrderedComes : {R K : Type 0} → Riding R → Port R K → (core before now : ℕ) → Event → Type 0
OrderedComes riding p core before now (Performs a) = Comes riding p core before now a
OrderedComes riding p core before now (Drains a) = Comes riding p core before now a
OrderedComes riding p core before now _ = Unit {0}

-- what an event tells
pub record Tells {R K : Type 0} (image : Contents) (riding : Riding R) (p : Port R K) (t : BufferedCore)
    (e : Event) : Type 0 where
  pub grows : count_before t.core t.queue ≤ count_before (core_after image t.core e) (queue_after t.queue e)
  pub comes : OrderedComes riding p t.core.id (count_before t.core t.queue)
      (count_before (core_after image t.core e) (queue_after t.queue e)) e

-- ---- counts

before_fits : (core : Core) (queue : List Pending) (last : ℕ) → in_order last queue core.count ≡ true →
    last ≤ count_before core queue
before_fits core [] last e = grind (arith, nat_tests)
before_fits core (x ∷ rest) last e =
    let lt = ltb-true last (count_of x)
    (and_parts (nat_lt last (count_of x)) (in_order (count_of x) rest core.count) e).0 in omega arith

-- a core with one instruction more, with the queue as it was
grows_local : (core after_core : Core) (queue : List Pending) → after_core.count ≡ core.count + 1 →
    count_before core queue ≤ count_before after_core queue
grows_local core after_core [] e = omega arith
grows_local core after_core (x ∷ rest) e = omega arith

-- or with the access of this in the queue
grows_pushed : (core after_core : Core) (queue : List Pending) (x : Pending) → count_of x ≡ core.count + 1 →
    count_before core queue ≤ count_before after_core (queue ++ x ∷ [])
grows_pushed core after_core [] x e = omega arith
grows_pushed core after_core (y ∷ rest) x e = omega arith

-- the counts as the oldest leaves
head_counts : (t : BufferedCore) (x : Pending) (rest : List Pending) → t.queue ≡ x ∷ rest →
    in_order 0 t.queue t.core.count ≡ true →
    (count_before t.core t.queue ≡ count_of x - 1) × (0 < count_of x)
    × (count_of x ≤ count_before t.core (drop 1 t.queue))
head_counts t x rest is e =
    let order : in_order 0 (x ∷ rest) t.core.count ≡ true = ap (λ (q : List Pending). in_order 0 q t.core.count)
    (sym is) ∙ e in
    let parts = and_parts (nat_lt 0 (count_of x)) (in_order (count_of x) rest t.core.count) order in
    let le = before_fits t.core rest (count_of x) parts.1 in
    let same : count_before t.core (drop 1 t.queue) ≡ count_before t.core rest =
    ap (λ (q : List Pending). count_before t.core (drop 1 q)) is in
    (ap (count_before t.core) is, ltb-true 0 (count_of x) parts.0, omega arith)

module _ {R K : Type 0} where
  nothing_tells : (image : Contents) (riding : Riding R) (p : Port R K) (t : BufferedCore) →
      Tells image riding p t Nothing
  nothing_tells image riding p t = record { grows = omega arith; comes = tt }

  performed_tells : (image : Contents) (riding : Riding R) (p : Port R K) (t : BufferedCore) (a : Access) →
      is_nil t.queue ≡ true →
      a.at ≡ next_instr t.core → allows riding p (a.word / BLOCK_WORDS) a.kind ≡ true →
      Tells image riding p t (Performs a)
  performed_tells image riding p t a nil at allowed = by_queue t.queue nil
    where
      one : (after image t.core a.before).count ≡ t.core.count + 1
      one = count_law image t.core a.before

      count : a.at.count ≡ t.core.count + 1
      count = ap (λ (i : Instr). i.count) at

      own : a.at.core ≡ t.core.id
      own = ap (λ (i : Instr). i.core) at

      by_queue : (queue : List Pending) → is_nil queue ≡ true →
          Tells image riding p (record { core = t.core; queue = queue; asker = t.asker }) (Performs a)
      by_queue [] e =
          let n = one in
          let k = count in
          record {
            grows = omega arith;
            comes =
                record { allowed = allowed; own = own; later = omega arith; told = omega arith };
          }
      by_queue (x ∷ rest) e = absurd (cc)

  executing_tells : (image : Contents) (riding : Riding R) (p : Port R K) (t : BufferedCore) (needed : Need) →
      ((word : ℕ) → needed ≡ Amo word → is_nil t.queue ≡ true) →
      Tells image riding p t (event_executing needed image riding t p)
  executing_tells image riding p t Local alone =
      record { grows = grows_local t.core (after image t.core 0) t.queue (count_law image t.core 0); comes = tt }
  executing_tells image riding p t (Store word whole) alone =
      record {
        grows = grows_pushed t.core (after image t.core 0) t.queue (pending_store image t.core word) refl;
        comes = tt;
      }
  executing_tells image riding p t (Done stop) alone = nothing_tells image riding p t
  executing_tells image riding p t (Load word) alone = by_allowed (allows riding p (word / BLOCK_WORDS) Loading) refl
    where
      x : Pending
      x = PendingLoad (t.core.count + 1) word (forwarded t.queue word (word_at riding p word))

      b : Access
      b = access_of image riding t.core p word Loading

      by_nil : allows riding p (word / BLOCK_WORDS) Loading ≡ true → (n : Bool) → is_nil t.queue ≡ n →
          Tells image riding p t (if n then Performs b else Buffers (next_instr t.core) x)
      by_nil f true e = performed_tells image riding p t b e refl f
      by_nil f false e = record {
        grows = grows_pushed t.core (after image t.core (value_of x)) t.queue x refl;
        comes =
            tt;
      }

      by_allowed : (l : Bool) → allows riding p (word / BLOCK_WORDS) Loading ≡ l →
          Tells image riding p t (if l then event_loading image riding t p word else Nothing)
      by_allowed true f = by_nil f (is_nil t.queue) refl
      by_allowed false f = nothing_tells image riding p t
  executing_tells image riding p t (Amo word) alone = by_allowed (allows riding p (word / BLOCK_WORDS) Exchanging) refl
    where
      b : Access
      b = access_of image riding t.core p word Exchanging

      by_allowed : (l : Bool) → allows riding p (word / BLOCK_WORDS) Exchanging ≡ l →
          Tells image riding p t (if l then Performs b else Nothing)
      by_allowed true f = performed_tells image riding p t b (alone word refl) refl f
      by_allowed false f = nothing_tells image riding p t

  drained_tells : (image : Contents) (riding : Riding R) (p : Port R K) (t : BufferedCore) (x : Pending)
      (rest : List Pending) (a : Access) →
      t.queue ≡ x ∷ rest → in_order 0 t.queue t.core.count ≡ true → a.at.core ≡ t.core.id → a.at.count ≡ count_of x →
      allows riding p (a.word / BLOCK_WORDS) a.kind ≡ true → Tells image riding p t (Drains a)
  drained_tells image riding p t x rest a is order own count allowed =
      let c = head_counts t x rest is order in
      let c0 = c.0 in
      let c1 = c.1 in
      let c2 = c.2 in
      record {
        grows = omega arith;
        comes =
            record { allowed = allowed; own = own; later = omega arith; told = omega arith };
      }

  ordering_tells : (image : Contents) (riding : Riding R) (p : Port R K) (t : BufferedCore) (queue : List Pending) →
      t.queue ≡ queue →
      in_order 0 t.queue t.core.count ≡ true → Tells image riding p t (event_ordering queue riding t.core.id p)
  ordering_tells image riding p t [] is order = nothing_tells image riding p t
  ordering_tells image riding p t (PendingLoad count word value ∷ rest) is order =
      by_tests (allows riding p (word / BLOCK_WORDS) Loading) refl (word_at riding p word == value)
    where
      at : Instr
      at = record { core = t.core.id; count = count }

      a : Access
      a = record { at = at; word = word; kind = Loading; before = word_at riding p word; after = word_at riding p word }

      logs : Tells image riding p t (Logs at word value)
      logs =
          let c = head_counts t (PendingLoad count word value) rest is order in
          let c0 = c.0 in
          let c2 = c.2 in
          record { grows = omega arith; comes = tt }

      by_tests : (l : Bool) → allows riding p (word / BLOCK_WORDS) Loading ≡ l → (same : Bool) →
          Tells image riding p t (if l && same then Drains a else Logs at word value)
      by_tests true f true = drained_tells image riding p t (PendingLoad count word value) rest a is order refl refl f
      by_tests true f false = logs
      by_tests false f same = logs
  ordering_tells image riding p t (PendingStore count word mask bits ∷ rest) is order =
      by_allowed (allows riding p (word / BLOCK_WORDS) Storing) refl
    where
      a : Access
      a = stored t.core.id count word mask bits (word_at riding p word)

      by_allowed : (l : Bool) → allows riding p (word / BLOCK_WORDS) Storing ≡ l →
          Tells image riding p t (if l then Drains a else Nothing)
      by_allowed true f = drained_tells image riding p t (PendingStore count word mask bits) rest a is order refl refl f
      by_allowed false f = nothing_tells image riding p t

  pub executed_tells : (image : Contents) (riding : Riding R) (p : Port R K) (t : BufferedCore) →
      ((word : ℕ) → need image t.core ≡ Amo word →
      is_nil t.queue ≡ true) → Tells image riding p t (event_executing (need image t.core) image riding t p)
  executed_tells image riding p t alone = executing_tells image riding p t (need image t.core) alone

  pub ordered_tells : (image : Contents) (riding : Riding R) (p : Port R K) (t : BufferedCore) →
      in_order 0 t.queue t.core.count ≡ true →
      Tells image riding p t (event_ordering t.queue riding t.core.id p)
  ordered_tells image riding p t order = ordering_tells image riding p t t.queue refl order

  pub quiet_tells : (image : Contents) (riding : Riding R) (p : Port R K) (t : BufferedCore) →
      Tells image riding p t Nothing
  quiet_tells image riding p t = nothing_tells image riding p t

  pub granted_tells : (image : Contents) (riding : Riding R) (p : Port R K) (t : BufferedCore) (x : Asker) →
      (x ≡ Next → (word : ℕ) → need image t.core ≡ Amo word →
      is_nil t.queue ≡ true) → in_order 0 t.queue t.core.count ≡ true →
      Tells image riding p t (event_granted x image riding t p)
  granted_tells image riding p t Nobody alone order = nothing_tells image riding p t
  granted_tells image riding p t Next alone order = executed_tells image riding p t (alone refl)
  granted_tells image riding p t Head alone order = ordered_tells image riding p t order
