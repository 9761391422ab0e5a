-- What a core's instruction pays for as it executes, and what its pending accesses take. An instruction pays 2 P + 5 as
-- it executes. A load that joins the queue still owes 1 of these and a store 2 P + 4, which each takes from the debt as
-- it leaves.
use Rattle.std.proofs.Common.{◌≡◌, ◌∙◌, ap, refl, ℕ, ◌+◌, ◌*◌, ◌≤◌, ◌/◌, ◌==◌, Bool, true, false, ◌&&◌, List, [], ◌∷◌}
use Rattle.std.proofs.Common.{◌++◌}
use Rattle.std.proofs.Common.{arith}
use Rattle.std.proofs.Math.Nat.{mul-add}
use Rattle.std.specs.Prelude.{drop, if◌then◌else◌, is_some}
use Rattle.std.proofs.lemmas.List.Sums.{sum_by-cons, sum_by_push}
use Rattle.access_times.specs.Riding.{Riding}
use Rattle.image_mem.specs.Contents.{Contents}
use Rattle.link_order.specs.Queue.{is_nil}
use Rattle.rtr_types.specs.declared.TheConstants.{BLOCK_WORDS}
use Rattle.rtr_types.specs.declared.access.Access.{Access}
use Rattle.rtr_types.specs.declared.access.Kind.TheVariants.{Load as Loading, Store as Storing, Amo as Exchanging}
use Rattle.rtr_types.specs.declared.instr.Instr.{Instr}
use Rattle.rv_core.specs.declared.core_state.Core.{Core}
use Rattle.rv_core.specs.declared.core_state.Need.{Need}
use Rattle.rv_core.specs.declared.core_state.Need.TheVariants.{Local, Load, Store, Amo, Done}
use Rattle.rv_core.specs.Steps.{after, access_of as need_access}
use Rattle.rv_core.proofs.LawLemmas.{count_law}
use Rattle.msi_memory.specs.declared.port.Port.{Port}
use Rattle.msi_memory.specs.Acts.{allows}
use Rattle.msi_memory.specs.Memories.{word_at}
use Rattle.msi_state.specs.Events.{access_of, next_instr}
use Rattle.msi_state.specs.Rests.{may_access}
use Rattle.tso_state.specs.declared.pending.Pending.{Pending}
use Rattle.tso_state.specs.declared.pending.Pending.TheVariants.{Load as PendingLoad, Store as PendingStore}
use Rattle.tso_state.specs.Pending.{forwarded, value_of}
use Rattle.tso_state.specs.States.{BufferedCore}
use Rattle.tso_state.specs.Events.{Event, Nothing, Buffers, Performs, Drains, Logs, pending_store, event_loading}
use Rattle.tso_state.specs.Events.{event_executing, event_ordering}
use Rattle.tso_state.specs.Events.{core_after, queue_after}
use Rattle.tso_state.specs.Steps.{can_order, case_holds, head_access}
use Rattle.tso_invariant.specs.Holds.{next_may_ask}
use Rattle.tso_invariant.specs.Rests.{is_quiet}
use Rattle.tso_bound.specs.Bound.{pending_cost, queue_cost}
use Rattle.tso_invariant.proofs.OrderedStores.{stored}

-- the core's instructions pay for this, beside what its pending accesses take
abbrev pub Pays : (cores : ℕ) → Contents → BufferedCore → Event → (more : ℕ) → Type 0
Pays cores image t e more =
    (2 * cores + 5) * t.core.count + queue_cost cores (queue_after t.queue e) + more
    ≤ (2 * cores + 5) * (core_after image t.core e).count + queue_cost cores t.queue

one_more : (cores : ℕ) (image : Contents) (core : Core) (v : ℕ) (after_count : ℕ) → after_count ≡ core.count + 1 →
    (2 * cores + 5) * after_count ≡ (2 * cores + 5) * core.count + (2 * cores + 5)
one_more cores image core v after_count e =
    ap (λ (n : ℕ). (2 * cores + 5) * n) e ∙ (mul-add (2 * cores + 5) core.count 1 ∙ omega arith)

-- an instruction executes, and the queue stays
stays_pays : (cores : ℕ) (image : Contents) (t : BufferedCore) (v more : ℕ) → more ≤ 2 * cores + 5 →
    (2 * cores + 5) * t.core.count + queue_cost cores t.queue + more ≤ (2 * cores + 5) * (after image t.core v).count
    + queue_cost cores t.queue
stays_pays cores image t v more le =
    let e = one_more cores image t.core v (after image t.core v).count (count_law image t.core v) in omega arith

-- it joins the queue
joins_pays : (cores : ℕ) (image : Contents) (t : BufferedCore) (v : ℕ) (x : Pending) (more : ℕ) →
    pending_cost cores x + more ≤ 2 * cores + 5 →
    (2 * cores + 5) * t.core.count + queue_cost cores (t.queue ++ x ∷ []) + more
    ≤ (2 * cores + 5) * (after image t.core v).count + queue_cost cores t.queue
joins_pays cores image t v x more le =
    let e = one_more cores image t.core v (after image t.core v).count (count_law image t.core v) in
    let f : queue_cost cores (t.queue ++ x ∷ []) ≡ queue_cost cores t.queue + pending_cost cores x =
    sum_by_push (pending_cost cores) t.queue x in
    omega arith

-- the oldest leaves
leaves_pays : (cores : ℕ) (t : BufferedCore) (x : Pending) (rest : List Pending) (more : ℕ) → t.queue ≡ x ∷ rest →
    more ≤ pending_cost cores x →
    (2 * cores + 5) * t.core.count + queue_cost cores (drop 1 t.queue) + more ≤ (2 * cores + 5) * t.core.count
    + queue_cost cores t.queue
leaves_pays cores t x rest more is le =
    let e : queue_cost cores t.queue ≡ pending_cost cores x + queue_cost cores rest = ap (queue_cost cores) is
    ∙ sum_by-cons (pending_cost cores) x rest in
    let f : queue_cost cores (drop 1 t.queue) ≡ queue_cost cores rest =
    ap (λ (q : List Pending). queue_cost cores (drop 1 q)) is in
    omega arith

pub nothing_pays : (cores : ℕ) (image : Contents) (t : BufferedCore) → Pays cores image t Nothing 0
nothing_pays cores image t = omega arith

module _ {R K : Type 0} where
  -- ---- the next instruction

  -- a load pays for its two rounds in full
  loading_pays : (cores : ℕ) (image : Contents) (riding : Riding R) (t : BufferedCore) (p : Port R K) (word : ℕ) →
      Pays cores image t (event_loading image riding t p word) (2 * cores + 4)
  loading_pays cores image riding t p word = by_nil (is_nil t.queue)
    where
      a : Access
      a = access_of image riding t.core p word Loading

      x : Pending
      x = PendingLoad (t.core.count + 1) word (forwarded t.queue word (word_at riding p word))

      by_nil : (b : Bool) → Pays cores image t (if b then Performs a else Buffers (next_instr t.core) x) (2 * cores + 4)
      by_nil true = stays_pays cores image t a.before (2 * cores + 4) (omega arith)
      by_nil false = joins_pays cores image t (value_of x) x (2 * cores + 4) (omega arith)

  -- an instruction that executes pays for the step in which it does
  pub executing_pays : (cores : ℕ) (needed : Need) (image : Contents) (riding : Riding R) (t : BufferedCore)
      (p : Port R K) →
      Pays cores image t (event_executing needed image riding t p)
      (if is_quiet (event_executing needed image riding t p) then 0 else 1)
  executing_pays cores Local image riding t p = stays_pays cores image t 0 1 (omega arith)
  executing_pays cores (Store word whole) image riding t p =
      joins_pays cores image t 0 (pending_store image t.core word) 1 (omega arith)
  executing_pays cores (Done stop) image riding t p = nothing_pays cores image t
  executing_pays cores (Load word) image riding t p = by_allowed (allows riding p (word / BLOCK_WORDS) Loading)
    where
      less : (e : Event) → Pays cores image t e (2 * cores + 4) → Pays cores image t e (if is_quiet e then 0 else 1)
      less e le = by_quiet (is_quiet e)
        where
          by_quiet : (b : Bool) → Pays cores image t e (if b then 0 else 1)
          by_quiet true = omega arith
          by_quiet false = omega arith

      by_allowed : (b : Bool) → Pays cores image t (if b then event_loading image riding t p word else Nothing)
          (if is_quiet (if b then event_loading image riding t p word else Nothing) then 0 else 1)
      by_allowed true = less (event_loading image riding t p word) (loading_pays cores image riding t p word)
      by_allowed false = nothing_pays cores image t
  executing_pays cores (Amo word) image riding t p = by_allowed (allows riding p (word / BLOCK_WORDS) Exchanging)
    where
      a : Access
      a = access_of image riding t.core p word Exchanging

      by_allowed : (b : Bool) →
          Pays cores image t (if b then Performs a else Nothing)
          (if is_quiet (if b then Performs a else Nothing) then 0 else 1)
      by_allowed true = stays_pays cores image t a.before 1 (omega arith)
      by_allowed false = nothing_pays cores image t

  -- one whose block's data came pays for the two rounds
  pub granted_pays : (cores : ℕ) (needed : Need) (image : Contents) (riding : Riding R) (t : BufferedCore)
      (p : Port R K) →
      next_may_ask needed t.queue ≡ true → may_access (need_access needed) riding p ≡ true →
      Pays cores image t (event_executing needed image riding t p) (2 * cores + 4)
  granted_pays cores Local image riding t p may allowed = absurd (cc)
  granted_pays cores (Store word whole) image riding t p may allowed = absurd (cc)
  granted_pays cores (Done stop) image riding t p may allowed = absurd (cc)
  granted_pays cores (Load word) image riding t p may allowed =
      by_allowed (allows riding p (word / BLOCK_WORDS) Loading) allowed
    where
      by_allowed : (b : Bool) → b ≡ true →
          Pays cores image t (if b then event_loading image riding t p word else Nothing) (2 * cores + 4)
      by_allowed true e = loading_pays cores image riding t p word
      by_allowed false e = absurd (cc)
  granted_pays cores (Amo word) image riding t p may allowed =
      by_allowed (allows riding p (word / BLOCK_WORDS) Exchanging) allowed
    where
      a : Access
      a = access_of image riding t.core p word Exchanging

      by_allowed : (b : Bool) → b ≡ true → Pays cores image t (if b then Performs a else Nothing) (2 * cores + 4)
      by_allowed true e = stays_pays cores image t a.before (2 * cores + 4) (omega arith)
      by_allowed false e = absurd (cc)

  -- where it asks it has an access to ask for
  pub executing_asks : (needed : Need) (fence : Bool) (image : Contents) (riding : Riding R) (t : BufferedCore)
      (p : Port R K) →
      case_holds needed fence riding t.queue p ≡ true → is_quiet (event_executing needed image riding t p) ≡ true →
      is_some (need_access needed) ≡ true
  executing_asks Local fence image riding t p e quiet = absurd (cc)
  executing_asks (Load word) fence image riding t p e quiet = refl
  executing_asks (Store word whole) fence image riding t p e quiet = refl
  executing_asks (Amo word) fence image riding t p e quiet = refl
  executing_asks (Done stop) fence image riding t p e quiet = absurd (cc)

  -- ---- the oldest pending access

  pub ordering_pays : (cores : ℕ) (queue : List Pending) (image : Contents) (riding : Riding R) (t : BufferedCore)
      (p : Port R K) → t.queue ≡ queue →
      Pays cores image t (event_ordering queue riding t.core.id p)
      (if is_quiet (event_ordering queue riding t.core.id p) then 0 else 1)
  ordering_pays cores [] image riding t p is = nothing_pays cores image t
  ordering_pays cores (PendingLoad count word value ∷ rest) image riding t p is =
      by_test (allows riding p (word / BLOCK_WORDS) Loading && (word_at riding p word == value))
    where
      at : Instr
      at = record { core = t.core.id; count = count }

      a : Access
      a = record { at = at; word = word; kind = Loading; before = word_at riding p word; after = word_at riding p word }

      by_test : (b : Bool) →
          Pays cores image t (if b then Drains a else Logs at word value)
          (if is_quiet (if b then Drains a else Logs at word value) then 0 else 1)
      by_test true = leaves_pays cores t (PendingLoad count word value) rest 1 is (omega arith)
      by_test false = leaves_pays cores t (PendingLoad count word value) rest 1 is (omega arith)
  ordering_pays cores (PendingStore count word mask bits ∷ rest) image riding t p is =
      by_allowed (allows riding p (word / BLOCK_WORDS) Storing)
    where
      a : Access
      a = stored t.core.id count word mask bits (word_at riding p word)

      by_allowed : (b : Bool) →
          Pays cores image t (if b then Drains a else Nothing)
          (if is_quiet (if b then Drains a else Nothing) then 0 else 1)
      by_allowed true = leaves_pays cores t (PendingStore count word mask bits) rest 1 is (omega arith)
      by_allowed false = nothing_pays cores image t

  pub drained_pays : (cores : ℕ) (queue : List Pending) (image : Contents) (riding : Riding R) (t : BufferedCore)
      (p : Port R K) → t.queue ≡ queue →
      may_access (head_access queue) riding p ≡ true →
      Pays cores image t (event_ordering queue riding t.core.id p) (2 * cores + 4)
  drained_pays cores [] image riding t p is allowed = absurd (cc)
  drained_pays cores (PendingLoad count word value ∷ rest) image riding t p is allowed = absurd (cc)
  drained_pays cores (PendingStore count word mask bits ∷ rest) image riding t p is allowed =
      by_allowed (allows riding p (word / BLOCK_WORDS) Storing) allowed
    where
      a : Access
      a = stored t.core.id count word mask bits (word_at riding p word)

      by_allowed : (b : Bool) → b ≡ true → Pays cores image t (if b then Drains a else Nothing) (2 * cores + 4)
      by_allowed true e = leaves_pays cores t (PendingStore count word mask bits) rest (2 * cores + 4) is (omega arith)
      by_allowed false e = absurd (cc)

  pub ordering_asks : (queue : List Pending) (riding : Riding R) (core : ℕ) (p : Port R K) →
      can_order queue riding p ≡ true →
      is_quiet (event_ordering queue riding core p) ≡ true → is_some (head_access queue) ≡ true
  ordering_asks [] riding core p e quiet = absurd (cc)
  ordering_asks (PendingStore count word mask bits ∷ rest) riding core p e quiet = refl
  ordering_asks (PendingLoad count word value ∷ rest) riding core p e quiet =
      by_test (allows riding p (word / BLOCK_WORDS) Loading && (word_at riding p word == value)) quiet
    where
      at : Instr
      at = record { core = core; count = count }

      a : Access
      a = record { at = at; word = word; kind = Loading; before = word_at riding p word; after = word_at riding p word }

      by_test : (b : Bool) → is_quiet (if b then Drains a else Logs at word value) ≡ true →
          is_some (head_access (PendingLoad count word value ∷ rest)) ≡ true
      by_test true q = absurd (cc)
      by_test false q = absurd (cc)
