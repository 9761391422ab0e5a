-- What is told in a move follows from what was told of its core before. Each event keeps `Arrives`: what executes goes
-- on at its end, and a head that leaves takes the instructions behind it along, up to the next pending access.
use Rattle.std.proofs.Common.{◌≡◌, ◌∙◌, ap, refl, sym, subst, ℕ, ◌+◌, ◌/◌, ◌==◌, Bool, true, false, not, ◌&&◌}
use Rattle.std.proofs.Common.{List, [], ◌∷◌, ◌++◌, eqb-true, length, ◌<◌}
use Rattle.std.specs.Prelude.{drop, if◌then◌else◌}
use Rattle.std.proofs.lemmas.Bool.{and_parts}
use Rattle.access_times.specs.Riding.{Riding, Carrying}
use Rattle.image_mem.specs.Contents.{Contents}
use Rattle.link_order.specs.Queue.{is_nil}
use Rattle.rtr_types.specs.declared.TheConstants.{BLOCK_WORDS}
use Rattle.rtr_types.specs.declared.access.Access.{Access}
use Rattle.rtr_types.specs.declared.access.Kind.TheVariants.{Load as Loading, Store as Storing, Amo as Exchanging}
use Rattle.rtr_types.specs.declared.instr.Instr.{Instr}
use Rattle.rv_core.specs.declared.core_state.Core.{Core}
use Rattle.rv_core.specs.declared.core_state.Need.{Need}
use Rattle.rv_core.specs.declared.core_state.Need.TheVariants.{Local, Load, Store, Amo, Done}
use Rattle.rv_core.specs.Steps.{need, after, access_of as need_access}
use Rattle.msi_memory.specs.declared.port.Port.{Port}
use Rattle.msi_memory.specs.Acts.{allows, data_next}
use Rattle.msi_memory.specs.Memories.{port_at, word_at}
use Rattle.msi_state.specs.Events.{access_of, next_instr, port_taken}
use Rattle.rv_core.specs.StoreMask.{StoreMaskLaw}
use Rattle.tso_state.specs.declared.moves.Move.{Move}
use Rattle.tso_state.specs.declared.moves.Move.TheVariants.{Core as CoreMove, Order as OrderMove}
use Rattle.tso_state.specs.declared.moves.Move.TheVariants.{Request as RequestMove, Response as ResponseMove}
use Rattle.tso_state.specs.declared.moves.Move.TheVariants.{FromHome as MessageMove}
use Rattle.tso_state.specs.declared.pending.Pending.{Pending}
use Rattle.tso_state.specs.declared.pending.Pending.TheVariants.{Load as PendingLoad, Store as PendingStore}
use Rattle.tso_state.specs.declared.pending.Asker.{Asker}
use Rattle.tso_state.specs.declared.pending.Asker.TheVariants.{Nobody, Next, Head}
use Rattle.tso_state.specs.Pending.{count_of, forwarded, value_of}
use Rattle.tso_state.specs.States.{State, BufferedCore, core_at}
use Rattle.tso_state.specs.Moves.{core_of}
use Rattle.tso_state.specs.Events.{Event, Nothing, Executes, Buffers, Performs, Drains, Logs, Told, Alone, Ordered}
use Rattle.tso_state.specs.Events.{Logged, pending_store, tellings, locals_behind}
use Rattle.tso_state.specs.Events.{core_after, event_executing, event_granted, event_loading, event_ordering}
use Rattle.tso_state.specs.Events.{queue_after}
use Rattle.tso_state.specs.Steps.{case_holds, enabled, event, is_fence, is_next}
use Rattle.tso_invariant.specs.Holds.{TsoHolds, may_ask, next_may_ask}
use Rattle.tso_invariant.proofs.MoveGrounds.{amo_alone}
use Rattle.tso_invariant.proofs.MoveInvariant.{core_can, enabled_core}
use Rattle.tso_told.specs.Played.{IsNext, found_by}
use Rattle.tso_told.proofs.ToldAndExecuted.{Arrives, Tells, arrives_local, arrives_pushed, leaves, load_leaves}
use Rattle.tso_told.proofs.ToldAndExecuted.{store_leaves}
use Rattle.tso_invariant.proofs.OrderedStores.{stored}

-- what an event tells, and what it makes of the queue and the core
abbrev pub EventTells : Contents → Core → BufferedCore → Event → Type 0
EventTells image base t e = Tells image base (tellings t e) (queue_after t.queue e) (core_after image t.core e)

nothing_told : (image : Contents) (base : Core) (queue : List Pending) (now : Core) → Arrives image base queue now →
    Tells image base [] queue now
nothing_told image base queue now a = record { right = tt; arrives = a }

-- an instruction that is told at once, with the queue empty
one_told : (image : Contents) (base : Core) (t : BufferedCore) (e : Told) → is_nil t.queue ≡ true →
    Arrives image base t.queue t.core →
    IsNext image t.core e → Tells image base (e ∷ []) t.queue (after image t.core (found_by e))
one_told image base t e nil a next = by_queue t.queue nil a
  where
    by_queue : (queue : List Pending) → is_nil queue ≡ true → Arrives image base queue t.core →
        Tells image base (e ∷ []) queue (after image t.core (found_by e))
    by_queue [] nil a =
        record {
          right = (subst (λ (k : Core). IsNext image k e) (sym a) next, tt);
          arrives = ap (λ (k : Core). after image k (found_by e)) a;
        }
    by_queue (x ∷ rest) nil a = absurd (cc)

local_told : (image : Contents) (base : Core) (t : BufferedCore) → need image t.core ≡ Local →
    Arrives image base t.queue t.core →
    EventTells image base t (Executes (next_instr t.core))
local_told image base t is a = by_queue t.queue a
  where
    by_queue : (queue : List Pending) → Arrives image base queue t.core →
        Tells image base (if is_nil queue then Alone (next_instr t.core) ∷ [] else []) queue (after image t.core 0)
    by_queue [] a =
        record {
          right = (subst (λ (k : Core). IsNext image k (Alone (next_instr t.core))) (sym a) (refl, is), tt);
          arrives = ap (λ (k : Core). after image k 0) a;
        }
    by_queue (x ∷ rest) a = record { right = tt; arrives = arrives_local image base x rest t.core is a }

-- the oldest pending access leaves
head_told : (image : Contents) (base : Core) (t : BufferedCore) (x : Pending) (rest : List Pending) (e : Told) →
    t.queue ≡ x ∷ rest →
    Tells image base (e ∷ locals_behind t.core (count_of x) rest) rest t.core →
    Tells image base (e ∷ locals_behind t.core (count_of x) (drop 1 t.queue)) (drop 1 t.queue) t.core
head_told image base t x rest e is h =
    subst (λ (queue : List Pending). Tells image base (e ∷ locals_behind t.core (count_of x) (drop 1 queue))
    (drop 1 queue) t.core) (sym is) h

module _ {R K : Type 0} where
  -- the next instruction executes
  pub executing_told : (image : Contents) (riding : Riding R) (base : Core) (t : BufferedCore) (p : Port R K)
      (needed : Need) →
      need image t.core ≡ needed → ((word : ℕ) → needed ≡ Amo word → is_nil t.queue ≡ true) →
      Arrives image base t.queue t.core →
      EventTells image base t (event_executing needed image riding t p)
  executing_told image riding base t p Local is alone a = local_told image base t is a
  executing_told image riding base t p (Store word whole) is alone a =
      nothing_told image base (t.queue ++ pending_store image t.core word ∷ []) (after image t.core 0)
      (arrives_pushed image base t.queue (pending_store image t.core word) t.core (refl, (whole, is), refl, refl) a)
  executing_told image riding base t p (Done stop) is alone a = nothing_told image base t.queue t.core a
  executing_told image riding base t p (Load word) is alone a =
      by_allowed (allows riding p (word / BLOCK_WORDS) Loading)
    where
      x : Pending
      x = PendingLoad (t.core.count + 1) word (forwarded t.queue word (word_at riding p word))

      b : Access
      b = access_of image riding t.core p word Loading

      by_nil : (n : Bool) → is_nil t.queue ≡ n →
          EventTells image base t (if n then Performs b else Buffers (next_instr t.core) x)
      by_nil true e = one_told image base t (Ordered b) e a (refl, ap need_access is, refl)
      by_nil false e =
          nothing_told image base (t.queue ++ x ∷ []) (after image t.core (value_of x))
          (arrives_pushed image base t.queue x t.core (refl, is) a)

      by_allowed : (l : Bool) → EventTells image base t (if l then event_loading image riding t p word else Nothing)
      by_allowed true = by_nil (is_nil t.queue) refl
      by_allowed false = nothing_told image base t.queue t.core a
  executing_told image riding base t p (Amo word) is alone a =
      by_allowed (allows riding p (word / BLOCK_WORDS) Exchanging)
    where
      b : Access
      b = access_of image riding t.core p word Exchanging

      by_allowed : (l : Bool) → EventTells image base t (if l then Performs b else Nothing)
      by_allowed true = one_told image base t (Ordered b) (alone word refl) a (refl, ap need_access is, refl)
      by_allowed false = nothing_told image base t.queue t.core a

  pub ordering_told : StoreMaskLaw →
      (image : Contents) (riding : Riding R) (base : Core) (t : BufferedCore) (p : Port R K) (queue : List Pending) →
      t.queue ≡ queue → Arrives image base t.queue t.core →
      EventTells image base t (event_ordering queue riding t.core.id p)
  ordering_told law image riding base t p [] is a = nothing_told image base t.queue t.core a
  ordering_told law image riding base t p (PendingLoad count word value ∷ rest) is a =
      by_tests (allows riding p (word / BLOCK_WORDS) Loading) (word_at riding p word == value) refl
    where
      x : Pending
      x = PendingLoad count word value

      at : Instr
      at = record { core = t.core.id; count = count }

      found : ℕ → Access
      found w = record { at = at; word = word; kind = Loading; before = w; after = w }

      here : Arrives image base (x ∷ rest) t.core
      here = subst (λ (q : List Pending). Arrives image base q t.core) is a

      by_tests : (l same : Bool) → (word_at riding p word == value) ≡ same →
          EventTells image base t (if l && same then Drains (found (word_at riding p word)) else Logs at word value)
      by_tests true true e =
          subst (λ (w : ℕ). EventTells image base t (Drains (found w))) (sym (eqb-true (word_at riding p word) value e))
          (head_told image base t x rest (Ordered (found value)) is
          (leaves image base x rest t.core (Ordered (found value)) here
          (load_leaves image base count word value rest t.core here).0 refl))
      by_tests true false e =
          head_told image base t x rest (Logged at word value) is
          (leaves image base x rest t.core (Logged at word value) here
          (load_leaves image base count word value rest t.core here).1 refl)
      by_tests false same e =
          head_told image base t x rest (Logged at word value) is
          (leaves image base x rest t.core (Logged at word value) here
          (load_leaves image base count word value rest t.core here).1 refl)
  ordering_told law image riding base t p (PendingStore count word mask bits ∷ rest) is a =
      by_allowed (allows riding p (word / BLOCK_WORDS) Storing)
    where
      b : Access
      b = stored t.core.id count word mask bits (word_at riding p word)

      here : Arrives image base (PendingStore count word mask bits ∷ rest) t.core
      here = subst (λ (q : List Pending). Arrives image base q t.core) is a

      by_allowed : (l : Bool) → EventTells image base t (if l then Drains b else Nothing)
      by_allowed true =
          let w = store_leaves law image base count word mask bits (word_at riding p word) rest t.core here in
          head_told image base t (PendingStore count word mask bits) rest (Ordered b) is
          (leaves image base (PendingStore count word mask bits) rest t.core (Ordered b) here w.0 w.1)
      by_allowed false = nothing_told image base t.queue t.core a

  -- and one that asks for its data does so with an empty queue
  pub next_alone : (riding : Riding R) (carrying : Carrying K) (s : State R K) (c : ℕ) → TsoHolds riding carrying s →
      c < length s.cores → (core_at s.cores c).asker ≡ Next → (word : ℕ) →
      need s.image (core_at s.cores c).core ≡ Amo word → is_nil (core_at s.cores c).queue ≡ true
  next_alone riding carrying s c h within next word is =
      let t : BufferedCore = core_at s.cores c in
      ap (λ (n : Need). next_may_ask n t.queue) (sym is)
      ∙ (ap (λ (x : Asker). may_ask x (need s.image t.core) t.queue) (sym next) ∙ (h.cores c within).fits.asks)

  -- in an enabled move
  pub move_told : StoreMaskLaw → (riding : Riding R) (carrying : Carrying K) (s : State R K) (m : Move) (base : Core) →
      enabled riding carrying s m ≡ true →
      TsoHolds riding carrying s →
      (let t : BufferedCore = core_at s.cores (core_of m) in Arrives s.image base t.queue t.core →
      EventTells s.image base t (event riding carrying s m))
  move_told law riding carrying s (CoreMove c) base e h =
      λ a. let t : BufferedCore = core_at s.cores c in
      let p : Port R K = port_at carrying s.memory.ports c in
      let w = core_can riding carrying s c e in
      executing_told s.image riding base t p (need s.image t.core) refl
      (amo_alone s.image riding t p (need s.image t.core) (is_fence s.image t.core)
      (and_parts (not (is_next t.asker))
      (case_holds (need s.image t.core) (is_fence s.image t.core) riding t.queue p) w.1).1) a
  move_told law riding carrying s (OrderMove c) base e h =
      λ a. let t : BufferedCore = core_at s.cores c in
      ordering_told law s.image riding base t (port_at carrying s.memory.ports c) t.queue refl a
  move_told law riding carrying s (RequestMove c) base e h =
      λ a. let t : BufferedCore = core_at s.cores c in nothing_told s.image base t.queue t.core a
  move_told law riding carrying s (ResponseMove c) base e h =
      λ a. let t : BufferedCore = core_at s.cores c in nothing_told s.image base t.queue t.core a
  move_told law riding carrying s (MessageMove c) base e h =
      λ a. by_data a (data_next (port_at carrying s.memory.ports c).messages.items)
    where
      t : BufferedCore
      t = core_at s.cores c

      q : Port R K
      q = port_taken riding carrying (port_at carrying s.memory.ports c)

      by_asker : Arrives s.image base t.queue t.core → (x : Asker) → t.asker ≡ x →
          EventTells s.image base t (event_granted x s.image riding t q)
      by_asker a Nobody is = nothing_told s.image base t.queue t.core a
      by_asker a Next is = executing_told s.image riding base t q (need s.image t.core) refl
          (next_alone riding carrying s c h (enabled_core riding carrying s (MessageMove c) e h) is) a
      by_asker a Head is = ordering_told law s.image riding base t q t.queue refl a

      by_data : Arrives s.image base t.queue t.core → (d : Bool) →
          EventTells s.image base t (if d then event_granted t.asker s.image riding t q else Nothing)
      by_data a true = by_asker a t.asker refl
      by_data a false = nothing_told s.image base t.queue t.core a
