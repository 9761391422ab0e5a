-- What holds of an event, by the cases of what its port allows: it holds where the access is made, where it isn't, and
-- so of what the instruction, the pending access or the message comes to.
use Rattle.std.proofs.Common.{◌≡◌, refl, subst, ℕ, ◌+◌, ◌<◌, ◌==◌, ◌/◌, Bool, true, false, ◌&&◌, List, ◌∷◌, length}
use Rattle.std.specs.Prelude.{if◌then◌else◌}
use Rattle.access_times.specs.Riding.{Riding, Carrying}
use Rattle.image_mem.specs.Contents.{Contents}
use Rattle.link_order.specs.Queue.{is_nil}
use Rattle.rtr_types.specs.declared.TheConstants.{BLOCK_WORDS}
use Rattle.rtr_types.specs.declared.access.Access.{Access}
use Rattle.rtr_types.specs.declared.access.Kind.TheVariants.{Load as Loading, Store as Storing, Amo as Exchanging}
use Rattle.rv_core.specs.declared.core_state.Need.TheVariants.{Load, Amo}
use Rattle.msi_memory.specs.declared.port.Port.{Port}
use Rattle.msi_memory.specs.Acts.{TakeMessage, after_act, allows, data_next}
use Rattle.msi_memory.specs.Memories.{port_at, word_at}
use Rattle.msi_laws.proofs.Awaits.{taken_there}
use Rattle.msi_state.specs.Events.{access_of, next_instr, port_taken}
use Rattle.tso_state.specs.declared.moves.Move.TheVariants.{FromHome as MessageMove}
use Rattle.tso_state.specs.declared.pending.Pending.{Pending}
use Rattle.tso_state.specs.declared.pending.Pending.TheVariants.{Load as PendingLoad, Store as PendingStore}
use Rattle.tso_state.specs.Pending.{forwarded}
use Rattle.tso_state.specs.States.{State, BufferedCore, core_at}
use Rattle.tso_state.specs.Events.{Event, Nothing, Buffers, Performs, Drains, Logs, event_executing, event_granted}
use Rattle.tso_state.specs.Events.{event_loading, event_ordering}
use Rattle.tso_state.specs.Steps.{event}
use Rattle.tso_invariant.proofs.OrderedStores.{stored}

-- the access that a pending load becomes where its word is the value that it got
abbrev pub found : (core count word old : ℕ) → Access
found core count word old =
    record { at = record { core = core; count = count }; word = word; kind = Loading; before = old; after = old }

-- of an event that depends on a test
pub either_event : (P : Event → Type 0) (test : Bool) (e f : Event) → P e → P f → P (if test then e else f)
either_event P true e f first second = first
either_event P false e f first second = second

-- and where the access is allowed, of the event that it is
pub where_allowed : (P : Event → Type 0) (allowed : Bool) (e : Event) → allowed ≡ true → P e →
    P (if allowed then e else Nothing)
where_allowed P true e is made = made
where_allowed P false e is made = absurd (cc)

if_allowed : (P : Event → Type 0) (allowed : Bool) (e : Event) → (allowed ≡ true → P e) → P Nothing →
    P (if allowed then e else Nothing)
if_allowed P true e made none = made refl
if_allowed P false e made none = none

module _ {R K : Type 0} where
  -- a load that executes is made, or joins the queue
  pub by_load : (P : Event → Type 0) (image : Contents) (riding : Riding R) (t : BufferedCore) (p : Port R K)
      (word : ℕ) → (allows riding p (word / BLOCK_WORDS) Loading ≡ true →
      P (Performs (access_of image riding t.core p word Loading))) →
      (allows riding p (word / BLOCK_WORDS) Loading ≡ true → P (Buffers (next_instr t.core)
      (PendingLoad (t.core.count + 1) word (forwarded t.queue word (word_at riding p word))))) →
      P Nothing → P (event_executing (Load word) image riding t p)
  by_load P image riding t p word made joins none = by_allowed (allows riding p (word / BLOCK_WORDS) Loading) made joins
    where
      by_nil : (b : Bool) → P (Performs (access_of image riding t.core p word Loading)) →
          P (Buffers (next_instr t.core)
          (PendingLoad (t.core.count + 1) word (forwarded t.queue word (word_at riding p word)))) →
          P (if b then Performs (access_of image riding t.core p word Loading) else Buffers (next_instr t.core)
          (PendingLoad (t.core.count + 1) word (forwarded t.queue word (word_at riding p word))))
      by_nil true made joins = made
      by_nil false made joins = joins

      by_allowed : (b : Bool) → (b ≡ true → P (Performs (access_of image riding t.core p word Loading))) →
          (b ≡ true → P (Buffers (next_instr t.core)
          (PendingLoad (t.core.count + 1) word (forwarded t.queue word (word_at riding p word))))) →
          P (if b then event_loading image riding t p word else Nothing)
      by_allowed true made joins = by_nil (is_nil t.queue) (made refl) (joins refl)
      by_allowed false made joins = none

  -- and an atomic memory operation is made
  pub by_amo : (P : Event → Type 0) (image : Contents) (riding : Riding R) (t : BufferedCore) (p : Port R K)
      (word : ℕ) → (allows riding p (word / BLOCK_WORDS) Exchanging ≡ true →
      P (Performs (access_of image riding t.core p word Exchanging))) →
      P Nothing → P (event_executing (Amo word) image riding t p)
  by_amo P image riding t p word made none = if_allowed P (allows riding p (word / BLOCK_WORDS) Exchanging) _ made none

  -- a pending load is made again, or logged
  pub by_ordered_load : (P : Event → Type 0) (riding : Riding R) (core count word value : ℕ) (rest : List Pending)
      (p : Port R K) → (allows riding p (word / BLOCK_WORDS) Loading ≡ true →
      P (Drains (found core count word (word_at riding p word)))) →
      P (Logs (record { core = core; count = count }) word value) →
      P (event_ordering (PendingLoad count word value ∷ rest) riding core p)
  by_ordered_load P riding core count word value rest p made logged =
      by_tests (allows riding p (word / BLOCK_WORDS) Loading) (word_at riding p word == value) made
    where
      by_tests : (b same : Bool) → (b ≡ true → P (Drains (found core count word (word_at riding p word)))) →
          P (if b && same then Drains (found core count word (word_at riding p word)) else Logs
          (record { core = core; count = count }) word value)
      by_tests true true made = made refl
      by_tests true false made = logged
      by_tests false same made = logged

  -- and a pending store is made
  pub by_ordered_store : (P : Event → Type 0) (riding : Riding R) (core count word mask bits : ℕ) (rest : List Pending)
      (p : Port R K) → (allows riding p (word / BLOCK_WORDS) Storing ≡ true →
      P (Drains (stored core count word mask bits (word_at riding p word)))) →
      P Nothing → P (event_ordering (PendingStore count word mask bits ∷ rest) riding core p)
  by_ordered_store P riding core count word mask bits rest p made none =
      if_allowed P (allows riding p (word / BLOCK_WORDS) Storing) _ made none

  -- where a message brings data, the access that asked for them ends
  pub by_message : (P : Event → Type 0) (riding : Riding R) (carrying : Carrying K) (s : State R K) (c : ℕ) →
      c < length s.memory.ports →
      P (event_granted (core_at s.cores c).asker s.image riding (core_at s.cores c)
      (port_at carrying (after_act riding carrying s.memory (TakeMessage c)).ports c)) → P Nothing →
      P (event riding carrying s (MessageMove c))
  by_message P riding carrying s c within granted none =
      by_data (data_next (port_at carrying s.memory.ports c).messages.items)
    where
      t : BufferedCore
      t = core_at s.cores c

      by_data : (d : Bool) → P (if d then event_granted t.asker s.image riding t
          (port_taken riding carrying (port_at carrying s.memory.ports c)) else Nothing)
      by_data true = subst (λ (x : Port R K). P (event_granted t.asker s.image riding t x))
          (taken_there riding carrying s.memory c within) granted
      by_data false = none
