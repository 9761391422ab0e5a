-- Each move keeps the words of the copies that count, act by act, and an ordered access finds the memory's word. The
-- access that an event orders is one that its port allows, so its copy counts and has the memory's word; no other act
-- changes the words that count. The event's access is read as the memory system's own, so that what is proved of the
-- memory serves as it is.
use Rattle.std.proofs.Common.{◌≡◌, ap, refl, sym, subst, ℕ, ◌+◌, ◌<◌, ◌%◌, ◌/◌, Bool, true, false}
use Rattle.std.proofs.Common.{List, [], ◌∷◌, ◌++◌, length, Option, Some}
use Rattle.std.proofs.Common.{None}
use Rattle.std.specs.Prelude.{drop, if◌then◌else◌, slice_index}
use Rattle.std.specs.List.{list_all}
use Rattle.access_times.specs.Riding.{Riding, Carrying}
use Rattle.image_mem.specs.Contents.{Contents}
use Rattle.link_order.specs.Queue.{is_nil}
use Rattle.rtr_types.specs.declared.TheConstants.{BLOCK_WORDS}
use Rattle.rtr_types.specs.declared.access.Kind.{Kind}
use Rattle.rtr_types.specs.declared.access.Kind.TheVariants.{Load as Loading, Store as Storing, Amo as Exchanging}
use Rattle.rv_core.specs.declared.core_state.Need.{Need}
use Rattle.rv_core.specs.declared.core_state.Need.TheVariants.{Local, Load, Store, Amo, Done}
use Rattle.rv_core.specs.Steps.{need, access_of as need_access}
use Rattle.rv_core.proofs.LawLemmas.{within_law, unwritten_law}
use Rattle.msi_memory.specs.Acts.{Act, TakeMessage, allows, can_all, after_act, after_acts}
use Rattle.msi_memory.specs.Memories.{Memory, port_at, word_at}
use Rattle.msi_laws.specs.Holds.{MemoryHolds}
use Rattle.msi_laws.specs.Words.{HaveWords, memory_after_act}
use Rattle.msi_laws.proofs.ActInvariant.{memory_kept}
use Rattle.msi_laws.proofs.PortsKept.{length_act}
use Rattle.msi_laws.proofs.Properties.{finds_words, words_kept}
use Rattle.msi_laws.proofs.ActsInTurn.{acts_carry, folded}
use Rattle.machine_data.specs.Coherent.{Finds, memory_after}
use Rattle.machine_data.proofs.Recalls.{Works}
use Rattle.machine_data.proofs.Values.{Honest}
use Rattle.msi_state.specs.Events.{access_of}
use Rattle.tso_state.specs.declared.moves.Move.{Move}
use Rattle.tso_state.specs.declared.moves.Move.TheVariants.{Core as CoreMove, Order as OrderMove}
use Rattle.tso_state.specs.declared.moves.Move.TheVariants.{Request as RequestMove, Response as ResponseMove}
use Rattle.tso_state.specs.declared.moves.Move.TheVariants.{FromHome as MessageMove}
use Rattle.tso_state.specs.declared.pending.Asker.{Asker}
use Rattle.tso_state.specs.declared.pending.Asker.TheVariants.{Nobody, Next, Head}
use Rattle.tso_state.specs.declared.pending.Pending.{Pending}
use Rattle.tso_state.specs.declared.pending.Pending.TheVariants.{Load as PendingLoad, Store as PendingStore}
use Rattle.tso_state.specs.States.{State, BufferedCore, core_at}
use Rattle.tso_state.specs.Events.{Event, Nothing, Executes, Buffers, Performs, Drains, Logs, Told, Alone, Ordered}
use Rattle.tso_state.specs.Events.{Logged, tellings, locals_behind}
use Rattle.tso_state.specs.Events.{event_executing, event_granted, event_ordering}
use Rattle.tso_state.specs.Steps.{acts, acts_asking, acts_told, enabled, event, head_access, step}
use Rattle.tso_invariant.specs.Holds.{QueueHolds, TsoHolds}
use Rattle.tso_invariant.proofs.EventCases.{by_amo, by_load, by_message, by_ordered_load, by_ordered_store}
use Rattle.tso_invariant.proofs.MoveInvariant.{acts_can, core_port, enabled_core}
use Rattle.tso_invariant.proofs.Queues.{head_within}
use Rattle.tso_invariant.proofs.ToldAtPorts.{is_alone, locals_alone}
use Rattle.tso_data.specs.Orders.{Coherent, ordering_of}

-- ---- what acts leave of the memory

module _ {R : Type 0} where
  alone_memory : (c : ℕ) (rider : R) (es : List Told) (memory : ℕ → List ℕ) → list_all is_alone es ≡ true →
      folded memory_after_act (acts_told c rider es) memory ≡ memory
  alone_memory c rider [] memory e = refl
  alone_memory c rider (Alone at ∷ later) memory e = alone_memory c rider later memory e
  alone_memory c rider (Ordered a ∷ later) memory e = absurd (cc)
  alone_memory c rider (Logged at word value ∷ later) memory e = alone_memory c rider later memory e

  -- what is told of an event does what its access does
  told_memory : (c : ℕ) (rider : R) (t : BufferedCore) (e : Event) (memory : ℕ → List ℕ) →
      folded memory_after_act (acts_told c rider (tellings t e)) memory ≡ memory_after (ordering_of e) memory
  told_memory c rider t Nothing memory = refl
  told_memory c rider t (Executes at) memory = by_nil (is_nil t.queue)
    where
      by_nil : (b : Bool) →
          folded memory_after_act (acts_told c rider (if b then Alone at ∷ [] else [])) memory ≡ memory
      by_nil true = refl
      by_nil false = refl
  told_memory c rider t (Buffers at x) memory = refl
  told_memory c rider t (Performs a) memory = refl
  told_memory c rider t (Drains a) memory =
      alone_memory c rider (locals_behind t.core a.at.count (drop 1 t.queue))
      (memory_after (ordering_of (Drains a)) memory)
      (locals_alone t.core a.at.count (drop 1 t.queue))
  told_memory c rider t (Logs at word value) memory =
      alone_memory c rider (locals_behind t.core at.count (drop 1 t.queue)) memory
      (locals_alone t.core at.count (drop 1 t.queue))

  -- asking changes nothing
  turn_memory : (c : ℕ) (rider : R) (t : BufferedCore) (wanted : Option (Kind × ℕ)) (e : Event) (memory : ℕ → List ℕ) →
      folded memory_after_act (acts_asking c wanted e ++ acts_told c rider (tellings t e)) memory ≡ memory_after
      (ordering_of e) memory
  turn_memory c rider t None Nothing memory = refl
  turn_memory c rider t (Some (kind, word)) Nothing memory = refl
  turn_memory c rider t wanted (Executes at) memory = told_memory c rider t (Executes at) memory
  turn_memory c rider t wanted (Buffers at x) memory = refl
  turn_memory c rider t wanted (Performs a) memory = refl
  turn_memory c rider t wanted (Drains a) memory = told_memory c rider t (Drains a) memory
  turn_memory c rider t wanted (Logs at word value) memory = told_memory c rider t (Logs at word value) memory

-- an ordered access finds the memory's word, which is within the memory, and if it doesn't write it leaves that
record Well (words : ℕ) (memory : ℕ → List ℕ) (e : Event) : Type 0 where
  finds : Finds (ordering_of e) memory
  honest : Honest words (ordering_of e)

module _ {R K : Type 0} where
  acts_memory : (riding : Riding R) (carrying : Carrying K) (rider : R) (s : State R K) (m : Move)
      (memory : ℕ → List ℕ) →
      folded memory_after_act (acts riding carrying rider s m) memory ≡ memory_after
      (ordering_of (event riding carrying s m)) memory
  acts_memory riding carrying rider s (CoreMove c) memory =
      turn_memory c rider (core_at s.cores c) (need_access (need s.image (core_at s.cores c).core))
      (event riding carrying s (CoreMove c)) memory
  acts_memory riding carrying rider s (OrderMove c) memory =
      turn_memory c rider (core_at s.cores c) (head_access (core_at s.cores c).queue)
      (event riding carrying s (OrderMove c)) memory
  acts_memory riding carrying rider s (RequestMove c) memory = refl
  acts_memory riding carrying rider s (ResponseMove c) memory = refl
  acts_memory riding carrying rider s (MessageMove c) memory = told_memory c rider (core_at s.cores c)
      (event riding carrying s (MessageMove c)) memory

  words_after : (riding : Riding R) (carrying : Carrying K) (m : Memory R K) (todo : List (Act R))
      (memory : ℕ → List ℕ) →
      can_all riding carrying m todo ≡ true → MemoryHolds riding carrying m → HaveWords riding carrying m memory →
      HaveWords riding carrying (after_acts riding carrying m todo) (folded memory_after_act todo memory)
  words_after riding carrying m todo memory e h k =
      acts_carry riding carrying memory_after_act
      (λ (left : ℕ → List ℕ) (x : Memory R K). HaveWords riding carrying x left)
      (λ left x act can_it holds words. words_kept riding carrying x act left holds can_it words) memory m todo e h k

  -- ---- what an ordered access finds

  word_found : (riding : Riding R) (carrying : Carrying K) (m : Memory R K) (c word : ℕ) (kind : Kind)
      (memory : ℕ → List ℕ) → MemoryHolds riding carrying m →
      c < length m.ports → HaveWords riding carrying m memory →
      allows riding (port_at carrying m.ports c) (word / BLOCK_WORDS) kind ≡ true →
      word_at riding (port_at carrying m.ports c) word ≡ slice_index (memory (word / BLOCK_WORDS)) (word % BLOCK_WORDS)
  word_found riding carrying m c word kind memory h lc k is =
      ap (λ (words : List ℕ). slice_index words (word % BLOCK_WORDS))
      (finds_words riding carrying m c (word / BLOCK_WORDS) kind memory h lc is k)

  -- an access that the next instruction makes
  performed_well : (riding : Riding R) (carrying : Carrying K) (m : Memory R K) (c : ℕ) (image : Contents)
      (t : BufferedCore) (word : ℕ) (kind : Kind) (memory : ℕ → List ℕ) → MemoryHolds riding carrying m →
      c < length m.ports → HaveWords riding carrying m memory → need_access (need image t.core) ≡ Some (kind, word) →
      allows riding (port_at carrying m.ports c) (word / BLOCK_WORDS) kind ≡ true →
      Well image.words memory (Performs (access_of image riding t.core (port_at carrying m.ports c) word kind))
  performed_well riding carrying m c image t word kind memory h lc k is f =
      let old : ℕ = word_at riding (port_at carrying m.ports c) word in
      record {
        finds = word_found riding carrying m c word kind memory h lc k f;
        honest = (
          within_law image t.core kind word is,
          λ reads. unwritten_law image t.core kind word old is reads,
        );
      }

  -- the next instruction's
  executing_well : (riding : Riding R) (carrying : Carrying K) (m : Memory R K) (c : ℕ) (image : Contents)
      (t : BufferedCore) (needed : Need)
      (memory : ℕ → List ℕ) → MemoryHolds riding carrying m → c < length m.ports → HaveWords riding carrying m memory →
      need image t.core ≡ needed →
      Well image.words memory (event_executing needed image riding t (port_at carrying m.ports c))
  executing_well riding carrying m c image t Local memory h lc k is = record { finds = tt; honest = tt }
  executing_well riding carrying m c image t (Store word whole) memory h lc k is = record { finds = tt; honest = tt }
  executing_well riding carrying m c image t (Done stop) memory h lc k is = record { finds = tt; honest = tt }
  executing_well riding carrying m c image t (Load word) memory h lc k is =
      by_load (λ (e : Event). Well image.words memory e) image riding t (port_at carrying m.ports c) word
      (performed_well riding carrying m c image t word Loading memory h lc k (ap need_access is))
      (λ f. record { finds = tt; honest = tt }) (record { finds = tt; honest = tt })
  executing_well riding carrying m c image t (Amo word) memory h lc k is =
      by_amo (λ (e : Event). Well image.words memory e) image riding t (port_at carrying m.ports c) word
      (performed_well riding carrying m c image t word Exchanging memory h lc k (ap need_access is))
      (record { finds = tt; honest = tt })

  -- the oldest pending one's
  ordering_well : (riding : Riding R) (carrying : Carrying K) (m : Memory R K) (c words count : ℕ) (core : ℕ)
      (queue : List Pending)
      (memory : ℕ → List ℕ) → MemoryHolds riding carrying m → c < length m.ports → HaveWords riding carrying m memory →
      QueueHolds words count queue →
      Well words memory (event_ordering queue riding core (port_at carrying m.ports c))
  ordering_well riding carrying m c words count core [] memory h lc k q = record { finds = tt; honest = tt }
  ordering_well riding carrying m c words count core (PendingLoad n word value ∷ rest) memory h lc k q =
      by_ordered_load (λ (e : Event). Well words memory e) riding core n word value rest (port_at carrying m.ports c)
      (λ f. record {
        finds = word_found riding carrying m c word Loading memory h lc k f;
        honest = (head_within words count (PendingLoad n word value) rest q, λ reads. refl);
      }) (record { finds = tt; honest = tt })
  ordering_well riding carrying m c words count core (PendingStore n word mask bits ∷ rest) memory h lc k q =
      by_ordered_store (λ (e : Event). Well words memory e) riding core n word mask bits rest
      (port_at carrying m.ports c)
      (λ f. record {
        finds = word_found riding carrying m c word Storing memory h lc k f;
        honest = (head_within words count (PendingStore n word mask bits) rest q, λ reads. absurd (cc));
      }) (record { finds = tt; honest = tt })

  granted_well : (riding : Riding R) (carrying : Carrying K) (m : Memory R K) (c : ℕ) (image : Contents)
      (t : BufferedCore) (a : Asker)
      (memory : ℕ → List ℕ) → MemoryHolds riding carrying m → c < length m.ports → HaveWords riding carrying m memory →
      QueueHolds image.words t.core.count t.queue →
      Well image.words memory (event_granted a image riding t (port_at carrying m.ports c))
  granted_well riding carrying m c image t Nobody memory h lc k q = record { finds = tt; honest = tt }
  granted_well riding carrying m c image t Next memory h lc k q =
      executing_well riding carrying m c image t (need image t.core) memory h lc k refl
  granted_well riding carrying m c image t Head memory h lc k q =
      ordering_well riding carrying m c image.words t.core.count t.core.id t.queue memory h lc k q

  -- the memory system once a message is taken
  pub message_taken : (riding : Riding R) (carrying : Carrying K) (s : State R K) (c : ℕ) (memory : ℕ → List ℕ) →
      enabled riding carrying s (MessageMove c) ≡ true → MemoryHolds riding carrying s.memory →
      c < length s.memory.ports → HaveWords riding carrying s.memory memory →
      (let next : Memory R K = after_act riding carrying s.memory (TakeMessage c) in
      (MemoryHolds riding carrying next) × (c < length next.ports) × (HaveWords riding carrying next memory))
  message_taken riding carrying s c memory e h lc k = (
    memory_kept riding carrying s.memory (TakeMessage c) e h,
    subst (λ (n : ℕ). c < n) (sym (length_act riding carrying s.memory (TakeMessage c))) lc,
    words_kept riding carrying s.memory (TakeMessage c) memory h e k,
  )

  step_well : (riding : Riding R) (carrying : Carrying K) (s : State R K) (m : Move) (memory : ℕ → List ℕ) →
      enabled riding carrying s m ≡ true →
      TsoHolds riding carrying s → Coherent riding carrying s memory →
      Well s.image.words memory (event riding carrying s m)
  step_well riding carrying s (CoreMove c) memory e h k =
      executing_well riding carrying s.memory c s.image (core_at s.cores c)
      (need s.image (core_at s.cores c).core) memory h.memory
      (core_port riding carrying s c h (enabled_core riding carrying s (CoreMove c) e h)) k refl
  step_well riding carrying s (OrderMove c) memory e h k =
      let t : BufferedCore = core_at s.cores c in
      let within = enabled_core riding carrying s (OrderMove c) e h in
      ordering_well riding carrying s.memory c s.image.words t.core.count t.core.id t.queue memory h.memory
      (core_port riding carrying s c h within) k
      (h.cores c within).fits.queue
  step_well riding carrying s (RequestMove c) memory e h k = record { finds = tt; honest = tt }
  step_well riding carrying s (ResponseMove c) memory e h k = record { finds = tt; honest = tt }
  step_well riding carrying s (MessageMove c) memory e h k =
      let t : BufferedCore = core_at s.cores c in
      let within = enabled_core riding carrying s (MessageMove c) e h in
      let lc = core_port riding carrying s c h within in
      let next = message_taken riding carrying s c memory e h.memory lc k in
      by_message (λ (x : Event). Well s.image.words memory x) riding carrying s c lc
      (granted_well riding carrying (after_act riding carrying s.memory (TakeMessage c)) c s.image t t.asker memory
      next.0 next.1 next.2 (h.cores c within).fits.queue) (record { finds = tt; honest = tt })

-- ---- the law

module _ {R K : Type 0} where
  pub step_works : (riding : Riding R) (carrying : Carrying K) (s : State R K) (m : Move) (rider : R)
      (memory : ℕ → List ℕ) →
      enabled riding carrying s m ≡ true → TsoHolds riding carrying s → Coherent riding carrying s memory →
      Works riding carrying (step riding carrying rider s m) s.image.words (ordering_of (event riding carrying s m))
      memory
  step_works riding carrying s m rider memory e h k =
      let w = step_well riding carrying s m memory e h k in
      record {
        coherent = subst (λ (left : ℕ → List ℕ). HaveWords riding carrying
            (after_acts riding carrying s.memory (acts riding carrying rider s m)) left)
            (acts_memory riding carrying rider s m memory)
            (words_after riding carrying s.memory (acts riding carrying rider s m) memory
            (acts_can riding carrying s m rider e h) h.memory k);
        finds = w.finds;
        honest = w.honest;
      }
