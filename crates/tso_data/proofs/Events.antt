-- What an event writes, buffers and tells are words. The memory's words, the values of pending loads and what pending
-- stores leave are below 2^32: each event keeps it.
use Rattle.std.proofs.Common.{◌≡◌, ap, refl, sym, subst, ℕ, ◌+◌, ◌-◌, ◌<◌, ◌==◌, ◌%◌, ◌/◌, ◌^◌, Bool, true, false}
use Rattle.std.proofs.Common.{List, [], ◌∷◌, ◌++◌, length}
use Rattle.std.specs.Prelude.{drop, if◌then◌else◌, map, slice_index}
use Rattle.std.specs.List.{range_with_len}
use Rattle.access_times.specs.Riding.{Riding, Carrying}
use Rattle.image_mem.specs.Contents.{Contents}
use Rattle.link_order.specs.Queue.{is_nil}
use Rattle.rtr_types.specs.declared.TheConstants.{BLOCK_WORDS}
use Rattle.rtr_types.specs.declared.access.Access.{Access}
use Rattle.rtr_types.specs.declared.access.Kind.{Kind}
use Rattle.rtr_types.specs.declared.access.Kind.TheVariants.{Load as Loading, Store as Storing, Amo as Exchanging}
use Rattle.rtr_types.specs.declared.instr.Instr.{Instr}
use Rattle.rv_core.specs.declared.core_state.Core.{Core}
use Rattle.rv_core.specs.declared.core_state.Need.{Need}
use Rattle.rv_core.specs.declared.core_state.Need.TheVariants.{Local, Load, Store, Amo, Done}
use Rattle.rv_core.specs.Steps.{need, access_of as need_access}
use Rattle.rv_core.proofs.LawLemmas.{value_law, within_law}
use Rattle.msi_memory.specs.Acts.{TakeMessage, allows, after_act}
use Rattle.msi_memory.specs.Memories.{Memory, port_at, word_at}
use Rattle.msi_laws.specs.Holds.{MemoryHolds}
use Rattle.msi_laws.specs.Words.{HaveWords}
use Rattle.msi_laws.proofs.Properties.{finds_words}
use Rattle.msi_state.specs.Events.{Event as ClerkEvent, Nothing as NothingTold, Retires, Accesses}
use Rattle.msi_state.specs.Events.{next_instr}
use Rattle.tso_data.specs.Orders.{ordering_of}
use Rattle.tso_state.specs.declared.moves.Move.{Move}
use Rattle.tso_state.specs.declared.moves.Move.TheVariants.{Core as CoreMove, Order as OrderMove}
use Rattle.tso_state.specs.declared.moves.Move.TheVariants.{Request as RequestMove, Response as ResponseMove}
use Rattle.tso_state.specs.declared.moves.Move.TheVariants.{FromHome as MessageMove}
use Rattle.tso_state.specs.declared.pending.Asker.{Asker}
use Rattle.tso_state.specs.declared.pending.Asker.TheVariants.{Nobody, Next, Head}
use Rattle.tso_state.specs.declared.pending.Pending.{Pending}
use Rattle.tso_state.specs.declared.pending.Pending.TheVariants.{Load as PendingLoad, Store as PendingStore}
use Rattle.rv_core.specs.StoreMask.{masked}
use Rattle.tso_state.specs.Pending.{forwarded, left_by, word_of}
use Rattle.tso_state.specs.States.{State, BufferedCore, core_at}
use Rattle.tso_state.specs.Moves.{core_of}
use Rattle.tso_state.specs.Events.{Event, Nothing, Executes, Buffers, Performs, Drains, Logs, Alone}
use Rattle.tso_state.specs.Events.{tellings, locals_behind}
use Rattle.tso_state.specs.Events.{count_before, event_executing, event_granted, event_ordering}
use Rattle.tso_state.specs.Events.{pending_store, queue_after}
use Rattle.tso_state.specs.Steps.{enabled, event}
use Rattle.tso_invariant.specs.Holds.{QueueHolds, TsoHolds}
use Rattle.tso_data.proofs.WordSteps.{message_taken}
use Rattle.tso_invariant.proofs.EventCases.{by_amo, by_load, by_message, by_ordered_load, by_ordered_store}
use Rattle.tso_invariant.proofs.MoveInvariant.{core_port, enabled_core}
use Rattle.tso_invariant.proofs.Queues.{head_within}
use Rattle.rv_core.proofs.Masks.{mask_law}
use Rattle.tso_data.specs.Words.{SmallTold}

-- what a pending load got is a word, and a pending store leaves a word of a word
abbrev pub SmallPending : Pending → Type 0
SmallPending (PendingLoad count word value) = value < 2 ^ 32
SmallPending (PendingStore count word mask bits) = (old : ℕ) → old < 2 ^ 32 → masked old mask bits < 2 ^ 32

abbrev pub SmallQueue : List Pending → Type 0
SmallQueue [] = Unit {0}
SmallQueue (x ∷ rest) = SmallPending x × SmallQueue rest

pushed_small : (queue : List Pending) (x : Pending) → SmallQueue queue → SmallPending x → SmallQueue (queue ++ x ∷ [])
pushed_small [] x q small = (small, tt)
pushed_small (y ∷ rest) x q small = (q.0, pushed_small rest x q.1 small)

dropped_small : (queue : List Pending) → SmallQueue queue → SmallQueue (drop 1 queue)
dropped_small [] q = tt
dropped_small (x ∷ rest) q = q.1

left_small : (x : Pending) (old : ℕ) → SmallPending x → old < 2 ^ 32 → left_by x old < 2 ^ 32
left_small (PendingLoad count word value) old small lt = lt
left_small (PendingStore count word mask bits) old small lt = small old lt

forwarded_by : (rest : List Pending) (word old : ℕ) (x : Pending) →
    ((v : ℕ) → v < 2 ^ 32 → forwarded rest word v < 2 ^ 32) → SmallPending x → old < 2 ^ 32 →
    (b : Bool) → forwarded rest word (if b then left_by x old else old) < 2 ^ 32
forwarded_by rest word old x small is lt true = small (left_by x old) (left_small x old is lt)
forwarded_by rest word old x small is lt false = small old lt

forwarded_small : (queue : List Pending) (word old : ℕ) → SmallQueue queue → old < 2 ^ 32 →
    forwarded queue word old < 2 ^ 32
forwarded_small [] word old q lt = lt
forwarded_small (x ∷ rest) word old q lt =
    forwarded_by rest word old x (λ v small. forwarded_small rest word v q.1 small) q.0 lt (word_of x == word)

-- the memory's words are words
abbrev pub SmallMemory : (words : ℕ) → (ℕ → List ℕ) → Type 0
SmallMemory words memory = (word : ℕ) → word < words →
    slice_index (memory (word / BLOCK_WORDS)) (word % BLOCK_WORDS) < 2 ^ 32

-- what an access leaves is a word
abbrev pub SmallWritten : ClerkEvent → Type 0
SmallWritten NothingTold = Unit {0}
SmallWritten (Retires at) = Unit {0}
SmallWritten (Accesses a) = a.after < 2 ^ 32

pub record Small (t : BufferedCore) (e : Event) : Type 0 where
  pub queue : SmallQueue (queue_after t.queue e)
  pub written : SmallWritten (ordering_of e)
  pub told : SmallTold (tellings t e)

nothing_small : (t : BufferedCore) → SmallQueue t.queue → Small t Nothing
nothing_small t q = record { queue = q; written = tt; told = tt }

local_small : (t : BufferedCore) (at : Instr) → SmallQueue t.queue → Small t (Executes at)
local_small t at q = record { queue = q; written = tt; told = by (is_nil t.queue) }
  where
    by : (b : Bool) → SmallTold (if b then Alone at ∷ [] else [])
    by true = tt
    by false = tt

buffered_small : (t : BufferedCore) (at : Instr) (x : Pending) → SmallQueue t.queue → SmallPending x →
    Small t (Buffers at x)
buffered_small t at x q small = record { queue = pushed_small t.queue x q small; written = tt; told = tt }

performed_small : (t : BufferedCore) (a : Access) → SmallQueue t.queue → a.after < 2 ^ 32 → Small t (Performs a)
performed_small t a q small = record { queue = q; written = small; told = tt }

locals_small : (core : Core) (count : ℕ) (queue : List Pending) → SmallTold (locals_behind core count queue)
locals_small core count queue = each (range_with_len (count + 1) (count_before core queue - count))
  where
    each : (ns : List ℕ) → SmallTold (map (λ n. Alone (record { core = core.id; count = n })) ns)
    each [] = tt
    each (n ∷ ns) = each ns

drained_small : (t : BufferedCore) (a : Access) → SmallQueue t.queue → a.after < 2 ^ 32 → Small t (Drains a)
drained_small t a q small =
    record { queue = dropped_small t.queue q; written = small; told = locals_small t.core a.at.count (drop 1 t.queue) }

logged_small : (t : BufferedCore) (at : Instr) (word value : ℕ) → SmallQueue t.queue → value < 2 ^ 32 →
    Small t (Logs at word value)
logged_small t at word value q small =
    record {
      queue = dropped_small t.queue q;
      written = tt;
      told =
          (small, locals_small t.core at.count (drop 1 t.queue));
    }

store_small : (image : Contents) (core : Core) (word : ℕ) (whole : Bool) → need image core ≡ Store word whole →
    SmallPending (pending_store image core word)
store_small image core word whole is old lt = subst (λ (n : ℕ). n < 2 ^ 32) (mask_law image core word whole old is)
    (value_law image core old lt)

module _ {R K : Type 0} where
  -- the word of a port that may be accessed
  word_small : (riding : Riding R) (carrying : Carrying K) (m : Memory R K) (c words word : ℕ) (kind : Kind)
      (memory : ℕ → List ℕ) → MemoryHolds riding carrying m →
      c < length m.ports → HaveWords riding carrying m memory → SmallMemory words memory → word < words →
      allows riding (port_at carrying m.ports c) (word / BLOCK_WORDS) kind ≡ true →
      word_at riding (port_at carrying m.ports c) word < 2 ^ 32
  word_small riding carrying m c words word kind memory h lc k small lt is =
      subst (λ (n : ℕ). n < 2 ^ 32)
      (sym (ap (λ (ws : List ℕ). slice_index ws (word % BLOCK_WORDS))
      (finds_words riding carrying m c (word / BLOCK_WORDS) kind memory h lc is k)))
      (small word lt)

  executing_small : (riding : Riding R) (carrying : Carrying K) (m : Memory R K) (c : ℕ) (image : Contents)
      (t : BufferedCore) (needed : Need)
      (memory : ℕ → List ℕ) → MemoryHolds riding carrying m → c < length m.ports → HaveWords riding carrying m memory →
      SmallMemory image.words memory →
      SmallQueue t.queue → need image t.core ≡ needed →
      Small t (event_executing needed image riding t (port_at carrying m.ports c))
  executing_small riding carrying m c image t Local memory h lc k small q is = local_small t (next_instr t.core) q
  executing_small riding carrying m c image t (Store word whole) memory h lc k small q is =
      buffered_small t (next_instr t.core) (pending_store image t.core word) q (store_small image t.core word whole is)
  executing_small riding carrying m c image t (Done stop) memory h lc k small q is = nothing_small t q
  executing_small riding carrying m c image t (Load word) memory h lc k small q is =
      by_load (λ (e : Event). Small t e) image riding t (port_at carrying m.ports c) word
      (λ f. performed_small t _ q (value_law image t.core _ (got f)))
      (λ f. buffered_small t (next_instr t.core) _ q (forwarded_small t.queue word _ q (got f))) (nothing_small t q)
    where
      got : allows riding (port_at carrying m.ports c) (word / BLOCK_WORDS) Loading ≡ true →
          word_at riding (port_at carrying m.ports c) word < 2 ^ 32
      got = word_small riding carrying m c image.words word Loading memory h lc k small
          (within_law image t.core Loading word (ap need_access is))
  executing_small riding carrying m c image t (Amo word) memory h lc k small q is =
      by_amo (λ (e : Event). Small t e) image riding t (port_at carrying m.ports c) word
      (λ f. performed_small t _ q (value_law image t.core _
      (word_small riding carrying m c image.words word Exchanging memory h lc k small
      (within_law image t.core Exchanging word (ap need_access is)) f))) (nothing_small t q)

  ordering_small : (riding : Riding R) (carrying : Carrying K) (m : Memory R K) (c words count : ℕ) (t : BufferedCore)
      (queue : List Pending)
      (memory : ℕ → List ℕ) → MemoryHolds riding carrying m → c < length m.ports → HaveWords riding carrying m memory →
      SmallMemory words memory →
      QueueHolds words count queue → SmallQueue t.queue → SmallQueue queue →
      Small t (event_ordering queue riding t.core.id (port_at carrying m.ports c))
  ordering_small riding carrying m c words count t [] memory h lc k small holds q own = nothing_small t q
  ordering_small riding carrying m c words count t (PendingLoad n word value ∷ rest) memory h lc k small holds q own =
      by_ordered_load (λ (e : Event). Small t e) riding t.core.id n word value rest (port_at carrying m.ports c)
      (λ f. drained_small t _ q (word_small riding carrying m c words word Loading memory h lc k small
      (head_within words count (PendingLoad n word value) rest holds) f))
      (logged_small t (record { core = t.core.id; count = n }) word value q own.0)
  ordering_small riding carrying m c words count t (PendingStore n word mask bits ∷ rest) memory h
      lc k small holds q own =
      by_ordered_store (λ (e : Event). Small t e) riding t.core.id n word mask bits rest (port_at carrying m.ports c)
      (λ f. drained_small t _ q (own.0 (word_at riding (port_at carrying m.ports c) word)
      (word_small riding carrying m c words word Storing memory h lc k small
      (head_within words count (PendingStore n word mask bits) rest holds) f))) (nothing_small t q)

  granted_small : (riding : Riding R) (carrying : Carrying K) (m : Memory R K) (c : ℕ) (image : Contents)
      (t : BufferedCore) (a : Asker)
      (memory : ℕ → List ℕ) → MemoryHolds riding carrying m → c < length m.ports → HaveWords riding carrying m memory →
      SmallMemory image.words memory →
      QueueHolds image.words t.core.count t.queue → SmallQueue t.queue →
      Small t (event_granted a image riding t (port_at carrying m.ports c))
  granted_small riding carrying m c image t Nobody memory h lc k small holds q = nothing_small t q
  granted_small riding carrying m c image t Next memory h lc k small holds q =
      executing_small riding carrying m c image t (need image t.core) memory h lc k small q refl
  granted_small riding carrying m c image t Head memory h lc k small holds q =
      ordering_small riding carrying m c image.words t.core.count t t.queue memory h lc k small holds q q

  pub move_small : (riding : Riding R) (carrying : Carrying K) (s : State R K) (m : Move) (memory : ℕ → List ℕ) →
      enabled riding carrying s m ≡ true →
      TsoHolds riding carrying s → HaveWords riding carrying s.memory memory → SmallMemory s.image.words memory →
      SmallQueue (core_at s.cores (core_of m)).queue →
      Small (core_at s.cores (core_of m)) (event riding carrying s m)
  move_small riding carrying s (CoreMove c) memory e h k small q =
      executing_small riding carrying s.memory c s.image (core_at s.cores c)
      (need s.image (core_at s.cores c).core) memory h.memory
      (core_port riding carrying s c h (enabled_core riding carrying s (CoreMove c) e h)) k small q refl
  move_small riding carrying s (OrderMove c) memory e h k small q =
      let t : BufferedCore = core_at s.cores c in
      let within = enabled_core riding carrying s (OrderMove c) e h in
      ordering_small riding carrying s.memory c s.image.words t.core.count t t.queue memory h.memory
      (core_port riding carrying s c h within) k small
      (h.cores c within).fits.queue q q
  move_small riding carrying s (RequestMove c) memory e h k small q = nothing_small (core_at s.cores c) q
  move_small riding carrying s (ResponseMove c) memory e h k small q = nothing_small (core_at s.cores c) q
  move_small riding carrying s (MessageMove c) memory e h k small q =
      let t : BufferedCore = core_at s.cores c in
      let within = enabled_core riding carrying s (MessageMove c) e h in
      let lc = core_port riding carrying s c h within in
      let next = message_taken riding carrying s c memory e h.memory lc k in
      by_message (λ (x : Event). Small t x) riding carrying s c lc
      (granted_small riding carrying (after_act riding carrying s.memory (TakeMessage c)) c s.image t t.asker memory
      next.0 next.1 next.2 small (h.cores c within).fits.queue q) (nothing_small t q)
