-- What a core's loads read is told with them, or still pending. A load's word is noted as it executes, and is either
-- told in the same move or pending until it is told.
use Rattle.std.proofs.Common.{◌≡◌, ◌∙◌, ap, refl, sym, subst, ℕ, ◌+◌, ◌/◌, ◌==◌, Bool, true, false, not, ◌&&◌}
use Rattle.std.proofs.Common.{List, [], ◌∷◌, ◌++◌, arith, eqb-true, length, ◌<◌}
use Rattle.std.specs.Prelude.{drop, if◌then◌else◌}
use Rattle.std.proofs.lemmas.Bool.Decides.{nat_tests}
use Rattle.std.proofs.lemmas.List.{append-nil, append_assoc}
use Rattle.std.proofs.lemmas.Bool.{and_parts}
use Rattle.access_times.specs.Riding.{Riding, Carrying}
use Rattle.image_mem.specs.Contents.{Contents}
use Rattle.link_order.specs.Queue.{is_nil}
use Rattle.rtr_types.specs.Accesses.{is_read}
use Rattle.rtr_types.specs.declared.TheConstants.{BLOCK_WORDS}
use Rattle.rtr_types.specs.declared.access.Access.{Access}
use Rattle.rtr_types.specs.declared.access.Kind.TheVariants.{Load as Loading, Store as Storing, Amo as Exchanging}
use Rattle.rtr_types.specs.declared.instr.Instr.{Instr}
use Rattle.rv_core.specs.declared.core_state.Core.{Core}
use Rattle.rv_core.specs.declared.core_state.Need.{Need}
use Rattle.rv_core.specs.declared.core_state.Need.TheVariants.{Local, Load, Store, Amo, Done}
use Rattle.rv_core.specs.declared.outcome.LoadNote.{LoadNote}
use Rattle.rv_core.specs.Steps.{need}
use Rattle.msi_memory.specs.declared.port.Port.{Port}
use Rattle.msi_memory.specs.Acts.{TakeMessage, after_act, allows, data_next}
use Rattle.msi_memory.specs.Memories.{port_at, word_at}
use Rattle.msi_state.specs.Events.{access_of, next_instr, port_taken}
use Rattle.tso_state.specs.declared.moves.Move.{Move}
use Rattle.tso_state.specs.declared.moves.Move.TheVariants.{Core as CoreMove, Order as OrderMove}
use Rattle.tso_state.specs.declared.moves.Move.TheVariants.{Request as RequestMove, Response as ResponseMove}
use Rattle.tso_state.specs.declared.moves.Move.TheVariants.{FromHome as MessageMove}
use Rattle.tso_state.specs.declared.pending.Pending.{Pending}
use Rattle.tso_state.specs.declared.pending.Pending.TheVariants.{Load as PendingLoad, Store as PendingStore}
use Rattle.tso_state.specs.declared.pending.Asker.{Asker}
use Rattle.tso_state.specs.declared.pending.Asker.TheVariants.{Nobody, Next, Head}
use Rattle.tso_state.specs.Pending.{forwarded}
use Rattle.tso_state.specs.States.{State, BufferedCore, core_at}
use Rattle.tso_state.specs.Moves.{core_of}
use Rattle.tso_state.specs.Events.{Event, Nothing, Executes, Buffers, Performs, Drains, Logs, Told, Alone, Ordered}
use Rattle.tso_state.specs.Events.{Logged, pending_store, tellings, locals_behind}
use Rattle.tso_state.specs.Events.{event_executing, event_granted, event_loading, event_ordering}
use Rattle.tso_state.specs.Events.{queue_after}
use Rattle.tso_state.specs.Runs.{read_by, read_in}
use Rattle.tso_state.specs.Steps.{case_holds, enabled, event, is_fence, is_next}
use Rattle.tso_invariant.specs.Holds.{TsoHolds}
use Rattle.tso_invariant.proofs.EventCases.{by_amo, by_load, by_message, by_ordered_load, by_ordered_store}
use Rattle.tso_invariant.proofs.MoveInvariant.{core_can, core_port, enabled_core}
use Rattle.tso_told.specs.Played.{read_told, reads_told, reads_pending}
use Rattle.tso_invariant.proofs.MoveGrounds.{amo_alone}
use Rattle.tso_told.proofs.ToldMoves.{next_alone}
use Rattle.tso_told.proofs.Tellings.{behind_have}
use Rattle.tso_invariant.proofs.OrderedStores.{stored}

-- what an executing instruction read
abbrev pub noted_in : Event → List LoadNote
noted_in (Buffers at x) = read_by x
noted_in (Performs a) = if is_read a.kind then record { count = a.at.count; word = a.word; value = a.before } ∷ [] else
    []
noted_in _ = []

-- what is told and what is pending afterwards are what was pending and what is read now
abbrev pub EventReads : BufferedCore → Event → Type 0
EventReads t e = reads_told (tellings t e) ++ reads_pending (queue_after t.queue e) ≡ reads_pending t.queue ++ noted_in
    e

-- the event is of this core
abbrev pub IsOwn : ℕ → Event → Type 0
IsOwn c (Buffers at x) = at.core ≡ c
IsOwn c (Performs a) = a.at.core ≡ c
IsOwn c _ = Unit {0}

pub own_read : (c : ℕ) (e : Event) → IsOwn c e → read_in c e ≡ noted_in e
own_read c Nothing own = refl
own_read c (Executes at) own = refl
own_read c (Buffers at x) own = let here : (at.core == c) ≡ true = grind (arith, nat_tests) in rw here refl
own_read c (Performs a) own = let here : (a.at.core == c) ≡ true = grind (arith, nat_tests) in rw here refl
own_read c (Drains a) own = refl
own_read c (Logs at word value) own = refl

pub others_read : (c d : ℕ) (e : Event) → (d == c) ≡ false → IsOwn c e → read_in d e ≡ []
others_read c d Nothing other own = refl
others_read c d (Executes at) other own = refl
others_read c d (Buffers at x) other own = let not_here : (at.core == d) ≡ false = grind (arith, nat_tests) in
    rw not_here refl
others_read c d (Performs a) other own = let not_here : (a.at.core == d) ≡ false = grind (arith, nat_tests) in
    rw not_here refl
others_read c d (Drains a) other own = refl
others_read c d (Logs at word value) other own = refl

pub reads-append : (xs ys : List Told) → reads_told (xs ++ ys) ≡ reads_told xs ++ reads_told ys
reads-append [] ys = refl
reads-append (x ∷ xs) ys = ap (λ (l : List LoadNote). read_told x ++ l) (reads-append xs ys)
    ∙ sym (append_assoc (read_told x) (reads_told xs) (reads_told ys))

pending-push : (queue : List Pending) (x : Pending) → reads_pending (queue ++ x ∷ []) ≡ reads_pending queue ++ read_by x
pending-push [] x = append-nil (read_by x)
pending-push (y ∷ queue) x = ap (λ (l : List LoadNote). read_by y ++ l) (pending-push queue x)
    ∙ sym (append_assoc (read_by y) (reads_pending queue) (read_by x))

locals_read : (core : Core) (count : ℕ) (queue : List Pending) → reads_told (locals_behind core count queue) ≡ []
locals_read = behind_have (λ (l : List Told). reads_told l ≡ []) refl (λ at l h. h)

nothing_read : (t : BufferedCore) → EventReads t Nothing
nothing_read t = sym (append-nil (reads_pending t.queue))

local_read : (t : BufferedCore) (at : Instr) → EventReads t (Executes at)
local_read t at = by_nil (is_nil t.queue)
  where
    by_nil : (b : Bool) →
        reads_told (if b then Alone at ∷ [] else []) ++ reads_pending t.queue ≡ reads_pending t.queue ++ []
    by_nil true = sym (append-nil (reads_pending t.queue))
    by_nil false = sym (append-nil (reads_pending t.queue))

performed_read : (t : BufferedCore) (a : Access) → is_nil t.queue ≡ true → EventReads t (Performs a)
performed_read t a nil = by_queue t.queue nil
  where
    by_queue : (queue : List Pending) → is_nil queue ≡ true →
        reads_told (Ordered a ∷ []) ++ reads_pending queue ≡ reads_pending queue ++ noted_in (Performs a)
    by_queue [] e = append-nil (read_told (Ordered a) ++ []) ∙ append-nil (read_told (Ordered a))
    by_queue (x ∷ rest) e = absurd (cc)

-- the oldest leaves with what it read
head_read : (t : BufferedCore) (x : Pending) (rest : List Pending) (e : Told) (count : ℕ) → t.queue ≡ x ∷ rest →
    read_told e ≡ read_by x →
    reads_told (e ∷ locals_behind t.core count (drop 1 t.queue)) ++ reads_pending (drop 1 t.queue) ≡ reads_pending
    t.queue ++ []
head_read t x rest e count is same =
    ap (λ (l : List LoadNote). (read_told e ++ l) ++ reads_pending (drop 1 t.queue))
    (locals_read t.core count (drop 1 t.queue))
    ∙ (ap (λ (l : List LoadNote). l ++ reads_pending (drop 1 t.queue)) (append-nil (read_told e))
    ∙ (ap (λ (l : List LoadNote). l ++ reads_pending (drop 1 t.queue)) same
    ∙ (ap (λ (q : List Pending). read_by x ++ reads_pending (drop 1 q)) is
    ∙ (ap reads_pending (sym is) ∙ sym (append-nil (reads_pending t.queue))))))

module _ {R K : Type 0} where
  pub executing_reads : (image : Contents) (riding : Riding R) (t : BufferedCore) (p : Port R K) (needed : Need) →
      ((word : ℕ) → needed ≡ Amo word → is_nil t.queue ≡ true) → EventReads t (event_executing needed image riding t p)
  executing_reads image riding t p Local alone = local_read t (next_instr t.core)
  executing_reads image riding t p (Store word whole) alone = pending-push t.queue (pending_store image t.core word)
  executing_reads image riding t p (Done stop) alone = nothing_read t
  executing_reads image riding t p (Load word) alone = by_allowed (allows riding p (word / BLOCK_WORDS) Loading)
    where
      x : Pending
      x = PendingLoad (t.core.count + 1) word (forwarded t.queue word (word_at riding p word))

      b : Access
      b = access_of image riding t.core p word Loading

      by_nil : (n : Bool) → is_nil t.queue ≡ n → EventReads t (if n then Performs b else Buffers (next_instr t.core) x)
      by_nil true e = performed_read t b e
      by_nil false e = pending-push t.queue x

      by_allowed : (l : Bool) → EventReads t (if l then event_loading image riding t p word else Nothing)
      by_allowed true = by_nil (is_nil t.queue) refl
      by_allowed false = nothing_read t
  executing_reads image riding t p (Amo word) alone = by_allowed (allows riding p (word / BLOCK_WORDS) Exchanging)
    where
      b : Access
      b = access_of image riding t.core p word Exchanging

      by_allowed : (l : Bool) → EventReads t (if l then Performs b else Nothing)
      by_allowed true = performed_read t b (alone word refl)
      by_allowed false = nothing_read t

  pub executing_own : (image : Contents) (riding : Riding R) (t : BufferedCore) (p : Port R K) (needed : Need) (c : ℕ) →
      t.core.id ≡ c →
      IsOwn c (event_executing needed image riding t p)
  executing_own image riding t p Local c id = tt
  executing_own image riding t p (Store word whole) c id = id
  executing_own image riding t p (Done stop) c id = tt
  executing_own image riding t p (Load word) c id =
      by_load (λ (e : Event). IsOwn c e) image riding t p word (λ allowed. id) (λ allowed. id) tt
  executing_own image riding t p (Amo word) c id =
      by_amo (λ (e : Event). IsOwn c e) image riding t p word (λ allowed. id) tt

  pub ordering_reads : (riding : Riding R) (t : BufferedCore) (p : Port R K) (queue : List Pending) → t.queue ≡ queue →
      EventReads t (event_ordering queue riding t.core.id p)
  ordering_reads riding t p [] is = nothing_read t
  ordering_reads riding t p (PendingLoad count word value ∷ rest) is =
      by_tests (allows riding p (word / BLOCK_WORDS) Loading) (word_at riding p word == value) refl
    where
      at : Instr
      at = record { core = t.core.id; count = count }

      found : ℕ → Access
      found w = record { at = at; word = word; kind = Loading; before = w; after = w }

      by_tests : (l same : Bool) → (word_at riding p word == value) ≡ same →
          EventReads t (if l && same then Drains (found (word_at riding p word)) else Logs at word value)
      by_tests true true e =
          subst (λ (w : ℕ). EventReads t (Drains (found w))) (sym (eqb-true (word_at riding p word) value e))
          (head_read t (PendingLoad count word value) rest (Ordered (found value)) count is refl)
      by_tests true false e = head_read t (PendingLoad count word value) rest (Logged at word value) count is refl
      by_tests false same e = head_read t (PendingLoad count word value) rest (Logged at word value) count is refl
  ordering_reads riding t p (PendingStore count word mask bits ∷ rest) is =
      by_allowed (allows riding p (word / BLOCK_WORDS) Storing)
    where
      b : Access
      b = stored t.core.id count word mask bits (word_at riding p word)

      by_allowed : (l : Bool) → EventReads t (if l then Drains b else Nothing)
      by_allowed true = head_read t (PendingStore count word mask bits) rest (Ordered b) count is refl
      by_allowed false = nothing_read t

  pub ordering_own : (riding : Riding R) (core : ℕ) (p : Port R K) (queue : List Pending) (c : ℕ) →
      IsOwn c (event_ordering queue riding core p)
  ordering_own riding core p [] c = tt
  ordering_own riding core p (PendingLoad count word value ∷ rest) c =
      by_ordered_load (λ (e : Event). IsOwn c e) riding core count word value rest p (λ allowed. tt) tt
  ordering_own riding core p (PendingStore count word mask bits ∷ rest) c =
      by_ordered_store (λ (e : Event). IsOwn c e) riding core count word mask bits rest p (λ allowed. tt) tt

  granted_reads : (riding : Riding R) (carrying : Carrying K) (s : State R K) (c : ℕ) (q : Port R K) →
      TsoHolds riding carrying s → c < length s.cores → (x : Asker) → (core_at s.cores c).asker ≡ x →
      EventReads (core_at s.cores c) (event_granted x s.image riding (core_at s.cores c) q)
  granted_reads riding carrying s c q h within Nobody is = nothing_read (core_at s.cores c)
  granted_reads riding carrying s c q h within Next is =
      executing_reads s.image riding (core_at s.cores c) q (need s.image (core_at s.cores c).core)
      (next_alone riding carrying s c h within is)
  granted_reads riding carrying s c q h within Head is =
      ordering_reads riding (core_at s.cores c) q (core_at s.cores c).queue refl

  -- in an enabled move
  pub move_reads : (riding : Riding R) (carrying : Carrying K) (s : State R K) (m : Move) →
      enabled riding carrying s m ≡ true → TsoHolds riding carrying s →
      EventReads (core_at s.cores (core_of m)) (event riding carrying s m)
  move_reads riding carrying s (CoreMove c) e h =
      let t : BufferedCore = core_at s.cores c in
      let p : Port R K = port_at carrying s.memory.ports c in
      let w = core_can riding carrying s c e in
      executing_reads s.image riding t p (need s.image t.core)
      (amo_alone s.image riding t p (need s.image t.core) (is_fence s.image t.core)
      (and_parts (not (is_next t.asker))
      (case_holds (need s.image t.core) (is_fence s.image t.core) riding t.queue p) w.1).1)
  move_reads riding carrying s (OrderMove c) e h =
      let t : BufferedCore = core_at s.cores c in ordering_reads riding t
      (port_at carrying s.memory.ports c) t.queue refl
  move_reads riding carrying s (RequestMove c) e h = nothing_read (core_at s.cores c)
  move_reads riding carrying s (ResponseMove c) e h = nothing_read (core_at s.cores c)
  move_reads riding carrying s (MessageMove c) e h =
      let within = enabled_core riding carrying s (MessageMove c) e h in
      by_message (λ (x : Event). EventReads (core_at s.cores c) x) riding carrying s c
      (core_port riding carrying s c h within)
      (granted_reads riding carrying s c (port_at carrying (after_act riding carrying s.memory (TakeMessage c)).ports c)
      h within (core_at s.cores c).asker refl) (nothing_read (core_at s.cores c))

  pub move_own : (riding : Riding R) (carrying : Carrying K) (s : State R K) (m : Move) →
      (core_at s.cores (core_of m)).core.id ≡ core_of m →
      IsOwn (core_of m) (event riding carrying s m)
  move_own riding carrying s (CoreMove c) id =
      let t : BufferedCore = core_at s.cores c in
      executing_own s.image riding t (port_at carrying s.memory.ports c) (need s.image t.core) c id
  move_own riding carrying s (OrderMove c) id =
      let t : BufferedCore = core_at s.cores c in ordering_own riding t.core.id
      (port_at carrying s.memory.ports c) t.queue c
  move_own riding carrying s (RequestMove c) id = tt
  move_own riding carrying s (ResponseMove c) id = tt
  move_own riding carrying s (MessageMove c) id = by_data (data_next (port_at carrying s.memory.ports c).messages.items)
    where
      t : BufferedCore
      t = core_at s.cores c

      q : Port R K
      q = port_taken riding carrying (port_at carrying s.memory.ports c)

      by_asker : (x : Asker) → IsOwn c (event_granted x s.image riding t q)
      by_asker Nobody = tt
      by_asker Next = executing_own s.image riding t q (need s.image t.core) c id
      by_asker Head = ordering_own riding t.core.id q t.queue c

      by_data : (d : Bool) → IsOwn c (if d then event_granted t.asker s.image riding t q else Nothing)
      by_data true = by_asker t.asker
      by_data false = tt
