-- Rule: what happens with store buffers, and what is told: event_executing, event_ordering, event_receiving, tellings
-- What a core does in a move, what becomes of it, and what the clerk is told, for every type of riders and carries.
use Rattle.std.specs.Prelude.{ℕ, ◌+◌, ◌-◌, ◌/◌, ◌==◌, Bool, ◌&&◌, List, [], ◌∷◌, ◌++◌, drop, map, if◌then◌else◌}
use Rattle.std.specs.List.{range_with_len}
use Rattle.access_times.specs.Riding.{Riding, Carrying}
use Rattle.image_mem.specs.Contents.{Contents}
use Rattle.link_order.specs.Queue.{is_nil}
use Rattle.rtr_types.specs.declared.TheConstants.{BLOCK_WORDS}
use Rattle.rtr_types.specs.declared.instr.Instr.{Instr}
use Rattle.rtr_types.specs.declared.access.Access.{Access}
use Rattle.rtr_types.specs.declared.access.Kind.TheVariants.{Load as Loading, Store as Storing, Amo as Exchanging}
use Rattle.rv_core.specs.declared.core_state.Core.{Core}
use Rattle.rv_core.specs.declared.core_state.Need.{Need}
use Rattle.rv_core.specs.declared.core_state.Need.TheVariants.{Local, Load, Store, Amo, Done}
use Rattle.rv_core.specs.Steps.{need, after}
use Rattle.msi_memory.specs.declared.port.Port.{Port}
use Rattle.msi_memory.specs.Acts.{allows, data_next}
use Rattle.msi_memory.specs.Memories.{word_at}
use Rattle.msi_state.specs.Events.{Event as ClerkEvent, Retires, Accesses, next_instr, access_of, port_taken}
use Rattle.rv_core.specs.StoreMask.{store_mask}
use Rattle.tso_state.specs.Pending.{count_of, value_of, left_by, forwarded}
use Rattle.tso_state.specs.States.{BufferedCore}
use Rattle.tso_state.specs.declared.pending.Pending.{Pending}
use Rattle.tso_state.specs.declared.pending.Pending.TheVariants.{Load as PendingLoad, Store as PendingStore}
use Rattle.tso_state.specs.declared.pending.Asker.{Asker}
use Rattle.tso_state.specs.declared.pending.Asker.TheVariants.{Nobody, Next, Head}

-- what a core does in a move
pub data Event : Type 0 where
  -- nothing executes, and nothing is ordered
  Nothing : Event
  -- an instruction that touches no data executes
  Executes : (at : Instr) → Event
  -- a store or a load executes and joins the queue
  Buffers : (at : Instr) → (pending : Pending) → Event
  -- a load or an atomic memory operation executes and is ordered at once
  Performs : (a : Access) → Event
  -- the head of the queue is ordered: a store is written, or a load still finds its value
  Drains : (a : Access) → Event
  -- the head of the queue is a load that is logged with its value
  Logs : (at : Instr) → (word value : ℕ) → Event

-- the pending store of a core whose next instruction stores to this word
abbrev pub pending_store : Contents → Core → (word : ℕ) → Pending
pending_store image core word =
    let mask = store_mask image core in PendingStore (core.count + 1) word mask.0 mask.1

module _ {R K : Type 0} where
  -- the port can read the word, and it has this value still
  abbrev pub still_there : Riding R → Port R K → (word value : ℕ) → Bool
  still_there riding p word value = allows riding p (word / BLOCK_WORDS) Loading && (word_at riding p word == value)

  -- a core loads a word that its port has: with pending accesses it joins them, with the value that it sees
  abbrev pub event_loading : Contents → Riding R → BufferedCore → Port R K → (word : ℕ) → Event
  event_loading image riding t p word =
      if is_nil t.queue then Performs (access_of image riding t.core p word Loading)
      else Buffers (next_instr t.core)
      (PendingLoad (t.core.count + 1) word (forwarded t.queue word (word_at riding p word)))

  -- a core's next instruction executes, by what it needs, where its port allows the access that it makes; a store needs
  -- nothing of the port
  abbrev pub event_executing : Need → Contents → Riding R → BufferedCore → Port R K → Event
  event_executing Local image riding t p = Executes (next_instr t.core)
  event_executing (Store word whole) image riding t p =
      Buffers (next_instr t.core) (pending_store image t.core word)
  event_executing (Load word) image riding t p =
      if allows riding p (word / BLOCK_WORDS) Loading then event_loading image riding t p word else Nothing
  event_executing (Amo word) image riding t p =
      if allows riding p (word / BLOCK_WORDS) Exchanging
      then Performs (access_of image riding t.core p word Exchanging) else Nothing
  event_executing (Done stop) image riding t p = Nothing

  -- the oldest of a core's pending accesses is ordered: a store where the port may write its block, and a load where
  -- its word is still there with the value that it got. Elsewhere the load is logged with that value.
  abbrev pub event_ordering : List Pending → Riding R → (core : ℕ) → Port R K → Event
  event_ordering [] riding core p = Nothing
  event_ordering (PendingStore count word mask bits ∷ rest) riding core p =
      let old = word_at riding p word in
      if allows riding p (word / BLOCK_WORDS) Storing
      then Drains (record {
        at = record { core = core; count = count };
        word = word;
        kind = Storing;
        before = old;
        after = left_by (PendingStore count word mask bits) old;
      })
      else Nothing
  event_ordering (PendingLoad count word value ∷ rest) riding core p =
      let old = word_at riding p word in
      let at : Instr = record { core = core; count = count } in
      if still_there riding p word value
      then Drains (record { at = at; word = word; kind = Loading; before = old; after = old })
      else Logs at word value

  -- a block's data end the access that asked for them
  abbrev pub event_granted : Asker → Contents → Riding R → BufferedCore → Port R K → Event
  event_granted Nobody image riding t p = Nothing
  event_granted Next image riding t p = event_executing (need image t.core) image riding t p
  event_granted Head image riding t p = event_ordering t.queue riding t.core.id p

  -- a core's port takes a message
  abbrev pub event_receiving : Contents → Riding R → Carrying K → BufferedCore → Port R K → Event
  event_receiving image riding carrying t p =
      if data_next p.messages.items then event_granted t.asker image riding t (port_taken riding carrying p)
      else Nothing

-- ---- what becomes of the core

-- the core after it: an instruction that executes finds its value, one that leaves the queue executed before
abbrev pub core_after : Contents → Core → Event → Core
core_after image core Nothing = core
core_after image core (Executes at) = after image core 0
core_after image core (Buffers at pending) = after image core (value_of pending)
core_after image core (Performs a) = after image core a.before
core_after image core (Drains a) = core
core_after image core (Logs at word value) = core

-- the queue after it: what is buffered joins at its end, what is drained or logged was its head
abbrev pub queue_after : List Pending → Event → List Pending
queue_after queue Nothing = queue
queue_after queue (Executes at) = queue
queue_after queue (Buffers at pending) = queue ++ pending ∷ []
queue_after queue (Performs a) = queue
queue_after queue (Drains a) = drop 1 queue
queue_after queue (Logs at word value) = drop 1 queue

-- an asker asks where nothing else happens
abbrev pub asker_after : (asking : Asker) → Asker → Event → Asker
asker_after asking asker Nothing = asking
asker_after asking asker _ = asker

-- ---- what is told

-- what is told of an instruction: that it touches no data, its access when that is ordered, or that it is a load that
-- is logged with its value
pub data Told : Type 0 where
  Alone : (at : Instr) → Told
  Ordered : (a : Access) → Told
  Logged : (at : Instr) → (word value : ℕ) → Told

-- the clerk hears of a logged load as of an instruction that touches no data
abbrev pub clerk_event : Told → ClerkEvent
clerk_event (Alone at) = Retires at
clerk_event (Ordered a) = Accesses a
clerk_event (Logged at word value) = Retires at

-- the instruction
abbrev pub instr_told : Told → Instr
instr_told (Alone at) = at
instr_told (Ordered a) = a.at
instr_told (Logged at word value) = at

-- the count of the last instruction before the oldest of these pending accesses of a core, and of its last where
-- there is none
abbrev pub count_before : Core → List Pending → ℕ
count_before core [] = core.count
count_before core (p ∷ rest) = count_of p - 1

-- the instructions of a core behind this count, and before the oldest of these pending accesses: none touches data
abbrev pub locals_behind : Core → (count : ℕ) → List Pending → List Told
locals_behind core count queue =
    map (λ n. Alone (record { core = core.id; count = n }))
    (range_with_len (count + 1) (count_before core queue - count))

-- a core's instructions are told in program order: an access when it is ordered, a load that is logged when it leaves
-- the queue, and an instruction that touches no data once no access before it is pending
abbrev pub tellings : BufferedCore → Event → List Told
tellings t Nothing = []
tellings t (Executes at) = if is_nil t.queue then Alone at ∷ [] else []
tellings t (Buffers at pending) = []
tellings t (Performs a) = Ordered a ∷ []
tellings t (Drains a) = Ordered a ∷ locals_behind t.core a.at.count (drop 1 t.queue)
tellings t (Logs at word value) = Logged at word value ∷ locals_behind t.core at.count (drop 1 t.queue)
