-- What a core does at its port, as the state after it and as what the clerk is told.
use Rattle.std.specs.Prelude.{◌≡◌, ◌<◌, ℕ, ◌+◌, ◌/◌, Bool, false, if◌then◌else◌, List, drop, length, map, slice_set}
use Rattle.std.specs.List.{range_with_len}
use Rattle.access_times.specs.Riding.{Riding, Carrying}
use Rattle.image_mem.specs.Contents.{Contents}
use Rattle.rtr_types.specs.declared.TheConstants.{BLOCK_WORDS}
use Rattle.rtr_types.specs.declared.access.Access.{Access}
use Rattle.rtr_types.specs.declared.access.Kind.{Kind}
use Rattle.rtr_types.specs.declared.instr.Instr.{Instr}
use Rattle.rv_core.specs.Steps.{need}
use Rattle.msi_cache.specs.Lines.{waits}
use Rattle.msi_memory.specs.Acts.{after_acts, want}
use Rattle.msi_memory.specs.Memories.{port_at}
use Rattle.msi_state.specs.Events.{access_of, next_instr, rider_of_event}
use Rattle.tso_state.specs.declared.pending.Asker.{Asker}
use Rattle.tso_state.specs.declared.pending.Asker.TheVariants.{Nobody}
use Rattle.tso_state.specs.declared.pending.Pending.{Pending}
use Rattle.tso_state.specs.Events.{Event, Executes, Buffers, Performs, Told, Alone, core_after}
use Rattle.tso_state.specs.Events.{event_executing, event_granted, event_loading, event_ordering, queue_after, tellings}
use Rattle.tso_state.specs.States.{BufferedCore, State, core_at}
use Rattle.tso_state.specs.Steps.{acts_told}
use Rattle.tso_data.specs.Orders.{ordering_of}
use Rattle.tso_clerk.specs.Telling.{AcceptsAll, TellsAll}
use Rattle.tso_core.specs.Machineries.{Machinery}

-- what becomes of a core by an event, while whom its port waits for stays
abbrev pub core_doing : Contents → BufferedCore → Event → BufferedCore
core_doing image t e =
    record { core = core_after image t.core e; queue = queue_after t.queue e; asker = t.asker }

-- a core whose oldest pending access left the queue
abbrev pub popped : BufferedCore → BufferedCore
popped t = record t { queue = drop 1 t.queue }

-- so many instructions of a core behind this count, none of which touches data
abbrev pub locals_of : (core count many : ℕ) → List Told
locals_of core count many = map (λ n. Alone (record { core = core; count = n })) (range_with_len (count + 1) many)

module _ {R K : Type 0} where
  -- the rider in the state on core c's copy that an event's access touches
  abbrev pub rider_in : Riding R → Carrying K → State R K → (c : ℕ) → Event → R
  rider_in riding carrying s c e = rider_of_event riding (ordering_of e) (port_at carrying s.memory.ports c)

  -- the new state is the old one once this was told of core c's instructions, and its access made, if there is one
  abbrev pub HasTold : Riding R → Carrying K → (old new : State R K) → (c : ℕ) → (rider : R) → List Told → Type 0
  HasTold riding carrying old new c rider list =
      new ≡ record old { memory = after_acts riding carrying old.memory (acts_told c rider list) }

  -- the new state is the old one without core c's oldest pending access
  abbrev pub HasLeft : (old new : State R K) → (c : ℕ) → Type 0
  HasLeft old new c = new ≡ record old { cores = slice_set old.cores c (popped (core_at old.cores c)) }

  -- the new state is the old one after this event of core c
  abbrev pub HasDone : Riding R → Carrying K → (old new : State R K) → (c : ℕ) → Event → Type 0
  HasDone riding carrying old new c e =
      let t = core_at old.cores c in
      new ≡ record old {
        cores = slice_set old.cores c (core_doing old.image t e);
        memory = after_acts riding carrying old.memory
            (acts_told c (rider_in riding carrying new c e) (tellings t e));
      }

  -- the clerk accepts what is told by this event of core c
  abbrev pub AcceptsDoing : {C : Type 0} → (C → Instr → Type 0) → (C → Instr → Type 0) → (C → Instr → K → C → Type 0)
      → (C → R → Access → K → C → R → Type 0) → (C → Instr → ℕ → ℕ → K → C → Type 0) → Riding R → Carrying K
      → State R K → (c : ℕ) → Event → C → Type 0
  AcceptsDoing accepts accepts_alone local touch logged riding carrying s c e clerk =
      AcceptsAll accepts accepts_alone local touch logged carrying (tellings (core_at s.cores c) e)
      (port_at carrying s.memory.ports c).carry clerk (rider_in riding carrying s c e)

  -- the clerk was told of this event of core c
  abbrev pub ToldDoing : {C : Type 0} → (C → Instr → K → C → Type 0) → (C → R → Access → K → C → R → Type 0)
      → (C → Instr → ℕ → ℕ → K → C → Type 0) → Riding R → Carrying K → (old new : State R K) → (c : ℕ) → Event
      → (before after : C) → Type 0
  ToldDoing local touch logged riding carrying old new c e before after =
      TellsAll local touch logged carrying (tellings (core_at old.cores c) e)
      (port_at carrying old.memory.ports c).carry
      before (rider_in riding carrying old c e) after (rider_in riding carrying new c e)

  -- core c did this: the clerk was told of it, and no block of the home got room
  pub record Does {C : Type 0} (local : C → Instr → K → C → Type 0) (touch : C → R → Access → K → C → R → Type 0)
      (logged : C → Instr → ℕ → ℕ → K → C → Type 0) (riding : Riding R) (carrying : Carrying K)
      (old new : Machinery R K) (c : ℕ) (e : Event) (before after : C) : Type 0 where
    pub state : HasDone riding carrying old.state new.state c e
    pub rooms : new.rooms ≡ old.rooms
    pub told : ToldDoing local touch logged riding carrying old.state new.state c e before after

  -- ---- the events by which core c executes its next instruction

  -- without data
  abbrev pub executing_local : State R K → (c : ℕ) → Event
  executing_local s c = Executes (next_instr (core_at s.cores c).core)

  -- with an access that joins the queue
  abbrev pub buffering : State R K → (c : ℕ) → Pending → Event
  buffering s c pending = Buffers (next_instr (core_at s.cores c).core) pending

  -- with an access that is ordered at once
  abbrev pub performing : Riding R → Carrying K → State R K → (c word : ℕ) → Kind → Event
  performing riding carrying s c word kind =
      Performs (access_of s.image riding (core_at s.cores c).core (port_at carrying s.memory.ports c) word kind)

  -- as a load of a word that its port has
  abbrev pub loading : Riding R → Carrying K → State R K → (c word : ℕ) → Event
  loading riding carrying s c word =
      event_loading s.image riding (core_at s.cores c) (port_at carrying s.memory.ports c) word

  -- by what it needs
  abbrev pub executing : Riding R → Carrying K → State R K → (c : ℕ) → Event
  executing riding carrying s c =
      let t = core_at s.cores c in
      event_executing (need s.image t.core) s.image riding t (port_at carrying s.memory.ports c)

  -- ---- the event by which core c's oldest pending access is ordered or logged
  abbrev pub ordering : Riding R → Carrying K → State R K → (c : ℕ) → Event
  ordering riding carrying s c =
      let t = core_at s.cores c in event_ordering t.queue riding t.core.id (port_at carrying s.memory.ports c)

  -- and that by which the access is made for which it asked
  abbrev pub granting : Riding R → Carrying K → State R K → (c : ℕ) → Event
  granting riding carrying s c =
      let t = core_at s.cores c in event_granted t.asker s.image riding t (port_at carrying s.memory.ports c)

  -- ---- asking

  -- the new state is the old one after core c's port was asked for what this access needs, by this asker
  abbrev pub HasAsked : Riding R → Carrying K → (old new : State R K) → (c word : ℕ) → Kind → Asker → Type 0
  HasAsked riding carrying old new c word kind asker =
      new ≡ record old {
        cores = slice_set old.cores c (record (core_at old.cores c) { asker = asker });
        memory = want riding carrying old.memory c (word / BLOCK_WORDS) kind;
      }

  -- the state with nobody asking at core c's port any more where that doesn't wait
  abbrev pub asked_by : State R K → (c : ℕ) → (waiting : Bool) → State R K
  asked_by s c waiting =
      let t = core_at s.cores c in
      record s { cores = slice_set s.cores c (record t { asker = if waiting then t.asker else Nobody }) }

  -- a port that doesn't wait has room for a request
  abbrev pub MayAsk : Carrying K → State R K → (c : ℕ) → Type 0
  MayAsk carrying s c =
      let p = port_at carrying s.memory.ports c in
      waits p.cache ≡ false → length p.requests.items < p.requests.room
