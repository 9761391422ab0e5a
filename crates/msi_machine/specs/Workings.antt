-- What a core does at its port as its next instruction retires.
use Rattle.std.specs.Prelude.{◌≡◌, ◌<◌, ℕ, Option, false, length}
use Rattle.access_times.specs.Riding.{Riding, Carrying}
use Rattle.rtr_types.specs.declared.access.Access.{Access}
use Rattle.rtr_types.specs.declared.access.Kind.{Kind}
use Rattle.rtr_types.specs.declared.instr.Instr.{Instr}
use Rattle.msi_cache.specs.Lines.{waits}
use Rattle.msi_memory.specs.Acts.{after_acts}
use Rattle.msi_memory.specs.Memories.{port_at}
use Rattle.msi_state.specs.declared.moves.Move.{Move}
use Rattle.msi_state.specs.Events.{Event, Retires, Accesses, Tells, access_of, instr_of, next_instr, rider_of_event}
use Rattle.msi_state.specs.States.{Machinery, State, core_at}
use Rattle.msi_state.specs.Steps.{StepsTo, TellsOf, acts_of, cores_after, event}

module _ {R K : Type 0} where
  -- core c is there, and so is its port
  pub record IsThere (s : State R K) (c : ℕ) : Type 0 where
    pub core : c < length s.cores
    pub port : c < length s.memory.ports

  -- core c can ask for a block: its port doesn't wait, and has room for a request
  pub record CanAsk (carrying : Carrying K) (s : State R K) (c : ℕ) : Type 0 where
    pub still : waits (port_at carrying s.memory.ports c).cache ≡ false
    pub room : let p = port_at carrying s.memory.ports c in length p.requests.items < p.requests.room

  -- the event of core c by which its next instruction retires: without data, and with this access
  abbrev pub retiring_local : State R K → (c : ℕ) → Event
  retiring_local s c = Retires (next_instr (core_at s.cores c))

  abbrev pub retiring_access : Riding R → Carrying K → State R K → (c word : ℕ) → Kind → Event
  retiring_access riding carrying s c word kind =
      Accesses (access_of s.image riding (core_at s.cores c) (port_at carrying s.memory.ports c) word kind)

  -- the rider on core c's copy that an event's access touches
  abbrev pub rider_in : Riding R → Carrying K → State R K → (c : ℕ) → Event → R
  rider_in riding carrying s c e = rider_of_event riding e (port_at carrying s.memory.ports c)

  -- the new state is the old one after this event of core c
  abbrev pub HasRetired : Riding R → Carrying K → (old new : State R K) → (c : ℕ) → Event → Type 0
  HasRetired riding carrying old new c e =
      new ≡ record old {
        cores = cores_after old.image c e old.cores;
        memory = after_acts riding carrying old.memory (acts_of c (rider_in riding carrying new c e) e);
      }

  -- the clerk was told of this event of core c, by which its next instruction retired
  abbrev pub IsTold : {C : Type 0} → (C → Instr → K → C → Type 0) → (C → R → Access → K → C → R → Type 0)
      → Riding R → Carrying K → (old new : State R K) → (c : ℕ) → Event → (before after : C) → Type 0
  IsTold told_local told_touch riding carrying old new c e before after =
      let carry = carrying.retired (port_at carrying old.memory.ports c).carry (next_instr (core_at old.cores c)) in
      Tells told_local told_touch e carry
      before (rider_in riding carrying old c e) after (rider_in riding carrying new c e)

  -- core c did this: the clerk was told of it, and no block of the home got room
  pub record Does {C : Type 0} (told_local : C → Instr → K → C → Type 0)
      (told_touch : C → R → Access → K → C → R → Type 0) (riding : Riding R) (carrying : Carrying K)
      (old new : Machinery R K) (c : ℕ) (e : Event) (before after : C) : Type 0 where
    pub state : HasRetired riding carrying old.state new.state c e
    pub rooms : new.rooms ≡ old.rooms
    pub told : IsTold told_local told_touch riding carrying old.state new.state c e before after

  -- the move made the new machine of the old: this instruction retired, if one did, the clerk was told of it, and no
  -- block of the home got room
  pub record Makes {C : Type 0} (told_local : C → Instr → K → C → Type 0)
      (told_touch : C → R → Access → K → C → R → Type 0) (riding : Riding R) (carrying : Carrying K)
      (old new : Machinery R K) (m : Move) (at : Option Instr) (before after : C) : Type 0 where
    pub state : StepsTo riding carrying old.state new.state m
    pub rooms : new.rooms ≡ old.rooms
    pub retired : at ≡ instr_of (event riding carrying old.state m)
    pub told : TellsOf told_local told_touch riding carrying old.state new.state m before after
