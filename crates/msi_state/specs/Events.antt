-- What a core does at its port when it moves, and what the clerk is told of it, for every type of riders and carries.
use Rattle.std.specs.Prelude.{◌≡◌, ℕ, ◌+◌, ◌/◌, Bool, true, false, Option, Some, None, if◌then◌else◌}
use Rattle.access_times.specs.Riding.{Riding, Carrying}
use Rattle.rtr_types.specs.declared.TheConstants.{BLOCK_WORDS}
use Rattle.image_mem.specs.Contents.{Contents}
use Rattle.rtr_types.specs.declared.instr.Instr.{Instr}
use Rattle.rtr_types.specs.declared.access.Access.{Access}
use Rattle.rtr_types.specs.declared.access.Kind.{Kind}
use Rattle.rv_core.specs.declared.core_state.Core.{Core}
use Rattle.rv_core.specs.Steps.{need, wrote, is_done, access_of as need_access}
use Rattle.msi_memory.specs.declared.port.Port.{Port}
use Rattle.msi_memory.specs.Acts.{allows, data_next, port_taking}
use Rattle.msi_memory.specs.Memories.{rider_at, word_at}

-- the instruction that retires next
abbrev pub next_instr : Core → Instr
next_instr core = record { core = core.id; count = core.count + 1 }

-- what a move tells the clerk: nothing, an instruction that touches no data, or an instruction's access
pub data Event : Type 0 where
  Nothing : Event
  Retires : (at : Instr) → Event
  Accesses : (a : Access) → Event

-- the instruction that retired
abbrev pub instr_of : Event → Option Instr
instr_of Nothing = None
instr_of (Retires at) = Some at
instr_of (Accesses a) = Some a.at

module _ {R K : Type 0} where
  -- the access that a core makes at its port as it retires its next instruction
  abbrev pub access_of : Contents → Riding R → Core → Port R K → (word : ℕ) → Kind → Access
  access_of image riding core p word kind =
      let old = word_at riding p word in
      record { at = next_instr core; word = word; kind = kind; before = old; after = wrote image core old }

  -- a core tries an access: it is made where its port allows it
  abbrev pub event_trying : Contents → Riding R → Core → Port R K → (word : ℕ) → Kind → Event
  event_trying image riding core p word kind =
      if allows riding p (word / BLOCK_WORDS) kind then Accesses (access_of image riding core p word kind) else Nothing

  -- a core moves, by the access that it needs and whether its program is done: an access is tried, and an
  -- instruction without one retires
  abbrev pub event_working_in : Option (Kind × ℕ) → (done : Bool) → Contents → Riding R → Core → Port R K → Event
  event_working_in (Some (kind, word)) done image riding core p = event_trying image riding core p word kind
  event_working_in None true image riding core p = Nothing
  event_working_in None false image riding core p = Retires (next_instr core)

  abbrev pub event_working : Contents → Riding R → Core → Port R K → Event
  event_working image riding core p =
      let needed = need image core in
      event_working_in (need_access needed) (is_done needed) image riding core p

  -- the port once it has taken its oldest message
  abbrev pub port_taken : Riding R → Carrying K → Port R K → Port R K
  port_taken riding carrying p = port_taking riding carrying p p.messages.items

  -- a core's port takes a message: after a block's data the core retires the instruction that waited for them
  abbrev pub event_receiving : Contents → Riding R → Carrying K → Core → Port R K → Event
  event_receiving image riding carrying core p =
      if data_next p.messages.items then event_working image riding core (port_taken riding carrying p) else Nothing

  -- the rider on the copy that an event's access touches
  abbrev pub rider_of_event : Riding R → Event → Port R K → R
  rider_of_event riding (Accesses a) p = rider_at riding p a.word
  rider_of_event riding _ p = riding.fresh

  -- what the clerk's calls do to it, once it was told of the event: with this carry, and with these
  -- riders before and after
  abbrev pub Tells : {C : Type 0} → (C → Instr → K → C → Type 0) → (C → R → Access → K → C → R → Type 0) → Event → K
      → C → R → C → R → Type 0
  Tells told_local told_touch Nothing carry old before new after = new ≡ old
  Tells told_local told_touch (Retires at) carry old before new after = told_local old at carry new
  Tells told_local told_touch (Accesses a) carry old before new after = told_touch old before a carry new after
