-- Each call's requirement follows by computing: the memory after the acts so far is known from what each call before it
-- ensures.
use Rattle.std.proofs.Common.{◌≡◌, ◌∙◌, ◌<◌, ap, subst, sym, true, IsTrue, length, List, ℕ}
use Rattle.access_times.specs.Riding.{Riding, Carrying}
use Rattle.access_times.specs.declared.carry.NoCarry.{NoCarry}
use Rattle.access_times.specs.declared.rider.NoRider.{NoRider}
use Rattle.image_mem.specs.Contents.{Contents}
use Rattle.msi_cache.specs.Lines.{waits}
use Rattle.rtr_types.specs.declared.access.Kind.TheVariants.{Store}
use Rattle.rtr_types.specs.declared.instr.Instr.{Instr}
use Rattle.msi_memory.specs.Acts.{TakeMessage, TakeRequest, allows, retire, take_message, take_request, touch, want}
use Rattle.msi_memory.specs.Memories.{Memory, memory_start, port_at, rider_at}
use Rattle.msi_memory.specs.Rests.{HasRoomFor, HeadsFit, has_row_for}
use Rattle.msi_memory.specs.Turns.{HomeCanAct}
use Rattle.memory_examples.proofs.FirstActs.{allowed_retired, asked, heads_asked, here_retired, here_served, here_taken}
use Rattle.memory_examples.proofs.FirstActs.{served}
use Rattle.memory_examples.proofs.FirstActs.{can_asked}
use Rattle.msi_memory.specs.Finals.{at_hand}
use Rattle.memory_examples.proofs.FirstActs.{at_hand_written, within_written, room_served, row_served}
use Rattle.memory_examples.proofs.FirstActs.{waits_served}
use Rattle.memory_examples.proofs.memory_tests.a_core_writes_to_the_block_that_it_asked_for.Goals as goal

abbrev riding : Riding NoRider
riding = record { fresh = record {}; absorbed = λ a b. a }

abbrev carrying : Carrying NoCarry
carrying = record { none = record {}; joined = λ a b. a; retired = λ a b. a }

-- the memory system of the test
abbrev Tried : Type 0
Tried = Memory NoRider NoCarry

-- the instruction that the core retires
abbrev first : Instr
first = record { core = 0; count = 1 }

-- it after each act, from what the calls so far ensure
module _ {bytes : List ℕ} {image : Contents} {start wanted ready : Tried} where
  is_asked : ready ≡ wanted → wanted ≡ want riding carrying start 0 0 Store →
      start ≡ memory_start riding carrying image 2 → image ≡ record { bytes = bytes; words = 4 } →
      ready ≡ asked riding carrying bytes (record { bytes = bytes; words = 4 })
  is_asked room ask begins flat =
      room
      ∙ ask
      ∙ ap (λ (m : Tried). want riding carrying m 0 0 Store) begins
      ∙ ap (λ (i : Contents). asked riding carrying bytes i) flat

  is_served : {heard : Tried} → heard ≡ take_request riding carrying ready 0 →
      ready ≡ wanted → wanted ≡ want riding carrying start 0 0 Store →
      start ≡ memory_start riding carrying image 2 → image ≡ record { bytes = bytes; words = 4 } →
      heard ≡ served riding carrying bytes
  is_served hears room ask begins flat =
      hears ∙ ap (λ (m : Tried). take_request riding carrying m 0) (is_asked room ask begins flat)

  by_asked : (P : Tried → Type 0) → P (asked riding carrying bytes (record { bytes = bytes; words = 4 })) →
      ready ≡ wanted → wanted ≡ want riding carrying start 0 0 Store →
      start ≡ memory_start riding carrying image 2 → image ≡ record { bytes = bytes; words = 4 } → P ready
  by_asked P holds room ask begins flat = subst P (sym (is_asked room ask begins flat)) holds

  by_served : {heard : Tried} (P : Tried → Type 0) → P (served riding carrying bytes) →
      heard ≡ take_request riding carrying ready 0 →
      ready ≡ wanted → wanted ≡ want riding carrying start 0 0 Store →
      start ≡ memory_start riding carrying image 2 → image ≡ record { bytes = bytes; words = 4 } → P heard
  by_served P holds hears room ask begins flat = subst P (sym (is_served hears room ask begins flat)) holds

is_taken : {m heard held : Tried} → held ≡ take_message riding carrying heard 0 → heard ≡ m →
    held ≡ take_message riding carrying m 0
is_taken holds hears = holds ∙ ap (λ (m : Tried). take_message riding carrying m 0) hears

is_retired : {m held noted : Tried} → noted ≡ retire carrying held 0 first → held ≡ m →
    noted ≡ retire carrying m 0 first
is_retired notes holds = notes ∙ ap (λ (m : Tried). retire carrying m 0 first) holds

by_written : {rider : NoRider} {m noted ended : Tried} (P : Tried → Type 0) →
    P (touch riding carrying m 0 0 1 Store 9 rider) → ended ≡ touch riding carrying noted 0 0 1 Store 9 rider →
    noted ≡ m → P ended
by_written {rider} P holds ends notes =
    subst P (sym (ends ∙ ap (λ (m : Tried). touch riding carrying m 0 0 1 Store 9 rider) notes)) holds

pub has_room-requires : goal.has_room-requires
has_room-requires g c =
    by_asked (λ (m : Tried). HeadsFit m) (heads_asked riding carrying c.in_ok-to_vec.field-0.items)
    c.make_room.ensures.memory c.want.ensures.memory c.in_ok-system.ensures.memory c.in_ok-image.ensures.image

pub take_request-requires-clause-can : goal.take_request-requires-clause-can
take_request-requires-clause-can g c =
    by_asked (λ (m : Tried). HomeCanAct riding carrying m (TakeRequest 0))
    (can_asked riding carrying c.in_ok-to_vec.field-0.items)
    c.make_room.ensures.memory c.want.ensures.memory c.in_ok-system.ensures.memory c.in_ok-image.ensures.image

pub take_message-requires-clause-here : goal.take_message-requires-clause-here
take_message-requires-clause-here g c =
    by_served (λ (m : Tried). 0 < length m.ports) (here_served riding carrying c.in_ok-to_vec.field-0.items)
    c.take_request.ensures.memory c.make_room.ensures.memory c.want.ensures.memory c.in_ok-system.ensures.memory
    c.in_ok-image.ensures.image

pub take_message-requires-clause-row : goal.take_message-requires-clause-row
take_message-requires-clause-row g c =
    by_served (λ (m : Tried). IsTrue (has_row_for riding carrying m (TakeMessage 0)))
    (row_served riding carrying c.in_ok-to_vec.field-0.items)
    c.take_request.ensures.memory c.make_room.ensures.memory c.want.ensures.memory c.in_ok-system.ensures.memory
    c.in_ok-image.ensures.image

pub take_message-requires-clause-room : goal.take_message-requires-clause-room
take_message-requires-clause-room g c =
    by_served (λ (m : Tried). HasRoomFor riding carrying m (TakeMessage 0))
    (room_served riding carrying c.in_ok-to_vec.field-0.items)
    c.take_request.ensures.memory c.make_room.ensures.memory c.want.ensures.memory c.in_ok-system.ensures.memory
    c.in_ok-image.ensures.image

pub take_message-requires-clause-waits : goal.take_message-requires-clause-waits
take_message-requires-clause-waits g c =
    by_served (λ (m : Tried). true ≡ waits (port_at carrying m.ports 0).cache)
    (waits_served riding carrying c.in_ok-to_vec.field-0.items)
    c.take_request.ensures.memory c.make_room.ensures.memory c.want.ensures.memory c.in_ok-system.ensures.memory
    c.in_ok-image.ensures.image

pub allows-requires : goal.allows-requires
allows-requires g c =
    subst (λ (m : Tried). 0 < length m.ports)
    (sym (is_taken c.take_message.ensures.memory
    (is_served c.take_request.ensures.memory c.make_room.ensures.memory c.want.ensures.memory
    c.in_ok-system.ensures.memory c.in_ok-image.ensures.image)))
    (here_taken riding carrying c.in_ok-to_vec.field-0.items)

pub touch-requires-clause-here : goal.touch-requires-clause-here
touch-requires-clause-here g c =
    subst (λ (m : Tried). 0 < length m.ports)
    (sym (is_retired c.retire.ensures.memory (is_taken c.take_message.ensures.memory (is_served
    c.take_request.ensures.memory c.make_room.ensures.memory c.want.ensures.memory c.in_ok-system.ensures.memory
    c.in_ok-image.ensures.image)))) (here_retired riding carrying c.in_ok-to_vec.field-0.items first)

pub touch-requires-clause-allowed : goal.touch-requires-clause-allowed
touch-requires-clause-allowed g c =
    subst (λ (m : Tried). IsTrue (allows riding (port_at carrying m.ports 0) 0 Store))
    (sym (is_retired c.retire.ensures.memory (is_taken c.take_message.ensures.memory (is_served
    c.take_request.ensures.memory c.make_room.ensures.memory c.want.ensures.memory c.in_ok-system.ensures.memory
    c.in_ok-image.ensures.image)))) (allowed_retired riding carrying c.in_ok-to_vec.field-0.items first)

pub final_words-requires-clause-within : goal.final_words-requires-clause-within
final_words-requires-clause-within g c =
    by_written (λ (m : Tried). 0 < length m.home) (within_written riding carrying c.in_ok-to_vec.field-0.items first
    (rider_at riding (port_at carrying c.touch.new.self.memory.ports 0) 1)) c.touch.ensures.memory
    (is_retired c.retire.ensures.memory (is_taken c.take_message.ensures.memory
    (is_served c.take_request.ensures.memory c.make_room.ensures.memory c.want.ensures.memory
    c.in_ok-system.ensures.memory c.in_ok-image.ensures.image)))

pub final_words-requires-clause-at_hand : goal.final_words-requires-clause-at_hand
final_words-requires-clause-at_hand g c =
    by_written (λ (m : Tried). IsTrue (at_hand riding carrying m 0))
    (at_hand_written riding carrying c.in_ok-to_vec.field-0.items first
    (rider_at riding (port_at carrying c.touch.new.self.memory.ports 0) 1)) c.touch.ensures.memory
    (is_retired c.retire.ensures.memory (is_taken c.take_message.ensures.memory
    (is_served c.take_request.ensures.memory c.make_room.ensures.memory c.want.ensures.memory
    c.in_ok-system.ensures.memory c.in_ok-image.ensures.image)))
