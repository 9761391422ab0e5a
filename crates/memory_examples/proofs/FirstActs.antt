-- The first acts of a memory system of two cores over one block, as its tests make them: core 0 asks to write the
-- block, the home serves it, and the core takes the block's data.
use Rattle.std.proofs.Common.{◌≡◌, refl, ℕ, zero, suc, ◌<◌, true, IsTrue, List, length, arith}
use Rattle.access_times.specs.Riding.{Riding, Carrying}
use Rattle.image_mem.specs.Contents.{Contents}
use Rattle.rtr_types.specs.declared.access.Kind.TheVariants.{Store}
use Rattle.rtr_types.specs.declared.instr.Instr.{Instr}
use Rattle.msi_cache.specs.Lines.{waits}
use Rattle.msi_memory.specs.Acts.{TakeMessage, TakeRequest, allows, retire, take_message, take_request, touch, want}
use Rattle.msi_memory.specs.Finals.{at_hand}
use Rattle.msi_memory.specs.Memories.{Memory, memory_start, port_at}
use Rattle.msi_memory.specs.Rests.{HasRoomFor, HeadsFit, NamesFit, has_row_for}
use Rattle.msi_memory.specs.Turns.{HomeCanAct}

abbrev one_block : List ℕ → Contents
one_block bytes = record { bytes = bytes; words = 4 }

module _ {R K : Type 0} (riding : Riding R) (carrying : Carrying K) (bytes : List ℕ) where
  abbrev pub asked : Contents → Memory R K
  asked image = want riding carrying (memory_start riding carrying image 2) 0 0 Store

  abbrev pub served : Memory R K
  served = take_request riding carrying (asked (one_block bytes)) 0

  abbrev pub taken : Memory R K
  taken = take_message riding carrying served 0

  pub heads_asked : HeadsFit (asked (one_block bytes))
  heads_asked zero d within = refl
  heads_asked (suc zero) d within = refl
  heads_asked (suc (suc k)) d within = absurd (omega (arith, within))

  names_asked : NamesFit (asked (one_block bytes))
  names_asked zero d within = refl
  names_asked (suc k) d within = absurd (omega (arith, within))

  room_asked : HasRoomFor riding carrying (asked (one_block bytes)) (TakeRequest 0)
  room_asked zero within heard = omega arith
  room_asked (suc zero) within heard = omega arith
  room_asked (suc (suc k)) within heard = absurd (omega (arith, within))

  pub can_asked : HomeCanAct riding carrying (asked (one_block bytes)) (TakeRequest 0)
  can_asked =
      record { few = omega arith; here = omega arith; names = names_asked; row = refl; room = room_asked }

  pub here_served : 0 < length served.ports
  here_served = omega arith

  pub row_served : IsTrue (has_row_for riding carrying served (TakeMessage 0))
  row_served = refl

  pub room_served : HasRoomFor riding carrying served (TakeMessage 0)
  room_served = omega arith

  pub waits_served : true ≡ waits (port_at carrying served.ports 0).cache
  waits_served = refl

  pub here_taken : 0 < length taken.ports
  here_taken = omega arith

  pub here_retired : (at : Instr) → 0 < length (retire carrying taken 0 at).ports
  here_retired at = omega arith

  pub allowed_retired : (at : Instr) → IsTrue (allows riding (port_at carrying (retire carrying taken 0 at).ports 0) 0
      Store)
  allowed_retired at = refl

  abbrev pub written : Instr → R → Memory R K
  written at rider = touch riding carrying (retire carrying taken 0 at) 0 0 1 Store 9 rider

  pub within_written : (at : Instr) (rider : R) → 0 < length (written at rider).home
  within_written at rider = omega arith

  pub at_hand_written : (at : Instr) (rider : R) → IsTrue (at_hand riding carrying (written at rider) 0)
  at_hand_written at rider = refl
