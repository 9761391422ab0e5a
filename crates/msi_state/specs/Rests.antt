-- What the moves of a state rest on: each message has a row in its table, data let the access be made that waited for
-- them, and each link that a move pushes to has room.
use Rattle.std.specs.Prelude.{ℕ, ◌/◌, Bool, true, false, not, ◌&&◌, ◌||◌, Option, Some, None, length, ◌<◌}
use Rattle.access_times.specs.Riding.{Riding, Carrying}
use Rattle.rtr_types.specs.declared.TheConstants.{BLOCK_WORDS}
use Rattle.rtr_types.specs.declared.access.Kind.{Kind}
use Rattle.rv_core.specs.Steps.{need, access_of as need_access}
use Rattle.msi_memory.specs.declared.port.Port.{Port}
use Rattle.msi_memory.specs.Acts.{TakeRequest, TakeResponse, TakeMessage, allows, data_next}
use Rattle.msi_memory.specs.Memories.{port_at}
use Rattle.msi_memory.specs.Rests.{has_row_for as has_act_row, HasRoomFor as HasActRoom, are_heads_roomy}
use Rattle.msi_state.specs.declared.moves.Move.{Move}
use Rattle.msi_state.specs.declared.moves.Move.TheVariants.{Core as CoreMove, Request as RequestMove}
use Rattle.msi_state.specs.declared.moves.Move.TheVariants.{Response as ResponseMove, FromHome as MessageMove}
use Rattle.msi_state.specs.Events.{port_taken}
use Rattle.msi_state.specs.States.{State, Machinery, core_at}

module _ {R K : Type 0} where
  -- the access is one that the port allows
  abbrev pub may_access : Option (Kind × ℕ) → Riding R → Port R K → Bool
  may_access None riding p = false
  may_access (Some (kind, word)) riding p = allows riding p (word / BLOCK_WORDS) kind

  -- the tables have a row for what the move brings
  abbrev pub has_row_for : Riding R → Carrying K → State R K → Move → Bool
  has_row_for riding carrying s (CoreMove c) = true
  has_row_for riding carrying s (RequestMove c) = has_act_row riding carrying s.memory (TakeRequest c)
  has_row_for riding carrying s (ResponseMove c) = has_act_row riding carrying s.memory (TakeResponse c)
  has_row_for riding carrying s (MessageMove c) =
      let p = port_at carrying s.memory.ports c in
      has_act_row riding carrying s.memory (TakeMessage c)
      && (not (data_next p.messages.items)
      || may_access (need_access (need s.image (core_at s.cores c))) riding (port_taken riding carrying p))

  -- no link that the move pushes to is full
  abbrev pub HasRoomFor : Riding R → Carrying K → State R K → Move → Type 0
  HasRoomFor riding carrying s (CoreMove c) =
      let p = port_at carrying s.memory.ports c in length p.requests.items < p.requests.room
  HasRoomFor riding carrying s (RequestMove c) = HasActRoom riding carrying s.memory (TakeRequest c)
  HasRoomFor riding carrying s (ResponseMove c) = HasActRoom riding carrying s.memory (TakeResponse c)
  HasRoomFor riding carrying s (MessageMove c) = HasActRoom riding carrying s.memory (TakeMessage c)

  -- no move of the state takes memory: the home has room for the block of each port's oldest request
  abbrev pub heads_roomy : Machinery R K → Bool
  heads_roomy m = are_heads_roomy m.state.memory.ports m.rooms
