-- The home's acts: what they rest on, what they leave, and what is told of them: the block that one was about, and its
-- answer.
use Rattle.std.specs.Prelude.{◌≡◌, ℕ, ◌<◌, ◌≤◌, IsTrue, List, [], ◌∷◌, length}
use Rattle.access_times.specs.Riding.{Riding, Carrying}
use Rattle.rtr_types.specs.declared.TheConstants.{CORES_MAX}
use Rattle.msi_cache.specs.declared.messages.Request.{Request}
use Rattle.msi_cache.specs.declared.messages.Response.{Response}
use Rattle.msi_cache.specs.Messages.{request_block, response_block}
use Rattle.msi_directory.specs.Blocks.{Blocks, entry_at}
use Rattle.msi_directory.specs.Deeds.{Deed, IsServed}
use Rattle.msi_directory.specs.Entries.{answer_to_request, answer_to_response}
use Rattle.msi_directory.specs.PlainPart.{plain_home_answer}
use Rattle.msi_directory.specs.Table.{is_free}
use Rattle.msi_directory.specs.declared.entry.HomeAnswer.{HomeAnswer}
use Rattle.msi_memory.specs.declared.port.Mail.{Mail}
use Rattle.msi_memory.specs.declared.turn.Turn.{Turn}
use Rattle.msi_memory.specs.Acts.{Act, TakeRequest, TakeResponse, after_act, port_of}
use Rattle.msi_memory.specs.Memories.{Memory, System, port_at}
use Rattle.msi_memory.specs.Rests.{HasRoomFor, NamesFit, has_row_for}

-- the home's turn was about this block, and its answer is this one without the riders
pub record IsTurn {R : Type 0} (about : ℕ) (told : HomeAnswer R) (turn : Turn) : Type 0 where
  pub block : turn.block ≡ about
  pub answer : turn.answer ≡ plain_home_answer told

-- the home did this, joined the carry that the message's sender had, and tells of it by its turn
pub record IsDone {R K : Type 0} (fresh : R) (carrying : Carrying K) (done : Deed R) (sender : K) (old new : Blocks R)
    (before after : K) (hand : R) (turn : Turn) : Type 0 where
  pub served : IsServed fresh done old new hand (record { answer = turn.answer; free = turn.free })
  pub block : turn.block ≡ done.block
  pub joined : after ≡ carrying.joined before sender

module _ {R K : Type 0} where
  -- the home's turn with the oldest of these requests, and of these responses, of core c
  abbrev pub IsRequestTurn : List (Mail (Request R) K) → Riding R → Memory R K → ℕ → Turn → Type 0
  IsRequestTurn [] riding m c turn = Unit {0}
  IsRequestTurn (mail ∷ rest) riding m c turn =
      IsTurn (request_block mail.item)
      (answer_to_request riding.absorbed (entry_at riding.fresh m.home (request_block mail.item)) c mail.item) turn

  abbrev pub IsResponseTurn : List (Mail (Response R) K) → Riding R → Memory R K → ℕ → Turn → Type 0
  IsResponseTurn [] riding m c turn = Unit {0}
  IsResponseTurn (mail ∷ rest) riding m c turn =
      IsTurn (response_block mail.item)
      (answer_to_response riding.absorbed (entry_at riding.fresh m.home (response_block mail.item)) c mail.item) turn

  -- and with the message that the act takes
  abbrev pub IsTurnOf : Act R → Riding R → Carrying K → Memory R K → Turn → Type 0
  IsTurnOf (TakeRequest c) riding carrying m turn =
      IsRequestTurn (port_at carrying m.ports c).requests.items riding m c turn
  IsTurnOf (TakeResponse c) riding carrying m turn =
      IsResponseTurn (port_at carrying m.ports c).responses.items riding m c turn
  IsTurnOf _ riding carrying m turn = Unit {0}

-- what an act of the home's rests on: the core is one of its ports, which are few enough, each core that the home names
-- is there, the message has a row in the home's table, and what the home answers has room
pub record HomeCanAct {R K : Type 0} (riding : Riding R) (carrying : Carrying K) (m : Memory R K) (act : Act R) : Type 0
  where
    pub few : length m.ports ≤ CORES_MAX
    pub here : port_of act < length m.ports
    pub names : NamesFit m
    pub row : IsTrue (has_row_for riding carrying m act)
    pub room : HasRoomFor riding carrying m act

-- the home made the act, and tells of it by its turn
pub record HomeActed {R K : Type 0} (riding : Riding R) (carrying : Carrying K) (old new : System R K) (act : Act R)
    (told : Turn) : Type 0 where
  pub memory : new.memory ≡ after_act riding carrying old.memory act
  pub rooms : new.rooms ≡ old.rooms
  pub turn : IsTurnOf act riding carrying old.memory told
  pub free : told.free ≡ is_free (entry_at riding.fresh new.memory.home told.block).stage
