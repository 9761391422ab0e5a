-- One block as the cache and the home have it, with whole messages, and how seats show in it.
use Rattle.std.specs.Prelude.{ℕ, ◌==◌, Bool, true, false, Option, Some, None, List, [], ◌∷◌, ◌++◌, map}
use Rattle.access_times.specs.Riding.{Riding}
use Rattle.rtr_types.specs.CoreSets.{has}
use Rattle.rtr_types.specs.declared.access.Kind.{Kind}
use Rattle.msi_cache.specs.Lines.{line_after, answer, asks, line_asking}
use Rattle.msi_cache.specs.Table.{Signal, Ask, Reply}
use Rattle.msi_cache.specs.declared.line.Line.{Line}
use Rattle.msi_cache.specs.declared.line.State.{State}
use Rattle.msi_cache.specs.declared.line.State.TheVariants.{I, S}
use Rattle.msi_cache.specs.declared.messages.FromHome.{FromHome}
use Rattle.msi_cache.specs.declared.messages.FromHome.TheVariants.{FwdGetS, FwdGetM, Inv, PutAck, BlockData}
use Rattle.msi_cache.specs.declared.messages.Request.{Request}
use Rattle.msi_cache.specs.declared.messages.Request.TheVariants.{GetS, GetM, PutS, PutM}
use Rattle.msi_cache.specs.declared.messages.Response.{Response}
use Rattle.msi_cache.specs.declared.messages.Response.TheVariants.{InvAck, OwnerData}
use Rattle.msi_directory.specs.Entries.{answer_to_request, answer_to_response}
use Rattle.msi_directory.specs.declared.entry.Entry.{Entry}
use Rattle.msi_directory.specs.declared.entry.HomeAnswer.{HomeAnswer}
use Rattle.msi_protocol.specs.Block.{Wish, ToStore, ToEvict}
use Rattle.msi_protocol.specs.Controllers.{access_wish}
use Rattle.msi_protocol.specs.Phases.{picture}
use Rattle.msi_protocol.specs.Seats.{Seat, FullBlock}

-- what a copy carries
pub record Payload (R : Type 0) : Type 0 where
  pub words : List ℕ
  pub rider : R

module _ {R : Type 0} where
  -- the first with what the second's rider has
  abbrev pub payload_absorbed : Riding R → Payload R → Payload R → Payload R
  payload_absorbed riding x y = record { words = x.words; rider = riding.absorbed x.rider y.rider }

  -- ---- what a core has and is sent of the block

  abbrev pub ask_with : ℕ → Payload R → Ask → Request R
  ask_with b x Ask.GetS = GetS b
  ask_with b x Ask.GetM = GetM b
  ask_with b x Ask.PutS = PutS b x.rider
  ask_with b x Ask.PutM = PutM b x.words x.rider

  abbrev pub reply_with : ℕ → Payload R → Reply → Response R
  reply_with b x Reply.InvAck = InvAck b x.rider
  reply_with b x Reply.OwnerData = OwnerData b x.words x.rider

  abbrev pub signal_with : ℕ → Payload R → Signal → FromHome R
  signal_with b x Signal.FwdGetS = FwdGetS b
  signal_with b x Signal.FwdGetM = FwdGetM b
  signal_with b x Signal.Inv = Inv b
  signal_with b x Signal.PutAck = PutAck b
  signal_with b x Signal.BlockData = BlockData b x.words x.rider

-- what is seen of a core's line for the block and of the messages under way from and to it
pub record Sight (R : Type 0) : Type 0 where
  pub line : Line R
  pub requests : List (Request R)
  pub responses : List (Response R)
  pub messages : List (FromHome R)

module _ {R : Type 0} where
  abbrev pub line_with : ℕ → Seat (Payload R) → Line R
  line_with b s = record { state = (picture s.phase).line; block = b; words = s.line.words; rider = s.line.rider }

  -- the seat as it shows
  abbrev pub shown : ℕ → Seat (Payload R) → Sight R
  shown b s =
      record {
        line = line_with b s;
        requests = map (ask_with b s.put) (picture s.phase).requests;
        responses = map (reply_with b s.reply) (picture s.phase).responses;
        messages = map (signal_with b s.sent) (picture s.phase).messages;
      }

  abbrev pub entry_with : FullBlock (Payload R) → Entry R
  entry_with b = record { stage = b.stage; words = b.home.words; rider = b.home.rider }

  -- ---- the moves

  abbrev pub answers : Option (Response R) → List (Response R)
  answers None = []
  answers (Some r) = r ∷ []

  -- the core took its oldest message, which leaves it these
  abbrev pub sight_received : Riding R → FromHome R → List (FromHome R) → Sight R → Sight R
  sight_received riding m rest v =
      record {
        line = line_after riding v.line m;
        requests = v.requests;
        responses = v.responses ++ answers (answer v.line m);
        messages = rest;
      }

  -- the core asked for what an access to the block needs
  abbrev pub sight_asking : ℕ → Kind → Sight R → Sight R
  sight_asking block kind v =
      record v {
        line = line_asking v.line block kind;
        requests = v.requests ++ asks v.line block kind ∷ [];
      }

  abbrev pub sight_told : FromHome R → Sight R → Sight R
  sight_told m v = record v { messages = v.messages ++ m ∷ [] }

  abbrev pub sight_told_if : Bool → FromHome R → Sight R → Sight R
  sight_told_if true m v = sight_told m v
  sight_told_if false m v = v

  abbrev pub sight_sent : Option (ℕ × FromHome R) → ℕ → Sight R → Sight R
  sight_sent None d v = v
  sight_sent (Some (to, m)) d v = sight_told_if (d == to) m v

  -- what core d sees after the home's answer
  abbrev pub sight_answered : HomeAnswer R → ℕ → ℕ → Sight R → Sight R
  sight_answered a b d v = sight_sent a.send d (sight_told_if (has a.invalidate d) (Inv b) v)

  abbrev pub sight_requested : Bool → List (Request R) → Sight R → Sight R
  sight_requested true rest v = record v { requests = rest }
  sight_requested false rest v = v

  abbrev pub sight_responded : Bool → List (Response R) → Sight R → Sight R
  sight_responded true rest v = record v { responses = rest }
  sight_responded false rest v = v

  -- what core d sees after the home took a request from core c, which leaves c these
  abbrev pub after_request_at : Riding R → Entry R → ℕ → ℕ → Request R → List (Request R) → ℕ → Sight R → Sight R
  after_request_at riding e b c request rest d v =
      sight_answered (answer_to_request riding.absorbed e c request) b d (sight_requested (d == c) rest v)

  -- what core d sees after the home took a response from core c, which leaves c these
  abbrev pub after_response_at : Riding R → Entry R → ℕ → ℕ → Response R → List (Response R) → ℕ → Sight R → Sight R
  after_response_at riding e b c response rest d v =
      sight_answered (answer_to_response riding.absorbed e c response) b d (sight_responded (d == c) rest v)

-- what a core wishes of the block that its line has, where it needs to read or to write this or another block
abbrev pub wish_in : State → Bool → Bool → Wish
wish_in I same writes = access_wish writes
wish_in S true true = ToStore
wish_in _ same writes = ToEvict

-- the line after an access: with this rider, and these words
module _ {R : Type 0} where
  abbrev pub sight_accessed : List ℕ → R → Sight R → Sight R
  sight_accessed words rider v = record v { line = record v.line { words = words; rider = rider } }
