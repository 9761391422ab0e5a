-- The protocol seen one block at a time: the block's stage at home, and for each core the state of its
-- line and the kinds of the messages about the block that are under way from and to it. Neither words
-- nor riders are in it. What a message does is a row of the cache controller's table or of the home's.
use Rattle.std.specs.Prelude.{ℕ, ◌==◌, nat_lt, Bool, true, false, Option, Some, None, is_some, List, [], ◌∷◌, ◌++◌}
use Rattle.std.specs.Prelude.{if◌then◌else◌}
use Rattle.rtr_types.specs.declared.TheConstants.{CORES_MAX}
use Rattle.rtr_types.specs.declared.core_set.CoreSet.{CoreSet}
use Rattle.rtr_types.specs.CoreSets.{has, no_cores}
use Rattle.msi_cache.specs.declared.line.State.{State}
use Rattle.msi_cache.specs.declared.line.State.TheVariants.{I}
use Rattle.msi_cache.specs.Table.{Signal, Ask, Reply, Row, row, WantRow, want_row}
use Rattle.msi_directory.specs.declared.entry.Stage.{Stage}
use Rattle.msi_directory.specs.declared.entry.Stage.TheVariants.{Unshared}
use Rattle.msi_directory.specs.Table.{Send, HomeRow, request_row, response_row, is_free}

-- a core's line for the block, which is I where another block has the line; the requests and responses
-- that the core has sent and the home has not taken; and the messages from home that the core has not
-- taken. Each list begins with the oldest
pub record View : Type 0 where
  pub line : State
  pub requests : List Ask
  pub responses : List Reply
  pub messages : List Signal

abbrev pub view : State → List Ask → List Reply → List Signal → View
view s q r m = record { line = s; requests = q; responses = r; messages = m }

-- the block's stage at home, and each core's view, by the core's number
pub record Block : Type 0 where
  pub stage : Stage
  pub views : ℕ → View

-- ---- what the home does

-- what the cores see of a row of the home's table: the stage that it leaves, the cores to which Inv
-- goes, and the one other message, with the core to which it goes
pub record HomeStep : Type 0 where
  pub stage : Stage
  pub invalidate : CoreSet
  pub send : Option (ℕ × Signal)

abbrev pub signalled : Send → Option (ℕ × Signal)
signalled Send.NoMessage = None
signalled (Send.FwdGetS core) = Some (core, Signal.FwdGetS)
signalled (Send.FwdGetM core) = Some (core, Signal.FwdGetM)
signalled (Send.PutAck core) = Some (core, Signal.PutAck)
signalled (Send.BlockData core) = Some (core, Signal.BlockData)

-- with no row nothing happens
abbrev pub home_step : Stage → Option HomeRow → HomeStep
home_step stage None = record { stage = stage; invalidate = no_cores; send = None }
home_step stage (Some r) = record { stage = r.next; invalidate = r.invalidate; send = signalled r.send }

abbrev pub request_step : Stage → ℕ → Ask → HomeStep
request_step stage c a = home_step stage (request_row stage c a)

abbrev pub response_step : Stage → ℕ → Reply → HomeStep
response_step stage c a = home_step stage (response_row stage c a)

-- the home's table has a row for a request of this kind from core c
abbrev pub has_ask_row : Stage → ℕ → Ask → Bool
has_ask_row stage c a = is_some (request_row stage c a)

-- the home's table has a row for a response of this kind from core c
abbrev pub has_reply_row : Stage → ℕ → Reply → Bool
has_reply_row stage c a = is_some (response_row stage c a)

-- one more message is under way to the core
abbrev pub told : View → Signal → View
told v m = record v { messages = v.messages ++ m ∷ [] }

abbrev pub told_if : Bool → View → Signal → View
told_if true v m = told v m
told_if false v m = v

abbrev pub sent_to : Option (ℕ × Signal) → ℕ → View → View
sent_to None d v = v
sent_to (Some (to, m)) d v = told_if (d == to) v m

-- core d's view after the home has answered
abbrev pub after_step : HomeStep → ℕ → View → View
after_step r d v = sent_to r.send d (told_if (has r.invalidate d) v Signal.Inv)

abbrev pub request_taken : Bool → List Ask → View → View
request_taken true rest v = record v { requests = rest }
request_taken false rest v = v

-- core d's view after the home took a request from core c, which leaves c these requests
abbrev pub after_request : Stage → ℕ → Ask → List Ask → ℕ → View → View
after_request stage c a rest d v = after_step (request_step stage c a) d (request_taken (d == c) rest v)

abbrev pub response_taken : Bool → List Reply → View → View
response_taken true rest v = record v { responses = rest }
response_taken false rest v = v

-- core d's view after the home took a response from core c, which leaves c these responses
abbrev pub after_response : Stage → ℕ → Reply → List Reply → ℕ → View → View
after_response stage c a rest d v = after_step (response_step stage c a) d (response_taken (d == c) rest v)

-- ---- what a core does

abbrev pub replies : Option Reply → List Reply
replies None = []
replies (Some reply) = reply ∷ []

abbrev pub message_row_taken : Option Row → List Signal → View → View
message_row_taken None rest v = v
message_row_taken (Some r) rest v =
    record v { line = r.next; messages = rest; responses = v.responses ++ replies r.answer }

-- the view after the core took a message from home, which leaves it these messages
abbrev pub after_message : Signal → List Signal → View → View
after_message m rest v = message_row_taken (row m v.line) rest v

-- what a core wants of its line for the block: to read it, to write it, or its place for another block
pub data Wish : Type 0 where
  ToLoad : Wish
  ToStore : Wish
  ToEvict : Wish

-- what the core asks of the home for that. A line that holds nothing gives up its place with no request
abbrev pub wish_row : State → Wish → Option WantRow
wish_row line ToLoad = want_row line true false
wish_row line ToStore = want_row line true true
wish_row I ToEvict = None
wish_row line ToEvict = want_row line false false

abbrev pub asked_by : Option WantRow → View → View
asked_by None v = v
asked_by (Some r) v = record v { line = r.next; requests = v.requests ++ r.ask ∷ [] }

-- the view after the core asked for what it wants, if there is something to ask
abbrev pub after_wish : Wish → View → View
after_wish w v = asked_by (wish_row v.line w) v

-- ---- the moves

-- the home takes the oldest request or response of core c, core c takes its oldest message, or core c
-- asks for what it wants
pub data BlockMove : Type 0 where
  TakesRequest : (c : ℕ) → BlockMove
  TakesResponse : (c : ℕ) → BlockMove
  TakesMessage : (c : ℕ) → BlockMove
  Wishes : (c : ℕ) → (w : Wish) → BlockMove

-- a request waits while the block is busy
abbrev pub request_by : List Ask → ℕ → Block → Block
request_by [] c b = b
request_by (a ∷ rest) c b =
    if is_free b.stage
    then record { stage = (request_step b.stage c a).stage; views = λ d. after_request b.stage c a rest d (b.views d) }
    else b

abbrev pub response_by : List Reply → ℕ → Block → Block
response_by [] c b = b
response_by (a ∷ rest) c b =
    record { stage = (response_step b.stage c a).stage; views = λ d. after_response b.stage c a rest d (b.views d) }

abbrev pub view_if : Bool → View → View → View
view_if true v w = v
view_if false v w = w

abbrev pub message_by : List Signal → ℕ → Block → Block
message_by [] c b = b
message_by (m ∷ rest) c b = record b { views = λ d. view_if (d == c) (after_message m rest (b.views d)) (b.views d) }

abbrev pub wish_by : Wish → ℕ → Block → Block
wish_by w c b = record b { views = λ d. view_if (d == c) (after_wish w (b.views d)) (b.views d) }

abbrev pub core_of : BlockMove → ℕ
core_of (TakesRequest c) = c
core_of (TakesResponse c) = c
core_of (TakesMessage c) = c
core_of (Wishes c w) = c

abbrev pub moved : BlockMove → Block → Block
moved (TakesRequest c) b = request_by (b.views c).requests c b
moved (TakesResponse c) b = response_by (b.views c).responses c b
moved (TakesMessage c) b = message_by (b.views c).messages c b
moved (Wishes c w) b = wish_by w c b

-- a move of a core that there is; where there is nothing to take, it changes nothing
abbrev pub block_move : BlockMove → Block → Block
block_move m b = if nat_lt (core_of m) CORES_MAX then moved m b else b

-- the moves are made one after the other
abbrev pub block_run : List BlockMove → Block → Block
block_run [] b = b
block_run (m ∷ ms) b = block_run ms (block_move m b)

-- no cache holds the block, and nothing is under way
abbrev pub block_start : Block
block_start = record { stage = Unshared; views = λ d. view I [] [] [] }
