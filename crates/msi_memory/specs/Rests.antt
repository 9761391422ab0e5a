-- What the acts of the memory system rest on: each message has a row in its receiver's table, each link that an act
-- pushes to has room, and the home has room for the blocks that are asked for.
use Rattle.std.specs.Prelude.{◌≡◌, ◌≢◌, ℕ, Bool, true, false, ◌&&◌, Option, Some, None, List, [], ◌∷◌, length, map}
use Rattle.std.specs.Prelude.{slice_index_or, IsTrue, nat_lt, All, ◌<◌, ◌==◌}
use Rattle.std.specs.List.{list_all, list_any}
use Rattle.access_times.specs.Riding.{Riding, Carrying}
use Rattle.rtr_types.specs.CoreSets.{has, no_cores}
use Rattle.rtr_types.specs.declared.core_set.CoreSet.{CoreSet}
use Rattle.msi_cache.specs.declared.messages.FromHome.{FromHome}
use Rattle.msi_cache.specs.declared.messages.Response.{Response}
use Rattle.msi_cache.specs.declared.messages.Request.{Request}
use Rattle.msi_cache.specs.Lines.{has_row, line_for}
use Rattle.msi_cache.specs.Messages.{block_of, request_block, response_block}
use Rattle.msi_directory.specs.declared.entry.HomeAnswer.{HomeAnswer}
use Rattle.msi_directory.specs.declared.entry.Stage.{Stage}
use Rattle.msi_directory.specs.declared.entry.Stage.TheVariants.{Owned, Acks, Data}
use Rattle.msi_directory.specs.Entries.{has_request_row, has_response_row, answer_to_request, answer_to_response}
use Rattle.msi_directory.specs.Blocks.{entry_at, has_room}
use Rattle.msi_memory.specs.declared.port.Mail.{Mail}
use Rattle.msi_memory.specs.declared.port.Port.{Port}
use Rattle.msi_memory.specs.Acts.{Act, Want, TakeRequest, TakeResponse, TakeMessage}
use Rattle.msi_memory.specs.Memories.{Memory, port_at}

-- ---- rows

-- each core that the stage names singly is one of the first n
abbrev pub names_below : Stage → ℕ → Bool
names_below (Owned owner) n = nat_lt owner n
names_below (Acks «of» requester) n = nat_lt requester n
names_below (Data «of» requester share) n = nat_lt «of» n && nat_lt requester n
names_below _ n = true

module _ {R K : Type 0} where
  -- the home has a row for the oldest of these requests of core c
  abbrev pub can_request_in : List (Mail (Request R) K) → Riding R → Memory R K → ℕ → Bool
  can_request_in [] riding m c = false
  can_request_in (mail ∷ rest) riding m c =
      nat_lt (request_block mail.item) (length m.home)
      && has_request_row (entry_at riding.fresh m.home (request_block mail.item)).stage c mail.item

  -- the home has a row for the oldest of these responses of core c
  abbrev pub can_respond_in : List (Mail (Response R) K) → Riding R → Memory R K → ℕ → Bool
  can_respond_in [] riding m c = false
  can_respond_in (mail ∷ rest) riding m c =
      nat_lt (response_block mail.item) (length m.home)
      && has_response_row (entry_at riding.fresh m.home (response_block mail.item)).stage c mail.item

  -- the port's cache has a row for the oldest of these messages
  abbrev pub can_hear_in : List (Mail (FromHome R) K) → Riding R → Port R K → Bool
  can_hear_in [] riding p = false
  can_hear_in (mail ∷ rest) riding p = has_row (line_for riding.fresh p.cache (block_of mail.item)) mail.item

  -- the tables have a row for the message that the act takes
  abbrev pub has_row_for : Riding R → Carrying K → Memory R K → Act R → Bool
  has_row_for riding carrying m (TakeRequest c) =
      can_request_in (port_at carrying m.ports c).requests.items riding m c
  has_row_for riding carrying m (TakeResponse c) =
      can_respond_in (port_at carrying m.ports c).responses.items riding m c
  has_row_for riding carrying m (TakeMessage c) =
      can_hear_in (port_at carrying m.ports c).messages.items riding (port_at carrying m.ports c)
  has_row_for riding carrying m _ = true

  -- each core that the home names is there
  abbrev pub NamesFit : Memory R K → Type 0
  NamesFit m = All (λ e. IsTrue (names_below e.stage (length m.ports))) m.home

-- ---- room on links

module _ {R : Type 0} where
  -- the core is one that the answer goes to
  abbrev pub hears_in : Option (ℕ × FromHome R) → CoreSet → ℕ → Bool
  hears_in (Some (to, m)) set d = d == to
  hears_in None set d = has set d

  abbrev pub hears : HomeAnswer R → ℕ → Bool
  hears answer d = hears_in answer.send answer.invalidate d

  abbrev pub no_answer : HomeAnswer R
  no_answer = record { invalidate = no_cores; send = None }

module _ {R K : Type 0} where
  -- each core of the set has room for a message
  abbrev pub HasRoomIn : CoreSet → List (Port R K) → Type 0
  HasRoomIn set ports =
      (k : ℕ) (d : Port R K) → k < length ports → has set k ≡ true
      → length (slice_index_or ports k d).messages.items < (slice_index_or ports k d).messages.room

  -- each core that the answer goes to has room for a message
  abbrev pub HasRoomTo : Carrying K → HomeAnswer R → List (Port R K) → Type 0
  HasRoomTo carrying answer ports =
      (d : ℕ) → d < length ports → hears answer d ≡ true
      → length (port_at carrying ports d).messages.items < (port_at carrying ports d).messages.room

  -- what the home answers to the oldest of these requests, and of these responses, of core c
  abbrev pub request_answer_in : List (Mail (Request R) K) → Riding R → Memory R K → ℕ → HomeAnswer R
  request_answer_in [] riding m c = no_answer
  request_answer_in (mail ∷ rest) riding m c =
      answer_to_request riding.absorbed (entry_at riding.fresh m.home (request_block mail.item)) c mail.item

  abbrev pub response_answer_in : List (Mail (Response R) K) → Riding R → Memory R K → ℕ → HomeAnswer R
  response_answer_in [] riding m c = no_answer
  response_answer_in (mail ∷ rest) riding m c =
      answer_to_response riding.absorbed (entry_at riding.fresh m.home (response_block mail.item)) c mail.item

  -- no link that the act pushes to is full
  abbrev pub HasRoomFor : Riding R → Carrying K → Memory R K → Act R → Type 0
  HasRoomFor riding carrying m (Want c block kind) =
      length (port_at carrying m.ports c).requests.items < (port_at carrying m.ports c).requests.room
  HasRoomFor riding carrying m (TakeRequest c) =
      HasRoomTo carrying (request_answer_in (port_at carrying m.ports c).requests.items riding m c) m.ports
  HasRoomFor riding carrying m (TakeResponse c) =
      HasRoomTo carrying (response_answer_in (port_at carrying m.ports c).responses.items riding m c) m.ports
  HasRoomFor riding carrying m (TakeMessage c) =
      length (port_at carrying m.ports c).responses.items < (port_at carrying m.ports c).responses.room
  HasRoomFor riding carrying m _ = Unit {0}

-- ---- room at the home

module _ {R K : Type 0} where
  abbrev pub head_within : List (Mail (Request R) K) → ℕ → Bool
  head_within [] blocks = true
  head_within (mail ∷ rest) blocks = nat_lt (request_block mail.item) blocks

  -- the block of each port's oldest request is one of the home's
  abbrev pub HeadsFit : Memory R K → Type 0
  HeadsFit m = All (λ p. IsTrue (head_within p.requests.items (length m.home))) m.ports

  -- the home has room for the block of the oldest of these requests
  abbrev pub head_roomy : List (Mail (Request R) K) → List Bool → Bool
  head_roomy [] rooms = true
  head_roomy (mail ∷ rest) rooms = has_room rooms (request_block mail.item)

  -- the home has room for the block of each port's oldest request, so that no act takes memory
  abbrev pub are_heads_roomy : List (Port R K) → List Bool → Bool
  are_heads_roomy ports rooms = list_all (λ p. head_roomy p.requests.items rooms) ports

  abbrev pub head_is : (block : ℕ) → List (Mail (Request R) K) → Bool
  head_is block [] = false
  head_is block (mail ∷ rest) = block == request_block mail.item

  -- the block is that of some port's oldest request
  abbrev pub is_head : List (Port R K) → (block : ℕ) → Bool
  is_head ports block = list_any (λ p. head_is block p.requests.items) ports

  -- the requests of a core that are on their way, the oldest first
  abbrev pub requests_at : List (Port R K) → ℕ → List (Mail (Request R) K)
  requests_at ports c = slice_index_or (map (λ p. p.requests.items) ports) c []

  -- the home has room for the block of each port's oldest request, but perhaps of this core's
  abbrev pub OthersRoomy : List (Port R K) → ℕ → List Bool → Type 0
  OthersRoomy ports core rooms = (c : ℕ) → c ≢ core → head_roomy (requests_at ports c) rooms ≡ true

-- the home's rooms before and after room was made for some blocks of ports' oldest requests
pub record RoomsMade {R K : Type 0} (ports : List (Port R K)) (old new : List Bool) : Type 0 where
  pub kept : (b : ℕ) → has_room old b ≡ true → has_room new b ≡ true
  pub elsewhere : (b : ℕ) → is_head ports b ≡ false → has_room new b ≡ has_room old b
