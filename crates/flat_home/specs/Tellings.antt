-- What the home tells of a turn, and how a call on one entry is a row of the home's table.
use Rattle.std.specs.Prelude.{◌≡◌, ◌≢◌, ℕ, ◌<◌, ◌==◌, ◌++◌, ◌∷◌, [], Bool, false, Option, Some, None, List, length}
use Rattle.std.specs.Prelude.{if◌then◌else◌, slice_set}
use Rattle.rtr_types.specs.CoreSets.{has, no_cores}
use Rattle.rtr_types.specs.declared.core_set.CoreSet.{CoreSet}
use Rattle.msi_directory.specs.Table.{HomeRow, Send, NoMessage, is_free}
use Rattle.msi_directory.specs.declared.entry.Stage.{Stage}
use Rattle.flat_state.specs.declared.block.Held.TheVariants.{Unshared as NotHeld}
use Rattle.flat_state.specs.declared.block.HomeBlock.{HomeBlock}
use Rattle.flat_state.specs.declared.flat.Flat.{Flat}
use Rattle.flat_state.specs.declared.message_ring.Told.{Told}
use Rattle.flat_state.specs.declared.message_ring.Told.TheVariants.{Data as TellsData, Ack as TellsAck, Inv}
use Rattle.flat_state.specs.declared.message_ring.Told.TheVariants.{FwdS as TellsFwdS, FwdM as TellsFwdM}
use Rattle.flat_state.specs.declared.node.Node.{Node}
use Rattle.flat_state.specs.declared.reply_ring.Reply.{Reply}
use Rattle.flat_state.specs.Shows.{held_as, home_at, node_at}
use Rattle.flat_home.specs.declared.tellings.Telling.{Telling}
use Rattle.flat_home.specs.declared.tellings.HomeTurn.{HomeTurn}
use Rattle.flat_home.specs.declared.tellings.Telling.TheVariants.{Data, Ack, FwdS, FwdM, Each, Nobody}

-- the node with one message more about the block at this place, if it hears of it
abbrev pub with_message : (hears : Bool) → (place : ℕ) → Told → Node → Node
with_message hears place told n =
    if hears then record n { messages = n.messages ++ record { place = place; told = told } ∷ [] } else n

-- the core is told
abbrev pub tells : Telling → ℕ → Bool
tells (Data to) d = d == to
tells (Ack to) d = d == to
tells (FwdS to) d = d == to
tells (FwdM to) d = d == to
tells (Each set) d = has set d
tells Nobody d = false

-- what it is told
abbrev pub told_of : Telling → Told
told_of (Data to) = TellsData
told_of (Ack to) = TellsAck
told_of (FwdS to) = TellsFwdS
told_of (FwdM to) = TellsFwdM
told_of _ = Inv

-- the one core that is told
abbrev pub addressee : Telling → Option ℕ
addressee (Data to) = Some to
addressee (Ack to) = Some to
addressee (FwdS to) = Some to
addressee (FwdM to) = Some to
addressee _ = None

-- ---- turns

-- the core's node without its request
abbrev pub node_served : Flat → (core : ℕ) → Node
node_served f core = record (node_at f.nodes.items core) { asks = false }

-- and without its oldest response
abbrev pub later_replies : List Reply → List Reply
later_replies [] = []
later_replies (reply ∷ later) = later

abbrev pub node_answered : Flat → (core : ℕ) → Node
node_answered f core = record (node_at f.nodes.items core) { replies = later_replies (node_at f.nodes.items core).replies }

-- the place of the oldest response's block
abbrev pub reply_place : List Reply → ℕ
reply_place [] = 0
reply_place (reply ∷ later) = reply.place

-- The home took something of a core, whose node is this one then. Of the block at this place it told the nodes that it
-- tells, and no other block changed.
pub record HasTurned (old new : Flat) (core : ℕ) (left : Node) (turn : HomeTurn) : Type 0 where
  pub lies : turn.place < length old.home.items
  pub there : (to : ℕ) → addressee turn.telling ≡ Some to → to < length old.nodes.items
  pub long : length new.nodes.items ≡ length old.nodes.items
  pub nodes : (d : ℕ) → d < length old.nodes.items → node_at new.nodes.items d
      ≡ with_message (tells turn.telling d) turn.place (told_of turn.telling)
      (node_at (slice_set old.nodes.items core left) d)
  pub others : (i : ℕ) → i ≢ turn.place → home_at new.home.items i ≡ home_at old.home.items i
  pub askers : (home_at new.home.items turn.place).askers ≡ (home_at old.home.items turn.place).askers

-- ---- rows

-- the one message that is sent, and the cores to which Inv goes
abbrev pub sends : Telling → Send
sends (Data to) = Send.BlockData to
sends (Ack to) = Send.PutAck to
sends (FwdS to) = Send.FwdGetS to
sends (FwdM to) = Send.FwdGetM to
sends _ = NoMessage

abbrev pub invalidates : Telling → CoreSet
invalidates (Each set) = set
invalidates _ = no_cores

-- what a row says of a block, but for what becomes of words and riders
pub record Turn : Type 0 where
  pub next : Stage
  pub invalidate : CoreSet
  pub send : Send

abbrev pub turn_of : Option HomeRow → Option Turn
turn_of None = None
turn_of (Some r) = Some (record { next = r.next; invalidate = r.invalidate; send = r.send })

abbrev pub turned : HomeBlock → Telling → Turn
turned b telling = record { next = held_as b.held b; invalidate = invalidates telling; send = sends telling }

-- the entry was turned as the row says, and this is told of it
pub record IsTurned (row : Option HomeRow) (old new : HomeBlock) (telling : Telling) : Type 0 where
  pub row_is : turn_of row ≡ Some (turned new telling)
  pub empty : new.held ≡ NotHeld → new.set ≡ no_cores
  pub block : new.block ≡ old.block
  pub words : new.words ≡ old.words
  pub askers : new.askers ≡ old.askers

-- the block at this place isn't busy
abbrev pub block_free : HomeBlock → Bool
block_free b = is_free (held_as b.held b)
