-- What a message from home does to a line, and how it is answered.
use Rattle.std.specs.Prelude.{ℕ, ◌%◌, Bool, true, false, ◌++◌, ◌∷◌, [], List, Option, Some, None, if◌then◌else◌, slice_set}
use Rattle.rtr_types.specs.declared.TheConstants.{LINES}
use Rattle.rv_core.specs.declared.core_state.Need.{Need}
use Rattle.rv_core.specs.declared.core_state.Need.TheVariants.{Load, Store, Amo}
use Rattle.msi_cache.specs.declared.line.State.{State as LineState}
use Rattle.msi_cache.specs.declared.line.State.TheVariants.{I, S, M, IsD, ImD, SmD, SiA, IiA}
use Rattle.flat_state.specs.declared.block.HomeBlock.{HomeBlock}
use Rattle.flat_state.specs.declared.flat.Flat.{Flat}
use Rattle.flat_state.specs.declared.message_ring.Message.{Message}
use Rattle.flat_state.specs.declared.message_ring.Told.{Told}
use Rattle.flat_state.specs.declared.message_ring.Told.TheVariants.{Data, Ack, Inv, FwdS, FwdM}
use Rattle.flat_state.specs.declared.node.Node.{Node}
use Rattle.flat_state.specs.declared.reply_ring.Replied.{Replied}
use Rattle.flat_state.specs.declared.reply_ring.Replied.TheVariants.{InvAck, OwnerData}
use Rattle.flat_state.specs.declared.reply_ring.Reply.{Reply}
use Rattle.flat_state.specs.Shows.{home_at, line_at, node_after, node_at}

-- what the oldest message tells
abbrev pub told_next : List Message → Option Told
told_next [] = None
told_next (m ∷ later) = Some m.told

-- a block's data come
abbrev pub is_data : Told → Bool
is_data Data = true
is_data _ = false

-- the line's state after the message, where the table has a row for the two
abbrev pub heard : Told → LineState → LineState
heard Data IsD = S
heard Data _ = M
heard Ack _ = I
heard Inv SmD = ImD
heard Inv SiA = IiA
heard Inv _ = I
heard FwdS M = S
heard FwdS _ = SiA
heard FwdM M = I
heard FwdM _ = IiA

-- what is answered
abbrev pub answered : Told → Option Replied
answered Inv = Some InvAck
answered FwdS = Some OwnerData
answered FwdM = Some OwnerData
answered _ = None

abbrev pub with_reply : Option Replied → (place : ℕ) → List Reply → List Reply
with_reply None place replies = replies
with_reply (Some r) place replies = replies ++ record { place = place; replied = r } ∷ []

-- the node once it took this message, which the line at this place is for, and these are behind it
abbrev pub node_heard : Node → (index : ℕ) → Message → List Message → Node
node_heard n index m later =
    record n {
      lines = slice_set n.lines index (record (line_at n index) { state = heard m.told (line_at n index).state });
      replies = with_reply (answered m.told) m.place n.replies;
      messages = later;
    }

-- the node once it took the oldest of these messages
abbrev pub hearing : List HomeBlock → Node → List Message → Node
hearing home n [] = n
hearing home n (m ∷ later) = node_heard n ((home_at home m.place).block % LINES) m later

-- the core's node once it took its oldest message
abbrev pub node_hearing : Flat → (core : ℕ) → Node
node_hearing f core = hearing f.home.items (node_at f.nodes.items core) (node_at f.nodes.items core).messages

-- and once the instruction that waited for it retired, which found this word
abbrev pub node_filled : Flat → (core : ℕ) → (before : ℕ) → Node
node_filled f core before = node_after f.program (node_hearing f core) (node_hearing f core).core before

-- the word that an instruction looks at, and whether it writes it
abbrev pub word_of : Need → ℕ
word_of (Load word) = word
word_of (Store word whole) = word
word_of (Amo word) = word
word_of _ = 0

abbrev pub writes : Need → Bool
writes (Store word whole) = true
writes (Amo word) = true
writes _ = false

-- what an access leaves of a word that was this before
abbrev pub left_by : (writing : Bool) → (before after : ℕ) → ℕ
left_by writing before after = if writing then after else before
