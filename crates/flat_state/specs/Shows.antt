-- Rule: what a flat state stands for: Shows, Stands
-- How a flat state shows a state of the definitions: core by core and block by block, all but what is carried.
use Rattle.std.specs.Prelude.{◌≡◌, ◌≢◌, ◌<◌, ℕ, ◌%◌, ◌==◌, ◌&&◌, Bool, true, false, None, List, [], ◌∷◌, length, map}
use Rattle.std.specs.Prelude.{slice_index_or, nat_lt}
use Rattle.std.specs.List.{list_all}
use Rattle.access_times.specs.Riding.{Riding, Carrying, none_riding, none_carrying}
use Rattle.rtr_types.specs.CoreSets.{no_cores}
use Rattle.rtr_types.specs.declared.TheConstants.{LINES}
use Rattle.image_mem.specs.Contents.{Contents}
use Rattle.rv_core.specs.States.{starting}
use Rattle.rv_core.specs.Steps.{after, need, instruction_at}
use Rattle.rv_core.specs.declared.core_state.Core.{Core}
use Rattle.rv_core.specs.declared.core_state.Need.TheVariants.{Local}
use Rattle.msi_cache.specs.Messages.{ask_of, block_of, reply_of, request_block, response_block, signal}
use Rattle.msi_cache.specs.Table.{Ask as Asking, Reply as Replying, Signal, is_readable, is_writable}
use Rattle.msi_cache.specs.declared.line.Line.{Line}
use Rattle.msi_cache.specs.declared.line.State.{State as LineState}
use Rattle.msi_cache.specs.declared.line.State.TheVariants.{I}
use Rattle.msi_cache.specs.declared.messages.FromHome.{FromHome}
use Rattle.msi_cache.specs.declared.messages.Request.{Request}
use Rattle.msi_cache.specs.declared.messages.Response.{Response}
use Rattle.msi_directory.specs.Blocks.{entry_at}
use Rattle.msi_directory.specs.declared.entry.Entry.{Entry}
use Rattle.msi_directory.specs.declared.entry.Stage.{Stage}
use Rattle.msi_directory.specs.declared.entry.Stage.TheVariants.{Unshared, Shared, Owned, Acks, Data}
use Rattle.msi_memory.specs.Memories.{port_at}
use Rattle.msi_memory.specs.declared.port.Mail.{Mail}
use Rattle.msi_memory.specs.declared.port.Port.{Port}
use Rattle.msi_state.specs.declared.moves.Move.{Move}
use Rattle.msi_state.specs.Events.{Event}
use Rattle.msi_state.specs.Runs.{plain_event, plain_step}
use Rattle.msi_state.specs.States.{PlainState, State, core_at}
use Rattle.msi_state.specs.Steps.{enabled}
use Rattle.machine_data.specs.Coherent.{Coherent, memory_after, opening_memory}
use Rattle.machine_invariant.specs.Holds.{MachineHolds}
use Rattle.flat_state.specs.declared.block.Held.{Held}
use Rattle.flat_state.specs.declared.block.Held.TheVariants.{Unshared as NotHeld, Shared as IsShared, Owned as IsOwned}
use Rattle.flat_state.specs.declared.block.Held.TheVariants.{Acks as InAcks, ToShare, ToOwn}
use Rattle.flat_state.specs.declared.block.HomeBlock.{HomeBlock}
use Rattle.flat_state.specs.declared.flat.Flat.{Flat}
use Rattle.flat_state.specs.declared.message_ring.Message.{Message}
use Rattle.flat_state.specs.declared.message_ring.Told.{Told}
use Rattle.flat_state.specs.declared.message_ring.Told.TheVariants.{Data as TellsData, Ack, Inv, FwdS, FwdM}
use Rattle.flat_state.specs.declared.node.Ask.{Ask}
use Rattle.flat_state.specs.declared.node.Ask.TheVariants.{GetS, GetM, PutS, PutM}
use Rattle.flat_state.specs.declared.node.KeptLine.{KeptLine}
use Rattle.flat_state.specs.declared.node.Node.{Node}
use Rattle.flat_state.specs.declared.reply_ring.Replied.{Replied}
use Rattle.flat_state.specs.declared.reply_ring.Replied.TheVariants.{InvAck, OwnerData}
use Rattle.flat_state.specs.declared.reply_ring.Reply.{Reply}

-- ---- what is read where nothing is

abbrev pub no_line : KeptLine
no_line = record { block = 0; place = 0; state = I }

abbrev pub no_node : Node
no_node = record {
  core = starting 0 0;
  need = Local;
  op = None;
  lines = [];
  asks = false;
  ask = GetS;
  place = 0;
  replies = [];
  messages = [];
}

abbrev pub no_block : HomeBlock
no_block = record {
  block = 0;
  held = NotHeld;
  set = no_cores;
  owner = 0;
  requester = 0;
  askers = no_cores;
  words = [];
}

abbrev pub node_at : List Node → ℕ → Node
node_at nodes c = slice_index_or nodes c no_node

abbrev pub line_at : Node → ℕ → KeptLine
line_at n i = slice_index_or n.lines i no_line

abbrev pub home_at : List HomeBlock → ℕ → HomeBlock
home_at home place = slice_index_or home place no_block

-- the blocks of the home, by place: no move but one that makes room changes them
abbrev pub blocks_of : List HomeBlock → List ℕ
blocks_of home = map (λ b. b.block) home

abbrev pub block_at : List ℕ → ℕ → ℕ
block_at blocks place = slice_index_or blocks place 0

-- the node once its core's instruction retired
abbrev pub node_after : Contents → Node → Core → (before : ℕ) → Node
node_after image n core before =
    record n {
      core = after image core before;
      need = need image (after image core before);
      op = instruction_at image (after image core before).pc;
    }

-- ---- what is seen of each part, by kinds and blocks

abbrev pub told_as : Told → Signal
told_as TellsData = Signal.BlockData
told_as Ack = Signal.PutAck
told_as Inv = Signal.Inv
told_as FwdS = Signal.FwdGetS
told_as FwdM = Signal.FwdGetM

abbrev pub asked_as : Ask → Asking
asked_as GetS = Asking.GetS
asked_as GetM = Asking.GetM
asked_as PutS = Asking.PutS
asked_as PutM = Asking.PutM

abbrev pub replied_as : Replied → Replying
replied_as InvAck = Replying.InvAck
replied_as OwnerData = Replying.OwnerData

abbrev pub held_as : Held → HomeBlock → Stage
held_as NotHeld b = Unshared
held_as IsShared b = Shared b.set
held_as IsOwned b = Owned b.owner
held_as InAcks b = Acks b.set b.requester
held_as ToShare b = Data b.owner b.requester true
held_as ToOwn b = Data b.owner b.requester false

abbrev pub kept_line : KeptLine → LineState × ℕ
kept_line l = (l.state, l.block)

abbrev pub kept_message : List ℕ → Message → Signal × ℕ
kept_message blocks m = (told_as m.told, block_at blocks m.place)

abbrev pub kept_reply : List ℕ → Reply → Replying × ℕ
kept_reply blocks m = (replied_as m.replied, block_at blocks m.place)

abbrev pub kept_requests : List ℕ → Bool → Ask → ℕ → List (Asking × ℕ)
kept_requests blocks false ask place = []
kept_requests blocks true ask place = (asked_as ask, block_at blocks place) ∷ []

module _ {R : Type 0} where
  abbrev pub seen_line : Line R → LineState × ℕ
  seen_line l = (l.state, l.block)

module _ {R K : Type 0} where
  abbrev pub seen_message : Mail (FromHome R) K → Signal × ℕ
  seen_message mail = (signal mail.item, block_of mail.item)

  abbrev pub seen_reply : Mail (Response R) K → Replying × ℕ
  seen_reply mail = (reply_of mail.item, response_block mail.item)

  abbrev pub seen_request : Mail (Request R) K → Asking × ℕ
  seen_request mail = (ask_of mail.item, request_block mail.item)

-- each names a place that there is
abbrev pub are_told_placed : List ℕ → List Message → Bool
are_told_placed blocks messages = list_all (λ m. nat_lt m.place (length blocks)) messages

abbrev pub are_replied_placed : List ℕ → List Reply → Bool
are_replied_placed blocks replies = list_all (λ m. nat_lt m.place (length blocks)) replies

-- ---- the relation

-- a node is this core at this port
pub record NodeShows {R K : Type 0} (image : Contents) (blocks : List ℕ) (n : Node) (core : Core) (p : Port R K)
    : Type 0 where
  pub core_is : n.core ≡ core
  pub need : n.need ≡ need image core
  pub op : n.op ≡ instruction_at image core.pc
  pub lines : map kept_line n.lines ≡ map seen_line p.cache
  pub requests : kept_requests blocks n.asks n.ask n.place ≡ map seen_request p.requests.items
  pub replies : map (kept_reply blocks) n.replies ≡ map seen_reply p.responses.items
  pub messages : map (kept_message blocks) n.messages ≡ map seen_message p.messages.items
  -- a line that isn't in I has its block's place, and so have a request, a response and a message
  pub placed : (i : ℕ) → i < LINES → (line_at n i).state ≢ I
      → ((line_at n i).place < length blocks) × (block_at blocks (line_at n i).place ≡ (line_at n i).block)
  pub asked : n.asks ≡ true → n.place < length blocks
  pub replied : are_replied_placed blocks n.replies ≡ true
  pub told : are_told_placed blocks n.messages ≡ true

-- a block of the home is this entry
pub record BlockShows {R : Type 0} (b : HomeBlock) (e : Entry R) : Type 0 where
  pub stage : held_as b.held b ≡ e.stage
  pub empty : b.held ≡ NotHeld → b.set ≡ no_cores

-- the home's blocks are these entries: each block has one at most, which is one of the memory's, and a block with none
-- isn't held
pub record HomeShows {R : Type 0} (fresh : R) (home : List HomeBlock) (entries : List (Entry R)) : Type 0 where
  pub blocks : (i : ℕ) → i < length home → BlockShows (home_at home i) (entry_at fresh entries (home_at home i).block)
  pub within : (i : ℕ) → i < length home → (home_at home i).block < length entries
  pub once : (i j : ℕ) → i < length home → j < length home → (home_at home i).block ≡ (home_at home j).block → i ≡ j
  pub others : (b : ℕ) → ((i : ℕ) → i < length home → (home_at home i).block ≢ b)
      → (entry_at fresh entries b).stage ≡ Unshared

-- the flat state is this state, but for what is carried
pub record Shows {R K : Type 0} (riding : Riding R) (carrying : Carrying K) (f : Flat) (s : State R K) : Type 0 where
  pub image : f.program ≡ s.image
  pub long : length f.nodes.items ≡ length s.cores
  pub nodes : (c : ℕ) → c < length s.cores
      → NodeShows s.image (blocks_of f.home.items) (node_at f.nodes.items c) (core_at s.cores c)
      (port_at carrying s.memory.ports c)
  pub home : HomeShows riding.fresh f.home.items s.memory.home

-- the words of the memory are the entries', and where there is none the image's
pub record WordsKept (image : Contents) (home : List HomeBlock) (memory : ℕ → List ℕ) : Type 0 where
  pub here : (i : ℕ) → i < length home → (home_at home i).words ≡ memory (home_at home i).block
  pub others : (b : ℕ) → ((i : ℕ) → i < length home → (home_at home i).block ≢ b) → memory b ≡ opening_memory image b

-- the flat state stands at a state that it shows, which keeps what each state of a run does, and whose copies have the
-- words of the memory that the entries have
pub record Stands (f : Flat) (s : PlainState) (memory : ℕ → List ℕ) : Type 0 where
  pub holds : MachineHolds none_riding none_carrying s
  pub shows : Shows none_riding none_carrying f s
  pub words : WordsKept s.image f.home.items memory
  pub coherent : Coherent none_riding none_carrying s memory

-- it stands somewhere
pub record IsSomewhere (f : Flat) : Type 0 where
  pub s : PlainState
  pub memory : ℕ → List ℕ
  pub stands : Stands f s memory

-- the move leads from wherever the one flat state stands to where the other does
abbrev pub Makes : (old new : Flat) → Move → Type 0
Makes old new m =
    (s : PlainState) (memory : ℕ → List ℕ) → Stands old s memory → enabled none_riding none_carrying s m ≡ true
    → Stands new (plain_step s m) (memory_after (plain_event s m) memory)

-- what it tells of, wherever the one flat state stands
abbrev pub Tells : (old : Flat) → Move → Event → Type 0
Tells old m e =
    (s : PlainState) (memory : ℕ → List ℕ) → Stands old s memory → enabled none_riding none_carrying s m ≡ true
    → plain_event s m ≡ e

-- ---- what the moves look at

-- the core may read the block
abbrev pub hits : Node → ℕ → Bool
hits n block = ((line_at n (block % LINES)).block == block) && is_readable (line_at n (block % LINES)).state

-- the core may write the block
abbrev pub owns : Node → ℕ → Bool
owns n block = ((line_at n (block % LINES)).block == block) && is_writable (line_at n (block % LINES)).state
