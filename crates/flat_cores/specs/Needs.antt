-- What a core's own move looks at, and how it asks.
use Rattle.std.specs.Prelude.{ℕ, Bool, true, false, Option, Some, None, List, [], slice_set}
use Rattle.rtr_types.specs.declared.access.Kind.{Kind}
use Rattle.rtr_types.specs.declared.access.Kind.TheVariants.{Load as Loading, Store as Storing, Amo as Exchanging}
use Rattle.rv_core.specs.declared.core_state.Need.{Need}
use Rattle.rv_core.specs.declared.core_state.Need.TheVariants.{Load, Store, Amo}
use Rattle.msi_cache.specs.declared.line.State.{State as LineState}
use Rattle.msi_cache.specs.declared.line.State.TheVariants.{S, M, IsD, ImD, SmD, SiA, MiA}
use Rattle.flat_state.specs.declared.node.Ask.{Ask}
use Rattle.flat_state.specs.declared.node.Ask.TheVariants.{GetS, GetM, PutS, PutM}
use Rattle.flat_state.specs.declared.node.KeptLine.{KeptLine}
use Rattle.flat_state.specs.declared.block.HomeBlock.{HomeBlock}
use Rattle.flat_state.specs.declared.flat.Flat.{Flat}
use Rattle.flat_state.specs.declared.node.Node.{Node}
use Rattle.flat_state.specs.Shows.{line_at, node_after, node_at}

-- the word that the instruction writes, if it may write one
abbrev pub written : Need → Option ℕ
written (Store word whole) = Some word
written (Amo word) = Some word
written _ = None

-- the word that the instruction looks at, if it looks at one
abbrev pub looked : Need → Option ℕ
looked (Load word) = Some word
looked (Store word whole) = Some word
looked (Amo word) = Some word
looked _ = None

-- the kind of its access, which is a load's where it needs none
abbrev pub kind_of : Need → Kind
kind_of (Store word whole) = Storing
kind_of (Amo word) = Exchanging
kind_of _ = Loading

-- a copy that its core may read, and that waits for nothing
abbrev pub is_copy : LineState → Bool
is_copy S = true
is_copy M = true
is_copy _ = false

-- what is asked for, for what an instruction needs, and how the line then waits
abbrev pub get_of : Need → Ask
get_of (Load word) = GetS
get_of _ = GetM

abbrev pub getting : Need → LineState
getting (Load word) = IsD
getting _ = ImD

-- how a copy is given back, and how the line then waits
abbrev pub put_of : LineState → Ask
put_of M = PutM
put_of _ = PutS

abbrev pub leaving : LineState → LineState
leaving M = MiA
leaving _ = SiA

-- the node with this line, for whose block it asks
abbrev pub node_asked : Node → (index : ℕ) → KeptLine → Ask → Node
node_asked n index line ask =
    record n { lines = slice_set n.lines index line; asks = true; ask = ask; place = line.place }

-- ---- what a move leaves

-- an entry but for its words
abbrev pub but_words : HomeBlock → HomeBlock
but_words b = record b { words = [] }

-- the core's node once its instruction retired, which found this word
abbrev pub node_retired_at : Flat → (core : ℕ) → (before : ℕ) → Node
node_retired_at f core before = node_after f.program (node_at f.nodes.items core) (node_at f.nodes.items core).core before

-- the core's node once it asks for what its instruction needs, whose block has its entry at this place
abbrev pub node_asking_for : Node → (block place index : ℕ) → Node
node_asking_for n block place index =
    node_asked n index (record { block = block; place = place; state = getting n.need }) (get_of n.need)

-- the core's node once it asks to own what it shares
abbrev pub node_upgrading : Node → (index : ℕ) → Node
node_upgrading n index = node_asked n index (record (line_at n index) { state = SmD }) GetM

-- the core's node once it gives its copy back
abbrev pub node_giving : Node → (index : ℕ) → Node
node_giving n index =
    node_asked n index (record (line_at n index) { state = leaving (line_at n index).state })
    (put_of (line_at n index).state)
