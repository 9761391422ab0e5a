-- What the protocol promises of a block.
use Rattle.std.specs.Prelude.{◌≡◌, ◌≢◌, ℕ, ◌<◌, ◌≤◌, nat_lt, Bool, true, false, not, ◌&&◌, ◌||◌, is_some, List, [], ◌∷◌}
use Rattle.std.specs.Prelude.{IsTrue, length}
use Rattle.link_order.specs.Queue.{is_nil}
use Rattle.rtr_types.specs.declared.TheConstants.{CORES_MAX}
use Rattle.msi_cache.specs.declared.line.State.{State}
use Rattle.msi_cache.specs.declared.line.State.TheVariants.{I, S, M}
use Rattle.msi_cache.specs.Table.{Signal, Ask, Reply, row, is_readable, is_writable, is_transient}
use Rattle.msi_directory.specs.Fitting.{stage_fits}
use Rattle.msi_directory.specs.Table.{is_free}
use Rattle.msi_directory.specs.declared.entry.Stage.{Stage}
use Rattle.msi_protocol.specs.Block.{View, view, Block, BlockMove, core_of, has_ask_row, has_reply_row, block_run}
use Rattle.msi_protocol.specs.Block.{block_move, block_start}
use Rattle.msi_protocol.specs.Phases.{Role, Sharer, Owner, role, BlockHolds, StageFits}

-- the start has the invariant and moves keep it, so that each run has it, and the home's own invariant allows the
-- stages that it allows
pub record InvariantLaws : Type 0 where
  pub start : BlockHolds block_start
  pub step : (move : BlockMove) (b : Block) → BlockHolds b → BlockHolds (block_move move b)
  pub run : (moves : List BlockMove) → BlockHolds (block_run moves block_start)
  pub fits : (stage : Stage) → StageFits stage → IsTrue (stage_fits stage)

-- what the invariant implies, and so what holds whatever moves are made from the start
pub record Always (P : Block → Type 0) : Type 0 where
  pub invariant : (b : Block) → BlockHolds b → P b
  pub run : (moves : List BlockMove) → P (block_run moves block_start)

-- at most one core may write, and then no other may read
abbrev pub OneWriter : Block → Type 0
OneWriter b =
    (d e : ℕ) → d < CORES_MAX → e < CORES_MAX → d ≢ e → is_writable (b.views d).line ≡ true
    → is_readable (b.views e).line ≡ false

-- the message that each receiver takes next has a row in that receiver's table
pub record HasRows (b : Block) : Type 0 where
  pub request : (c : ℕ) → c < CORES_MAX → is_free b.stage ≡ true → (a : Ask) (rest : List Ask)
      → (b.views c).requests ≡ a ∷ rest → has_ask_row b.stage c a ≡ true
  pub response : (c : ℕ) → c < CORES_MAX → (a : Reply) (rest : List Reply) → (b.views c).responses ≡ a ∷ rest
      → has_reply_row b.stage c a ≡ true
  pub message : (c : ℕ) → c < CORES_MAX → (m : Signal) (rest : List Signal) → (b.views c).messages ≡ m ∷ rest
      → is_some (row m (b.views c).line) ≡ true

-- the core has sent a response that isn't taken, or is sent a message that isn't taken
abbrev pub is_moving : View → Bool
is_moving v = not (is_nil v.responses) || not (is_nil v.messages)

-- a block that is busy has such a response or message under way
abbrev pub BusyMoves : Block → Type 0
BusyMoves b = is_free b.stage ≡ false → (d : ℕ) × (d < CORES_MAX) × (is_moving (b.views d) ≡ true)

-- the core's request isn't taken, or it is sent a message that isn't taken
abbrev pub is_served : View → Bool
is_served v = not (is_nil v.requests) || not (is_nil v.messages)

-- where a core's line waits for the home and the block isn't busy, its request or what it waits for is
-- under way
abbrev pub NoneForgotten : Block → Type 0
NoneForgotten b =
    is_free b.stage ≡ true → (d : ℕ) → d < CORES_MAX → is_transient (b.views d).line ≡ true
    → is_served (b.views d) ≡ true

-- of a block and a core, at most one request, one response and two messages are under way
pub record IsFew (v : View) : Type 0 where
  pub requests : length v.requests ≤ 1
  pub responses : length v.responses ≤ 1
  pub messages : length v.messages ≤ 2

abbrev pub FewUnderWay : Block → Type 0
FewUnderWay b = (d : ℕ) → d < CORES_MAX → IsFew (b.views d)

-- nothing is under way
abbrev pub is_quiet : View → Bool
is_quiet v = is_nil v.requests && is_nil v.responses && is_nil v.messages

-- the line of a core that the home takes for this, once nothing is under way
abbrev pub settled : Role → State
settled Sharer = S
settled Owner = M
settled _ = I

-- where nothing of the block is under way, it isn't busy, and each core's line is what the home takes
-- it for
pub record Agrees (b : Block) : Type 0 where
  pub free : is_free b.stage ≡ true
  pub lines : (d : ℕ) → d < CORES_MAX → (b.views d).line ≡ settled (role b.stage d)

abbrev pub QuietAgrees : Block → Type 0
QuietAgrees b = ((d : ℕ) → d < CORES_MAX → is_quiet (b.views d) ≡ true) → Agrees b

-- ---- fewer cores

-- each move is of a core below this number
abbrev pub moves_below : ℕ → List BlockMove → Bool
moves_below cores [] = true
moves_below cores (m ∷ ms) = nat_lt (core_of m) cores && moves_below cores ms

-- no core from this number on has a copy of the block, or anything under way
abbrev pub OnlyBelow : ℕ → Block → Type 0
OnlyBelow cores b = (d : ℕ) → cores ≤ d → d < CORES_MAX → b.views d ≡ view I [] [] []
