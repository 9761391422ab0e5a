-- Rule: the invariant of the memory system: MemoryHolds
-- The invariant of the memory system, whoever uses it.
use Rattle.std.specs.Prelude.{◌≡◌, ◌≢◌, ℕ, ◌%◌, ◌<◌, ◌≤◌, true, length, slice_index_or, IsTrue}
use Rattle.access_times.specs.Riding.{Riding, Carrying}
use Rattle.image_mem.specs.Contents.{Contents}
use Rattle.rtr_types.specs.declared.TheConstants.{CORES_MAX, LINES}
use Rattle.msi_cache.specs.declared.line.Line.{Line}
use Rattle.msi_cache.specs.declared.line.State.TheVariants.{I}
use Rattle.msi_cache.specs.Lines.{empty_line, line_for}
use Rattle.msi_cache.specs.Table.{is_transient}
use Rattle.msi_directory.specs.Blocks.{entry_at}
use Rattle.msi_protocol.specs.Block.{View, Block}
use Rattle.msi_protocol.specs.Phases.{BlockHolds}
use Rattle.msi_protocol.specs.Promises.{OneWriter}
use Rattle.msi_protocol.specs.Seats.{FullBlock}
use Rattle.msi_protocol.specs.Shown.{Payload}
use Rattle.msi_memory.specs.declared.port.Port.{Port}
use Rattle.msi_memory.specs.Memories.{Memory, port_at, memory_start}
use Rattle.msi_memory.specs.Acts.{Act, can, after_act}
use Rattle.msi_laws.specs.Links.{AllShow}
use Rattle.msi_laws.specs.Sights.{line_state, asks_of, replies_of, signals_of}

-- a line at place i of a cache over so many blocks
pub record LineHolds {R : Type 0} (blocks : ℕ) (i : ℕ) (l : Line R) : Type 0 where
  pub place : l.state ≢ I → l.block % LINES ≡ i
  pub within : l.state ≢ I → l.block < blocks

-- the line at a place of the port's cache
abbrev pub place_at : {R K : Type 0} → Riding R → Port R K → ℕ → Line R
place_at riding p i = slice_index_or p.cache i (empty_line riding.fresh)

pub record PortHolds {R K : Type 0} (riding : Riding R) (blocks : ℕ) (p : Port R K) : Type 0 where
  pub all_lines : length p.cache ≡ LINES
  pub lines : (i : ℕ) → LineHolds blocks i (place_at riding p i)
  -- at most one line waits
  pub one_waits : (i j : ℕ) → is_transient (place_at riding p i).state ≡ true
      → is_transient (place_at riding p j).state ≡ true → i ≡ j
  pub requests_room : p.requests.room ≡ 1
  pub responses_room : p.responses.room ≡ CORES_MAX
  pub messages_room : p.messages.room ≡ CORES_MAX

-- each port is well, and each block shows one that has the property
pub record MemoryHas {R K : Type 0} (riding : Riding R) (carrying : Carrying K)
    (Q : ℕ → FullBlock (Payload R) → Type 0) (m : Memory R K) : Type 0 where
  pub cores : length m.ports ≤ CORES_MAX
  pub ports : (c : ℕ) → c < length m.ports → PortHolds riding (length m.home) (port_at carrying m.ports c)
  pub shows : AllShow riding carrying Q m

module _ {R : Type 0} where
  -- a block is in phases that fit its stage, and that is all
  abbrev pub Anything : ℕ → FullBlock (Payload R) → Type 0
  Anything b block = Unit {0}

module _ {R K : Type 0} where
  -- the invariant
  abbrev pub MemoryHolds : Riding R → Carrying K → Memory R K → Type 0
  MemoryHolds riding carrying m = MemoryHas riding carrying Anything m

  -- what a port shows of a block by kinds alone
  abbrev pub port_view : Riding R → (block : ℕ) → Port R K → View
  port_view riding b p =
      record {
        line = line_state b (line_for riding.fresh p.cache b);
        requests = asks_of b p.requests.items;
        responses = replies_of b p.responses.items;
        messages = signals_of b p.messages.items;
      }

  -- the block in the memory system: its stage at the home, and what each port shows of it
  abbrev pub block_in : Riding R → Carrying K → Memory R K → (block : ℕ) → Block
  block_in riding carrying m b =
      record {
        stage = (entry_at riding.fresh m.home b).stage;
        views = λ d. port_view riding b (port_at carrying m.ports d);
      }

  -- at most one cache may write a block, and then no other may read it
  abbrev pub OneWriterEverywhere : Riding R → Carrying K → Memory R K → Type 0
  OneWriterEverywhere riding carrying m = (b : ℕ) → OneWriter (block_in riding carrying m b)

  -- ---- the laws

  abbrev pub StartLaw : Riding R → Carrying K → Type 0
  StartLaw riding carrying =
      (image : Contents) (cores : ℕ) → cores ≤ CORES_MAX
      → MemoryHolds riding carrying (memory_start riding carrying image cores)

  -- each act that can be made keeps it
  abbrev pub KeepsLaw : Riding R → Carrying K → Type 0
  KeepsLaw riding carrying =
      (m : Memory R K) (act : Act R) → IsTrue (can riding carrying m act) → MemoryHolds riding carrying m
      → MemoryHolds riding carrying (after_act riding carrying m act)

-- the start has the invariant and acts keep it; with it each block is well, as the protocol has it
pub record InvariantLaws {R K : Type 0} (riding : Riding R) (carrying : Carrying K) : Type 0 where
  pub start : StartLaw riding carrying
  pub act : KeepsLaw riding carrying
  pub blocks : (m : Memory R K) → MemoryHolds riding carrying m → (b : ℕ) → BlockHolds (block_in riding carrying m b)
