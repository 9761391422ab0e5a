-- Rule: states of the memory system: Memory, memory_start
-- The memory system: caches, links and home, without the cores that use it.
use Rattle.std.specs.Prelude.{ℕ, ◌/◌, ◌%◌, Bool, List, [], slice_index, slice_index_or, replicate}
use Rattle.access_times.specs.Riding.{Riding, Carrying}
use Rattle.image_mem.specs.Contents.{Contents}
use Rattle.rtr_types.specs.declared.TheConstants.{BLOCK_WORDS, CORES_MAX, LINES}
use Rattle.msi_cache.specs.Lines.{empty_line, line_for}
use Rattle.msi_directory.specs.declared.entry.Entry.{Entry}
use Rattle.msi_directory.specs.Blocks.{opening_entries}
use Rattle.msi_memory.specs.declared.port.Port.{Port}

-- each core's port, the home's entry of each block of the memory, and the home's carry
pub record Memory (R K : Type 0) : Type 0 where
  pub ports : List (Port R K)
  pub home : List (Entry R)
  pub carry : K

-- what the memory system is to contracts: its state, beside which of the home's blocks have room for a request
pub record System (R K : Type 0) : Type 0 where
  pub memory : Memory R K
  pub rooms : List Bool

module _ {R K : Type 0} where
  -- what is read where there is no port
  abbrev pub no_port : Carrying K → Port R K
  no_port carrying =
      record {
        carry = carrying.none;
        cache = [];
        requests = record { room = 0; items = [] };
        responses = record { room = 0; items = [] };
        messages = record { room = 0; items = [] };
      }

  -- the port of a core
  abbrev pub port_at : Carrying K → List (Port R K) → ℕ → Port R K
  port_at carrying ports c = slice_index_or ports c (no_port carrying)

  -- a port at the start: its cache holds nothing, and nothing is on its links, which have room for one
  -- request, and for a response and a message for each core
  abbrev pub port_start : Riding R → Carrying K → Port R K
  port_start riding carrying =
      record {
        carry = carrying.none;
        cache = replicate LINES (empty_line riding.fresh);
        requests = record { room = 1; items = [] };
        responses = record { room = CORES_MAX; items = [] };
        messages = record { room = CORES_MAX; items = [] };
      }

  -- the memory system at the start: no cache holds a block, and the home has what the image has
  abbrev pub memory_start : Riding R → Carrying K → Contents → (cores : ℕ) → Memory R K
  memory_start riding carrying image cores =
      record {
        ports = replicate cores (port_start riding carrying);
        home = opening_entries riding.fresh image;
        carry = carrying.none;
      }

  -- the value that the port's copy has of a word, by the word's index
  abbrev pub word_at : Riding R → Port R K → (word : ℕ) → ℕ
  word_at riding p word =
      slice_index (line_for riding.fresh p.cache (word / BLOCK_WORDS)).words (word % BLOCK_WORDS)

  -- the rider on the port's copy of a word's block
  abbrev pub rider_at : Riding R → Port R K → (word : ℕ) → R
  rider_at riding p word = (line_for riding.fresh p.cache (word / BLOCK_WORDS)).rider
