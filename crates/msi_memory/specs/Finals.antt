-- The memory that the memory system has: for each block the owner's words where a cache owns it, and the home's
-- elsewhere.
use Rattle.std.specs.Prelude.{◌≡◌, ℕ, ◌<◌, ◌/◌, ◌%◌, Bool, true, ◌&&◌, nat_lt, List, length, slice_index}
use Rattle.access_times.specs.Riding.{Riding, Carrying}
use Rattle.rtr_types.specs.declared.TheConstants.{BLOCK_WORDS}
use Rattle.msi_cache.specs.Lines.{line_for, can_read}
use Rattle.msi_directory.specs.declared.entry.Stage.{Stage}
use Rattle.msi_directory.specs.declared.entry.Stage.TheVariants.{Owned}
use Rattle.msi_directory.specs.Blocks.{entry_at}
use Rattle.msi_memory.specs.Memories.{Memory, port_at}

-- the same word in each slot of a block
abbrev pub SameWords : List ℕ → List ℕ → Type 0
SameWords words others = (slot : ℕ) → slot < BLOCK_WORDS → slice_index words slot ≡ slice_index others slot

module _ {R K : Type 0} where
  -- a block's words, by its stage at the home
  abbrev pub block_words_in : Stage → Riding R → Carrying K → Memory R K → ℕ → List ℕ
  block_words_in (Owned owner) riding carrying m block =
      (line_for riding.fresh (port_at carrying m.ports owner).cache block).words
  block_words_in stage riding carrying m block = (entry_at riding.fresh m.home block).words

  abbrev pub block_words : Riding R → Carrying K → Memory R K → ℕ → List ℕ
  block_words riding carrying m block =
      block_words_in (entry_at riding.fresh m.home block).stage riding carrying m block

  -- a word, by its index
  abbrev pub memory_word : Riding R → Carrying K → Memory R K → ℕ → ℕ
  memory_word riding carrying m word =
      slice_index (block_words riding carrying m (word / BLOCK_WORDS)) (word % BLOCK_WORDS)

  -- a block's words are at hand, by its stage at the home: the core that owns it is there, and its cache
  -- holds the block
  abbrev pub at_hand_in : Stage → Riding R → Carrying K → Memory R K → ℕ → Bool
  at_hand_in (Owned owner) riding carrying m block =
      nat_lt owner (length m.ports)
      && can_read (line_for riding.fresh (port_at carrying m.ports owner).cache block) block
  at_hand_in stage riding carrying m block = true

  abbrev pub at_hand : Riding R → Carrying K → Memory R K → ℕ → Bool
  at_hand riding carrying m block = at_hand_in (entry_at riding.fresh m.home block).stage riding carrying m block
