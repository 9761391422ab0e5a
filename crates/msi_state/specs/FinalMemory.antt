-- Rule: the final memory: final_word
-- The memory that a state has: for each block the owner's words where a cache owns it, and the home's
-- elsewhere.
use Rattle.std.specs.Prelude.{ℕ, List, map}
use Rattle.std.specs.List.{range_with_len}
use Rattle.access_times.specs.Riding.{Riding, Carrying}
use Rattle.msi_memory.specs.Finals.{block_words, memory_word}
use Rattle.msi_state.specs.States.{State}

module _ {R K : Type 0} where
  -- a block's words
  abbrev pub final_words : Riding R → Carrying K → State R K → ℕ → List ℕ
  final_words riding carrying s block = block_words riding carrying s.memory block

  -- a word of the memory, by its index
  abbrev pub final_word : Riding R → Carrying K → State R K → ℕ → ℕ
  final_word riding carrying s word = memory_word riding carrying s.memory word

  -- all words of the memory, by index
  abbrev pub final_memory : Riding R → Carrying K → State R K → List ℕ
  final_memory riding carrying s = map (final_word riding carrying s) (range_with_len 0 s.image.words)
