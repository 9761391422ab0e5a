-- That a machine's copies have the words of a memory, and what moves make of that memory.
use Rattle.std.specs.Prelude.{◌≡◌, ℕ, ◌+◌, ◌*◌, ◌/◌, ◌%◌, ◌==◌, Bool, false, ◌&&◌, List, [], ◌∷◌, length, slice_index}
use Rattle.std.specs.Prelude.{if◌then◌else◌}
use Rattle.access_times.specs.Riding.{Riding, Carrying}
use Rattle.rtr_types.specs.declared.TheConstants.{BLOCK_WORDS}
use Rattle.image_mem.specs.Contents.{Contents, opening_word}
use Rattle.rtr_types.specs.Accesses.{is_write}
use Rattle.msi_laws.specs.Words.{HaveWords, memory_by}
use Rattle.msi_state.specs.States.{State}
use Rattle.msi_state.specs.Events.{Event, Accesses}

module _ {R K : Type 0} where
  -- the copies of each block that count have the memory's words; the memory gives each block's words
  abbrev pub Coherent : Riding R → Carrying K → State R K → (ℕ → List ℕ) → Type 0
  Coherent riding carrying s memory = HaveWords riding carrying s.memory memory

-- the memory after an event
abbrev pub memory_after : Event → (ℕ → List ℕ) → ℕ → List ℕ
memory_after (Accesses a) memory = memory_by (a.word / BLOCK_WORDS) (a.word % BLOCK_WORDS) a.kind a.after memory
memory_after _ memory = memory

-- the word of a memory, by its index
abbrev pub word_of : (ℕ → List ℕ) → ℕ → ℕ
word_of memory word = slice_index (memory (word / BLOCK_WORDS)) (word % BLOCK_WORDS)

-- an access finds the memory's word
abbrev pub Finds : Event → (ℕ → List ℕ) → Type 0
Finds (Accesses a) memory = a.before ≡ word_of memory a.word
Finds _ memory = Unit {0}

-- the memory at the start: each block as the image has it
abbrev pub opening_memory : Contents → ℕ → List ℕ
opening_memory image b =
    opening_word image (b * BLOCK_WORDS)
    ∷ opening_word image (b * BLOCK_WORDS + 1)
    ∷ opening_word image (b * BLOCK_WORDS + 2)
    ∷ opening_word image (b * BLOCK_WORDS + 3)
    ∷ []

-- each block has its words
abbrev pub WordsFit : (ℕ → List ℕ) → Type 0
WordsFit memory = (b : ℕ) → length (memory b) ≡ BLOCK_WORDS

-- the event writes the word
abbrev pub writes_to : Event → ℕ → Bool
writes_to (Accesses a) word = is_write a.kind && (a.word == word)
writes_to _ word = false

-- the value that an event's write leaves
abbrev pub value_after : Event → ℕ
value_after (Accesses a) = a.after
value_after _ = 0

-- a word is what the last write to it left
abbrev pub LastWrite : Type 0
LastWrite =
    (e : Event) (memory : ℕ → List ℕ) → WordsFit memory
    → let left = memory_after e memory in
    WordsFit left
    × ((word : ℕ) → word_of left word ≡ (if writes_to e word then value_after e else word_of memory word))
