-- The bytes of a core file: an ELF file of 32 bits, lowest byte first, for RISC-V, with a segment of notes, one for
-- each core, and a segment of memory that begins at address 0. All of it is words.
use Rattle.std.specs.Prelude.{ℕ, ◌+◌, ◌*◌, List, [], ◌∷◌, ◌++◌, length, drop, take, replicate, slice_index_or}
use Rattle.std.specs.Int.{to_le_bytes, w32}
use Rattle.std.specs.List.{flat_map}
use Rattle.rv_core.specs.declared.core_state.Core.{Core}
use Rattle.rv_core.specs.declared.outcome.Outcome.{Outcome}
use Rattle.rv_core.specs.States.{starting}

-- the bytes of words, lowest first
abbrev pub spelled : List ℕ → List ℕ
spelled words = flat_map (to_le_bytes w32) words

-- the header: the magic number and what it says of words and bytes (0x7f454c46 01 01 01 00, then zeros), a core file
-- (4) for RISC-V (243) in version 1, no entry, the two program headers behind these 52 bytes, no sections, no flags,
-- and the sizes of this header (52) and of a program header (32), of which there are 2
abbrev pub header : List ℕ
header =
    1179403647 ∷ 65793 ∷ 0 ∷ 0 ∷ 15925252 ∷ 1 ∷ 0 ∷ 52 ∷ 0 ∷ 0 ∷ 2097204 ∷ 2 ∷ 0 ∷ []

-- how many bytes a core's note has
abbrev pub note_bytes : ℕ
note_bytes = 224

-- the segment of notes (4), at byte 116, with its size, to be read, at words
abbrev pub notes_segment : (cores : ℕ) → List ℕ
notes_segment cores = 4 ∷ 116 ∷ 0 ∷ 0 ∷ (cores * note_bytes) ∷ 0 ∷ 4 ∷ 4 ∷ []

-- the segment of memory (1), behind the notes, at address 0, with its size in the file and in memory, to be read,
-- written and executed, at words
abbrev pub memory_segment : (cores words : ℕ) → List ℕ
memory_segment cores words =
    1 ∷ (116 + cores * note_bytes) ∷ 0 ∷ 0 ∷ (words * 4) ∷ (words * 4) ∷ 7 ∷ 4 ∷ []

-- a core's note: its name has 5 bytes, its status 204, its kind is 1 (a thread's status), and the name is CORE. The
-- status has the signal of a trap (5) at bytes 0 and 12, the thread at byte 24, and from byte 72 on pc and x1 to x31
abbrev pub note_of : Core → List ℕ
note_of core =
    5 ∷ 204 ∷ 1 ∷ 1163022147 ∷ 0 ∷ 5 ∷ 0 ∷ 0 ∷ 5 ∷ 0 ∷ 0 ∷ (core.id + 1) ∷ replicate 11 0
    ++ (core.pc ∷ (take 31 (drop 1 core.registers) ++ 0 ∷ []))

abbrev pub notes_of : List Core → List ℕ
notes_of cores = flat_map note_of cores

-- the cores, the one in front that the debugger is to look at first
abbrev pub in_front : (first : ℕ) → List Core → List Core
in_front first cores = slice_index_or cores first (starting 0 0) ∷ (take first cores ++ drop (first + 1) cores)

-- the whole file, as words
abbrev pub core_words : (first : ℕ) → Outcome → List ℕ
core_words first outcome =
    header ++ (notes_segment (length outcome.cores) ++ (memory_segment (length outcome.cores) (length outcome.words)
    ++ (notes_of (in_front first outcome.cores) ++ outcome.words)))

-- and as bytes
abbrev pub core_bytes_of : (first : ℕ) → Outcome → List ℕ
core_bytes_of first outcome = spelled (core_words first outcome)
