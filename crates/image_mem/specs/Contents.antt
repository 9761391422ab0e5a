-- What an image is to contracts, and the words that it holds.
use Rattle.std.specs.Prelude.{ℕ, ◌+◌, ◌*◌, ◌%◌, ◌&&◌, ◌==◌, nat_le, if◌then◌else◌, List, length, map, Option, Some}
use Rattle.std.specs.Prelude.{None}
use Rattle.std.specs.List.{range_with_len}
use Rattle.byteorder.specs.Endian.{little_from}

-- the bytes that were loaded at address 0, and the number of words of the memory
pub record Contents : Type 0 where
  pub bytes : List ℕ
  pub words : ℕ

-- the number that the four bytes from an address spell, the lowest byte first; a byte past the end is 0
abbrev pub word_from : List ℕ → ℕ → ℕ
word_from bytes address = little_from address 4 bytes

-- the instruction word at pc: there where pc is a multiple of 4 and all four bytes are the image's
unfoldable pub fetched : Contents → ℕ → Option ℕ
fetched image pc =
    if pc % 4 == 0 && nat_le (pc + 4) (length image.bytes) then Some (word_from image.bytes pc) else None

-- what a word of the memory holds at the start, by the word's index
unfoldable pub opening_word : Contents → ℕ → ℕ
opening_word image word = word_from image.bytes (4 * word)

-- the memory at the start
abbrev pub opening_words : Contents → List ℕ
opening_words image = map (opening_word image) (range_with_len 0 image.words)
