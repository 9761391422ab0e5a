-- Fields of a file: little-endian numbers at an address, the file's first byte having address 0.
use Rattle.std.specs.Prelude.{ℕ, List}
use Rattle.byteorder.specs.Endian.{little_from}

-- 16 bits: Elf32_Half
unfoldable pub half_at : List ℕ → ℕ → ℕ
half_at file address = little_from address 2 file

-- 32 bits: Elf32_Word, Elf32_Addr and Elf32_Off
unfoldable pub word_at : List ℕ → ℕ → ℕ
word_at file address = little_from address 4 file
