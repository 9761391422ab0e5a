-- What a flat image is, byte by byte: what its segments, its jump and nothing at all give.
use Rattle.std.specs.Prelude.{◌≡◌, ◌≢◌, ℕ, ◌<◌, ◌≤◌, IsTrue, List, length, slice_index}
use Rattle.std.specs.Int.{to_le_bytes, w32}
use Rattle.image_elf.specs.Headers.{entry, header_count, header, has}
use Rattle.image_elf.specs.FlatImage.{jump_word, range_byte}

-- a loaded header of this number has the address in its range
pub record IsLoadedBy (file : List ℕ) (number address : ℕ) : Type 0 where
  pub there : number < header_count file
  pub has : IsTrue (has (header file number) address)

-- every byte that the file loads, and the jump, has an address below n
pub record EndsBy (file : List ℕ) (n : ℕ) : Type 0 where
  pub loaded : (number address : ℕ) → IsLoadedBy file number address → address < n
  pub jump : entry file ≢ 0 → 4 ≤ n

pub record IsFlatImage (file image : List ℕ) : Type 0 where
  -- it ends with the last of these bytes
  pub ends : EndsBy file (length image)
  pub least : (n : ℕ) → EndsBy file n → length image ≤ n
  -- each range has its bytes
  pub loaded : (number address : ℕ) → IsLoadedBy file number address
      → slice_index image address ≡ range_byte file (header file number) address
  -- where the entry isn't 0, the first four bytes are the jump to it
  pub jump : entry file ≢ 0 → (address : ℕ) → address < 4
      → slice_index image address ≡ slice_index (to_le_bytes w32 (jump_word file)) address
  -- every other byte is 0
  pub empty : (address : ℕ) → ((number : ℕ) → IsLoadedBy file number address → ⊥) → (entry file ≢ 0 → 4 ≤ address)
      → slice_index image address ≡ 0
