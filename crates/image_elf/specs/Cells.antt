-- Memory while it is loaded: a cell for each address, with the byte that was loaded there, if one was.
use Rattle.std.specs.Prelude.{◌≡◌, ℕ, ◌<◌, ◌≤◌, if◌then◌else◌, List, length, Option, Some, None, slice_index_or}
use Rattle.std.specs.Prelude.{is_some, IsTrue}
use Rattle.image_elf.specs.declared.program_header.ProgramHeader.{ProgramHeader}
use Rattle.image_elf.specs.Headers.{has}
use Rattle.image_elf.specs.FlatImage.{range_byte, loaded_byte, loaded_length}

-- what stands at an address
abbrev pub cell : List (Option ℕ) → ℕ → Option ℕ
cell cells address = slice_index_or cells address None

-- nothing stands from the first address up to the end
abbrev pub IsFree : List (Option ℕ) → (first end : ℕ) → Type 0
IsFree cells first end = (address : ℕ) → first ≤ address → address < end → cell cells address ≡ None

-- something does
pub record HasSome (cells : List (Option ℕ)) (first end : ℕ) : Type 0 where
  pub address : ℕ
  pub after : first ≤ address
  pub before : address < end
  pub there : IsTrue (is_some (cell cells address))

-- the same stands at each address
abbrev pub HaveSame : (old new : List (Option ℕ)) → Type 0
HaveSame old new = (address : ℕ) → cell new address ≡ cell old address

-- the bytes of the header's range were added, and nothing else
abbrev pub LoadsInto : List ℕ → ProgramHeader → (old new : List (Option ℕ)) → Type 0
LoadsInto file h old new =
    (address : ℕ) → cell new address ≡ (if has h address then Some (range_byte file h address) else cell old address)

-- the first n headers are loaded
pub record HoldFirst (file : List ℕ) (n : ℕ) (cells : List (Option ℕ)) : Type 0 where
  pub bytes : (address : ℕ) → cell cells address ≡ loaded_byte file n address
  pub length : length cells ≡ loaded_length file n
