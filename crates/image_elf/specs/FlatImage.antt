-- Rule: the flat image of an ELF file: flat_image
-- The flat image of an ELF file: the bytes from address 0 on that its segments, and a jump to its entry, make up.
use Rattle.std.specs.Prelude.{ℕ, zero, suc, pos, ◌+◌, ◌-◌, ◌&&◌, ◌==◌}
use Rattle.std.specs.Prelude.{not, nat_lt, max, if◌then◌else◌, List, map, slice_index, Option, Some, None, unwrap_or}
use Rattle.std.specs.Int.{to_le_bytes, w32}
use Rattle.std.specs.List.{range_with_len}
use Rattle.rv_decode.specs.declared.op.Op.TheVariants.{Jal}
use Rattle.rv_decode.specs.Words.{encoding}
use Rattle.image_elf.specs.declared.program_header.ProgramHeader.{ProgramHeader}
use Rattle.image_elf.specs.Headers.{entry, header_count, header, is_loaded, range_end, has}

-- the byte of a header's range at an address: the file's in the first filesz bytes, and 0 in the others
abbrev pub range_byte : List ℕ → ProgramHeader → ℕ → ℕ
range_byte file h address =
    if nat_lt (address - h.vaddr) h.filesz then slice_index file (h.offset + (address - h.vaddr)) else 0

-- what is loaded at an address, by the one of the first n headers whose range has it, if one has
abbrev pub loaded_byte : List ℕ → (n address : ℕ) → Option ℕ
loaded_byte file zero address = None
loaded_byte file (suc n) address =
    if has (header file n) address then Some (range_byte file (header file n) address) else loaded_byte file n address

-- the end of a loaded range that isn't empty, and 0 of every other header
abbrev pub loaded_end : ProgramHeader → ℕ
loaded_end h = if is_loaded h && not (h.memsz == 0) then range_end h else 0

-- the greatest such end of the first n headers
abbrev pub loaded_length : List ℕ → ℕ → ℕ
loaded_length file zero = 0
loaded_length file (suc n) = max (loaded_end (header file n)) (loaded_length file n)

-- the word of JAL x0 from address 0 to the entry
unfoldable pub jump_word : List ℕ → ℕ
jump_word file = encoding (Jal 0 (pos (entry file)))

-- how many bytes the jump takes: none where the entry is 0, since each core starts there
abbrev pub jump_length : List ℕ → ℕ
jump_length file = if entry file == 0 then 0 else 4

unfoldable pub flat_length : List ℕ → ℕ
flat_length file = max (jump_length file) (loaded_length file (header_count file))

unfoldable pub flat_byte : List ℕ → ℕ → ℕ
flat_byte file address =
    if nat_lt address (jump_length file) then slice_index (to_le_bytes w32 (jump_word file)) address
    else unwrap_or (loaded_byte file (header_count file) address) 0

-- the flat image of a file without a fault
abbrev pub flat_image : List ℕ → List ℕ
flat_image file = map (flat_byte file) (range_with_len 0 (flat_length file))
