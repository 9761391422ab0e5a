-- The headers of an ELF32 file, by the Tool Interface Standard's ELF specification, version 1.2, and the
-- RISC-V ELF psABI. Only the fields that matter here are named.
use Rattle.std.specs.Prelude.{ℕ, ◌+◌, ◌*◌, Bool, ◌&&◌, ◌||◌, ◌==◌, not, nat_le, nat_lt, min, max, List, length}
use Rattle.std.specs.Prelude.{slice_index}
use Rattle.image_elf.specs.declared.program_header.ProgramHeader.{ProgramHeader}
use Rattle.image_elf.specs.Fields.{half_at, word_at}

-- e_entry: where the program begins
abbrev pub entry : List ℕ → ℕ
entry file = word_at file 24

-- e_phoff: where the table of program headers begins in the file
abbrev pub table_start : List ℕ → ℕ
table_start file = word_at file 28

-- e_phnum: how many program headers the table has
abbrev pub header_count : List ℕ → ℕ
header_count file = half_at file 44

-- the whole file header is there, and begins with 7f 45 4c 46
abbrev pub is_elf : List ℕ → Bool
is_elf file = nat_le 52 (length file) && word_at file 0 == 0x464C457F

-- ELFCLASS32, ELFDATA2LSB and EV_CURRENT in e_ident
abbrev pub is_little_32 : List ℕ → Bool
is_little_32 file = slice_index file 4 == 1 && slice_index file 5 == 1 && slice_index file 6 == 1

-- e_type is ET_EXEC, e_machine EM_RISCV, and e_version EV_CURRENT
abbrev pub is_program : List ℕ → Bool
is_program file = half_at file 16 == 2 && half_at file 18 == 243 && word_at file 20 == 1

-- 65,535 stands for a count that is kept elsewhere. A table that isn't empty has headers of 32 bytes, and ends
-- within the file.
abbrev pub has_table : List ℕ → Bool
has_table file =
    not (header_count file == 65535)
    && (header_count file == 0
    || half_at file 42 == 32 && nat_le (table_start file + 32 * header_count file) (length file))

abbrev pub accepts_header : List ℕ → Bool
accepts_header file = is_little_32 file && is_program file && has_table file

-- the program header at an address: p_type, p_offset, p_vaddr, p_filesz, p_memsz
abbrev pub header_at : List ℕ → ℕ → ProgramHeader
header_at file address = record {
  kind = word_at file address;
  offset = word_at file (address + 4);
  vaddr = word_at file (address + 8);
  filesz = word_at file (address + 16);
  memsz = word_at file (address + 20);
}

-- the program header of this number in the table, from 0, whatever its type
unfoldable pub header : List ℕ → ℕ → ProgramHeader
header file number = header_at file (table_start file + 32 * number)

-- PT_LOAD
abbrev pub is_loaded : ProgramHeader → Bool
is_loaded h = h.kind == 1

-- where the header's range of addresses ends: it begins at vaddr and has memsz bytes
abbrev pub range_end : ProgramHeader → ℕ
range_end h = h.vaddr + h.memsz

-- the header is loaded, and its range has the address
abbrev pub has : ProgramHeader → ℕ → Bool
has h address = is_loaded h && nat_le h.vaddr address && nat_lt address (range_end h)

-- the header is loaded, and its range has an address from the first one up to the end
abbrev pub has_some : ProgramHeader → (first end : ℕ) → Bool
has_some h first end = is_loaded h && nat_lt (max h.vaddr first) (min (range_end h) end)
