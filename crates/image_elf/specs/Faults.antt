-- Rule: the faults of an ELF file, and the first: elf_fault
-- What can be wrong with an ELF file for a memory of a number of words, each fault exactly where it comes.
use Rattle.std.specs.Prelude.{ℕ, zero, suc, ◌+◌, ◌*◌, ◌%◌, Bool, false, ◌&&◌, ◌||◌, ◌==◌, not, nat_le, nat_lt}
use Rattle.std.specs.Prelude.{if◌then◌else◌, List, length, Option, Some, None}
use Rattle.std.specs.Option.{option_or}
use Rattle.image_elf.specs.declared.elf_fault.ElfFault.{ElfFault}
use Rattle.image_elf.specs.declared.elf_fault.ElfFault.TheVariants.{NotElf, Header, Segment, Outside, Overlap, Entry}
use Rattle.image_elf.specs.declared.program_header.ProgramHeader.{ProgramHeader}
use Rattle.image_elf.specs.Headers.{entry, header_count, header, is_elf, accepts_header, is_loaded, range_end, has_some}

-- some number below n passes the test
abbrev pub some_below : (ℕ → Bool) → ℕ → Bool
some_below test zero = false
some_below test (suc n) = test n || some_below test n

-- the range has at least as many bytes as the file gives it, and the file has those
abbrev pub is_within_file : List ℕ → ProgramHeader → Bool
is_within_file file h = nat_le h.filesz h.memsz && nat_le (h.offset + h.filesz) (length file)

-- the range ends within the memory; an empty one may stand anywhere
abbrev pub is_within_memory : ℕ → ProgramHeader → Bool
is_within_memory words h = h.memsz == 0 || nat_le (range_end h) (4 * words)

-- some loaded range of the first n headers has an address from the first one up to the end
abbrev pub is_taken : List ℕ → (n first end : ℕ) → Bool
is_taken file n first end = some_below (λ number. has_some (header file number) first end) n

-- what is wrong with the header of this number. A range overlaps where it shares a byte with an earlier one.
abbrev pub header_fault : List ℕ → (words number : ℕ) → Option ElfFault
header_fault file words number =
    if not (is_loaded h) then None
    else if not (is_within_file file h) then Some (Segment number)
    else if not (is_within_memory words h) then Some (Outside number)
    else if is_taken file number h.vaddr (range_end h) then Some (Overlap number)
    else None
  where
    h : ProgramHeader
    h = header file number

-- what is wrong with the first faulty one of the first n headers
abbrev pub first_header_fault : List ℕ → (words n : ℕ) → Option ElfFault
first_header_fault file words zero = None
first_header_fault file words (suc n) = option_or (first_header_fault file words n) (header_fault file words n)

-- a core fetches at the entry, which is in the memory. Where it isn't 0, the jump to it takes the first four bytes,
-- so no range may have one of them.
abbrev pub accepts_entry : List ℕ → ℕ → Bool
accepts_entry file words =
    entry file % 4 == 0
    && nat_lt (entry file) (4 * words)
    && (entry file == 0 || not (is_taken file (header_count file) 0 4))

-- what is wrong with the file: the first fault in this order
unfoldable pub elf_fault : List ℕ → ℕ → Option ElfFault
elf_fault file words =
    if not (is_elf file) then Some NotElf
    else if not (accepts_header file) then Some Header
    else option_or
    (first_header_fault file words (header_count file))
    (if accepts_entry file words then None else Some Entry)
