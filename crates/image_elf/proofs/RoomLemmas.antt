-- The memory has room for the flat image.
use Rattle.std.proofs.Common.{◌≡◌, ℕ, ◌*◌, ◌<◌, ◌≤◌, Bool, true, false, List, length, arith, refl, None}
use Rattle.std.proofs.lemmas.Bool.Decides.{nat_tests}
use Rattle.image_elf.specs.declared.program_header.ProgramHeader.{ProgramHeader}
use Rattle.image_elf.specs.Headers.{entry, has, header, header_count, is_loaded}
use Rattle.image_elf.specs.FlatImage.{flat_image}
use Rattle.image_elf.specs.Faults.{elf_fault, header_fault, is_within_memory}
use Rattle.image_elf.specs.Cases.{EndsBy}
use Rattle.image_elf.proofs.CaseLemmas.{no_fault_below, has_loaded}
use Rattle.image_elf.proofs.FlatLemmas.{is_flat_image, passes}

-- an address of a range that ends within the memory
has_within : (words : ℕ) (h : ProgramHeader) (address : ℕ) → is_within_memory words h ≡ true → has h address ≡ true →
    address < 4 * words
has_within words h address within e = grind (arith, nat_tests)

outside_fault : (file : List ℕ) (words n : ℕ) → is_loaded (header file n) ≡ true →
    is_within_memory words (header file n) ≡ false
    → header_fault file words n ≡ None → ⊥
outside_fault file words n loaded outside none = grind (arith, nat_tests)

ends_by : (file : List ℕ) (words n address : ℕ) → header_fault file words n ≡ None → has (header file n) address ≡ true
    → (b : Bool) → is_within_memory words (header file n) ≡ b → address < 4 * words
ends_by file words n address none e true within = has_within words (header file n) address within e
ends_by file words n address none e false outside =
    absurd (outside_fault file words n (has_loaded (header file n) address e) outside none)

entry_within : (file : List ℕ) (words : ℕ) → elf_fault file words ≡ None → entry file < 4 * words
unfolding elf_fault
entry_within file words e = grind (arith, nat_tests)

memory_holds : (file : List ℕ) (words : ℕ) → elf_fault file words ≡ None → EndsBy file (4 * words)
memory_holds file words e = record {
  loaded = λ number address l.
      ends_by file words number address
      (no_fault_below file words (header_count file) (passes file words e).headers number l.there)
      l.has (is_within_memory words (header file number)) refl;
  jump = λ begins. let within = entry_within file words e in omega arith;
}

pub flat_image_fits : (file : List ℕ) (words : ℕ) → elf_fault file words ≡ None → length (flat_image file) ≤ 4 * words
flat_image_fits file words e = (is_flat_image file words e).least (4 * words) (memory_holds file words e)
