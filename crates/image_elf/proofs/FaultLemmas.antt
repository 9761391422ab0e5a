-- What is wrong with a header, by the tests that it passes and fails.
use Rattle.std.proofs.Common.{◌≡◌, ℕ, true, false, List, refl, Some, None}
use Rattle.image_elf.specs.declared.elf_fault.ElfFault.{ElfFault}
use Rattle.image_elf.specs.declared.elf_fault.ElfFault.TheVariants.{NotElf, Header, Segment, Outside, Overlap, Entry}
use Rattle.image_elf.specs.Headers.{accepts_header, header, header_count, is_elf, is_loaded, range_end}
use Rattle.image_elf.specs.Faults.{accepts_entry, elf_fault, first_header_fault, header_fault, is_taken, is_within_file}
use Rattle.image_elf.specs.Faults.{is_within_memory}

module _ (file : List ℕ) (words n : ℕ) where
  pub other_type : is_loaded (header file n) ≡ false → header_fault file words n ≡ None
  other_type e = rw e refl

  pub bad_segment : is_loaded (header file n) ≡ true → is_within_file file (header file n) ≡ false
      → header_fault file words n ≡ Some (Segment n)
  bad_segment a b = rw (a, b) refl

  pub bad_place : is_loaded (header file n) ≡ true → is_within_file file (header file n) ≡ true
      → is_within_memory words (header file n) ≡ false → header_fault file words n ≡ Some (Outside n)
  bad_place a b c = rw (a, b, c) refl

  pub bad_overlap : is_loaded (header file n) ≡ true → is_within_file file (header file n) ≡ true
      → is_within_memory words (header file n) ≡ true
      → is_taken file n (header file n).vaddr (range_end (header file n)) ≡ true →
      header_fault file words n ≡ Some (Overlap n)
  bad_overlap a b c d = rw (a, b, c, d) refl

  pub no_fault : is_loaded (header file n) ≡ true → is_within_file file (header file n) ≡ true
      → is_within_memory words (header file n) ≡ true
      → is_taken file n (header file n).vaddr (range_end (header file n)) ≡ false → header_fault file words n ≡ None
  no_fault a b c d = rw (a, b, c, d) refl

module _ (file : List ℕ) (words : ℕ) where
  pub not_elf : is_elf file ≡ false → elf_fault file words ≡ Some NotElf
  unfolding elf_fault
  not_elf a = rw a refl

  pub bad_header : is_elf file ≡ true → accepts_header file ≡ false → elf_fault file words ≡ Some Header
  unfolding elf_fault
  bad_header a b = rw (a, b) refl

  pub bad_headers : (fault : ElfFault) → is_elf file ≡ true → accepts_header file ≡ true
      → first_header_fault file words (header_count file) ≡ Some fault → elf_fault file words ≡ Some fault
  unfolding elf_fault
  bad_headers fault a b c = rw (a, b, c) refl

  pub bad_entry : is_elf file ≡ true → accepts_header file ≡ true
      → first_header_fault file words (header_count file) ≡ None → accepts_entry file words ≡ false →
      elf_fault file words ≡ Some Entry
  unfolding elf_fault
  bad_entry a b c d = rw (a, b, c, d) refl

  pub no_fault_at_all : is_elf file ≡ true → accepts_header file ≡ true
      → first_header_fault file words (header_count file) ≡ None → accepts_entry file words ≡ true →
      elf_fault file words ≡ None
  unfolding elf_fault
  no_fault_at_all a b c d = rw (a, b, c, d) refl
