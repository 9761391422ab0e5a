-- What the tests of headers come to.
use Rattle.std.specs.Prelude.{◌≡◌, ◌↔◌, ℕ, ◌*◌, ◌<◌, ◌≤◌, true, IsTrue, List, length, Some, None}
use Rattle.image_elf.specs.declared.elf_fault.ElfFault.{ElfFault}
use Rattle.image_elf.specs.Headers.{header, has}
use Rattle.image_elf.specs.FlatImage.{flat_image}
use Rattle.image_elf.specs.Cases.{IsFlatImage}
use Rattle.image_elf.specs.Faults.{elf_fault, first_header_fault, header_fault, is_taken}

-- an address from the first one up to the end that the range of a loaded header, one of the first n, has
pub record HasAddress (file : List ℕ) (n first end : ℕ) : Type 0 where
  pub number : ℕ
  pub address : ℕ
  pub there : number < n
  pub has : IsTrue (has (header file number) address)
  pub after : first ≤ address
  pub before : address < end

-- the ends of ranges tell whether there is one
abbrev pub TakenLaw : Type 0
TakenLaw = (file : List ℕ) (n first end : ℕ) → (is_taken file n first end ≡ true) ↔ HasAddress file n first end

-- the header, one of the first n, that has this fault, and before which none has one
pub record IsFirstFault (file : List ℕ) (words n : ℕ) (fault : ElfFault) : Type 0 where
  pub number : ℕ
  pub there : number < n
  pub faulty : header_fault file words number ≡ Some fault
  pub earlier : (k : ℕ) → k < number → header_fault file words k ≡ None

-- the first fault is that of the first faulty header
abbrev pub FirstFaultLaw : Type 0
FirstFaultLaw = (file : List ℕ) (words n : ℕ) (fault : ElfFault)
    → (first_header_fault file words n ≡ Some fault) ↔ IsFirstFault file words n fault

-- the flat image of a file without a fault is one, and the memory has room for it
abbrev pub FlatImageLaw : Type 0
FlatImageLaw = (file : List ℕ) (words : ℕ) → elf_fault file words ≡ None
    → IsFlatImage file (flat_image file) × (length (flat_image file) ≤ 4 * words)
