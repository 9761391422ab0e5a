-- Whether a loaded range has an address is whether something is loaded there.
use Rattle.std.proofs.Common.{◌≡◌, ℕ, zero, suc, ◌<◌, ◌≤◌, Bool, true, false, IsTrue, List, refl, arith, None}
use Rattle.std.specs.Prelude.{max, is_some}
use Rattle.std.proofs.Math.Nat.{le-max_right}
use Rattle.std.proofs.lemmas.Bool.Decides.{nat_tests}
use Rattle.std.proofs.lemmas.Bool.{or_left, or_right}
use Rattle.image_elf.specs.declared.program_header.ProgramHeader.{ProgramHeader}
use Rattle.image_elf.specs.Headers.{header, has, has_some}
use Rattle.image_elf.specs.FlatImage.{loaded_byte}
use Rattle.image_elf.specs.Faults.{is_taken}

-- a range that has an address between two others
pub has_some_at : (h : ProgramHeader) (first end address : ℕ) → first ≤ address → address < end → has h address ≡ true →
    has_some h first end ≡ true
has_some_at h first end address after before t = grind (arith, nat_tests)

-- the first address that it has there
pub has_first : (h : ProgramHeader) (first end : ℕ) → has_some h first end ≡ true → has h (max h.vaddr first) ≡ true
has_first h first end t = grind (arith, nat_tests)

pub first_before : (h : ProgramHeader) (first end : ℕ) → has_some h first end ≡ true → max h.vaddr first < end
first_before h first end t = grind (arith, nat_tests)

taken_by : (file : List ℕ) (n first end address : ℕ) → first ≤ address → address < end
    → (IsTrue (is_some (loaded_byte file n address)) → is_taken file n first end ≡ true)
    → (b : Bool) → has (header file n) address ≡ b
    → IsTrue (is_some (loaded_byte file (suc n) address)) → is_taken file (suc n) first end ≡ true
taken_by file n first end address after before earlier true e there =
    or_left _ _ (has_some_at (header file n) first end address after before e)
taken_by file n first end address after before earlier false e there =
    or_right (has_some (header file n) first end) _ (earlier (rw e at there))

-- where something is loaded, a range is
pub taken : (file : List ℕ) (n first end address : ℕ) → first ≤ address → address < end
    → IsTrue (is_some (loaded_byte file n address)) → is_taken file n first end ≡ true
taken file zero first end address after before there = absurd (grind arith)
taken file (suc n) first end address after before there =
    taken_by file n first end address after before (taken file n first end address after before)
    (has (header file n) address) refl there

-- nothing is loaded from the first address up to the end
abbrev IsFreeBelow : List ℕ → (n first end : ℕ) → Type 0
IsFreeBelow file n first end = (address : ℕ) → first ≤ address → address < end → loaded_byte file n address ≡ None

earlier_none : (file : List ℕ) (n address : ℕ) (b : Bool) → has (header file n) address ≡ b
    → loaded_byte file (suc n) address ≡ None → loaded_byte file n address ≡ None
earlier_none file n address true e none = absurd (let k = rw e at none in cc)
earlier_none file n address false e none = rw e at none

none_has : (file : List ℕ) (n address : ℕ) → loaded_byte file (suc n) address ≡ None →
    has (header file n) address ≡ true → ⊥
none_has file n address none e = let k = rw e at none in cc

free_by : (file : List ℕ) (n first end : ℕ) → IsFreeBelow file (suc n) first end → is_taken file n first end ≡ false
    → (b : Bool) → has_some (header file n) first end ≡ b → is_taken file (suc n) first end ≡ false
free_by file n first end none earlier true e =
    let h = header file n in
    absurd (none_has file n (max h.vaddr first)
    (none (max h.vaddr first) (le-max_right h.vaddr first) (first_before h first end e))
    (has_first h first end e))
free_by file n first end none earlier false e = rw e earlier

-- where nothing is, none is
pub free : (file : List ℕ) (n first end : ℕ) → IsFreeBelow file n first end → is_taken file n first end ≡ false
free file zero first end none = refl
free file (suc n) first end none =
    free_by file n first end none
    (free file n first end (λ address after before. earlier_none file n address (has (header file n) address) refl
    (none address after before)))
    (has_some (header file n) first end) refl
