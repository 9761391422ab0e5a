-- A range is filled from its first address on.
use Rattle.std.proofs.Common.{◌≡◌, ◌≢◌, inl, inr, ℕ, ◌+◌, ◌<◌, ◌≤◌, true, false, List, length, set, refl, ◌∙◌, arith}
use Rattle.std.proofs.Common.{Some, None}
use Rattle.std.specs.Prelude.{Option, ◌&&◌, nat_le, nat_lt, if◌then◌else◌}
use Rattle.std.proofs.lemmas.Bool.Decides.{nat_tests}
use Rattle.std.proofs.lemmas.List.{length-set, get_or-set_same, get_or-set_other}
use Rattle.std.proofs.lemmas.Bool.{cases_eq}
use Rattle.image_elf.specs.declared.program_header.ProgramHeader.{ProgramHeader}
use Rattle.image_elf.specs.Headers.{has, is_loaded, range_end}
use Rattle.image_elf.specs.FlatImage.{range_byte}
use Rattle.image_elf.specs.Cells.{cell, LoadsInto}

-- the header's bytes stand at the addresses of its range below the next one, and what stood elsewhere still does
pub record FilledUpTo (file : List ℕ) (h : ProgramHeader) (old new : List (Option ℕ)) (next : ℕ) : Type 0 where
  pub length : length new ≡ length old
  pub cells : (address : ℕ)
      → cell new address ≡ (if nat_le h.vaddr address && nat_lt address next then Some (range_byte file h address) else
      cell old address)

nothing_filled : (a next : ℕ) → (nat_le next a && nat_lt a next) ≡ false
nothing_filled a next = grind (arith, nat_tests)

pub fill_none : (file : List ℕ) (h : ProgramHeader) (cells : List (Option ℕ)) → FilledUpTo file h cells cells h.vaddr
fill_none file h cells = record {
  length = refl;
  cells = λ address. rw (nothing_filled address h.vaddr) refl;
}

filled_here : (first a : ℕ) → first ≤ a → (nat_le first a && nat_lt a (a + 1)) ≡ true
filled_here first a h = grind (arith, nat_tests)

filled_elsewhere : (first next a : ℕ) → a ≢ next →
    (nat_le first a && nat_lt a (next + 1)) ≡ (nat_le first a && nat_lt a next)
filled_elsewhere first next a h = grind (arith, nat_tests)

pub fill_more : (file : List ℕ) (h : ProgramHeader) (old new : List (Option ℕ)) (next : ℕ)
    → FilledUpTo file h old new next → h.vaddr ≤ next → next < length new
    → FilledUpTo file h old (set new next (Some (range_byte file h next))) (next + 1)
fill_more file h old new next filled from there = record {
  length = length-set new next (Some (range_byte file h next)) ∙ filled.length;
  cells = λ address. elim (cases_eq address next) [
    | inl same ↦ rw (same, filled_here h.vaddr next from) (get_or-set_same new next (Some (range_byte file h next)) None
        there)
    | inr other ↦
        rw (filled_elsewhere h.vaddr next address other)
        (get_or-set_other new next address (Some (range_byte file h next)) None other ∙ filled.cells address)
  ];
}

whole_range : (h : ProgramHeader) (a : ℕ) → is_loaded h ≡ true → has h a ≡ (nat_le h.vaddr a && nat_lt a (range_end h))
whole_range h a loaded = rw loaded refl

-- the whole range is filled over what was there before more cells were added
pub fill_all : (file : List ℕ) (h : ProgramHeader) (old grown new : List (Option ℕ)) → is_loaded h ≡ true
    → ((address : ℕ) → cell grown address ≡ cell old address) → FilledUpTo file h grown new (range_end h) →
    LoadsInto file h old new
fill_all file h old grown new loaded same filled =
    λ address. rw (whole_range h address loaded, ← same address) (filled.cells address)
