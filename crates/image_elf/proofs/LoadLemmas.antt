-- One more header is loaded, or is not to be.
use Rattle.std.proofs.Common.{◌≡◌, ◌≢◌, ◌⊎◌, ℕ, suc, ◌+◌, true, false, List, length, arith, sym, ◌∙◌}
use Rattle.std.specs.Prelude.{max, Option}
use Rattle.std.proofs.Math.Nat.{max-eq_right}
use Rattle.std.proofs.Math.Numerals.{add-one}
use Rattle.std.proofs.lemmas.Bool.Decides.{nat_tests}
use Rattle.image_elf.specs.declared.program_header.ProgramHeader.{ProgramHeader}
use Rattle.image_elf.specs.Headers.{header, has, is_loaded, range_end}
use Rattle.image_elf.specs.FlatImage.{loaded_end, loaded_length}
use Rattle.image_elf.specs.Cells.{HoldFirst, LoadsInto}

-- no address is in an empty range, or in one that isn't loaded
has_none : (h : ProgramHeader) (address : ℕ) → (is_loaded h ≡ false) ⊎ (h.memsz ≡ 0) → has h address ≡ false
has_none h address e = grind (arith, nat_tests)

end_none : (h : ProgramHeader) → (is_loaded h ≡ false) ⊎ (h.memsz ≡ 0) → loaded_end h ≡ 0
end_none h e = grind (arith, nat_tests)

end_some : (h : ProgramHeader) → is_loaded h ≡ true → h.memsz ≢ 0 → loaded_end h ≡ range_end h
end_some h e k = grind (arith, nat_tests)

max_zero : (n : ℕ) → max 0 n ≡ n
max_zero n = max-eq_right (omega arith)

-- with a header whose range isn't empty
pub one_more : (file : List ℕ) (n : ℕ) (old new : List (Option ℕ)) → HoldFirst file n old
    → is_loaded (header file n) ≡ true → (header file n).memsz ≢ 0
    → length new ≡ max (range_end (header file n)) (length old) → LoadsInto file (header file n) old new
    → HoldFirst file (suc n) new
one_more file n old new holds loaded there long into = record {
  bytes = λ address. rw (← holds.bytes address) (into address);
  length = rw (end_some (header file n) loaded there, ← holds.length) long;
}

-- with one that adds nothing
pub none_more : (file : List ℕ) (n : ℕ) (cells : List (Option ℕ)) → HoldFirst file n cells
    → (is_loaded (header file n) ≡ false) ⊎ ((header file n).memsz ≡ 0) → HoldFirst file (suc n) cells
none_more file n cells holds e = record {
  bytes = λ address. rw (has_none (header file n) address e) (holds.bytes address);
  length = rw (end_none (header file n) e) (holds.length ∙ sym (max_zero (loaded_length file n)));
}

-- the same for a header that was read, and with the count as code has it
pub one_more_by : (file : List ℕ) (n : ℕ) (h : ProgramHeader) (old new : List (Option ℕ)) → h ≡ header file n →
    HoldFirst file n old
    → is_loaded h ≡ true → h.memsz ≢ 0 → length new ≡ max (range_end h) (length old) → LoadsInto file h old new
    → HoldFirst file (n + 1) new
one_more_by file n h old new same holds loaded there long into =
    rw (add-one n) (one_more file n old new holds (rw same at loaded) (rw same at there) (rw same at long)
    (rw same at into))

pub none_more_by : (file : List ℕ) (n : ℕ) (h : ProgramHeader) (cells : List (Option ℕ)) → h ≡ header file n →
    HoldFirst file n cells
    → (is_loaded h ≡ false) ⊎ (h.memsz ≡ 0) → HoldFirst file (n + 1) cells
none_more_by file n h cells same holds e = rw (add-one n) (none_more file n cells holds (rw same at e))
