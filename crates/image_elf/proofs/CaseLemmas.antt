-- The flat image of a file without a fault, by the cases of its bytes.
use Rattle.std.proofs.Common.{◌≡◌, ◌⊎◌, inl, inr, ℕ, zero, suc, ◌-◌, ◌<◌, ◌≤◌, Bool, true, false, IsTrue, List, refl}
use Rattle.std.proofs.Common.{arith, Some, None}
use Rattle.std.specs.Prelude.{Option, is_some}
use Rattle.std.specs.Option.{option_or}
use Rattle.std.proofs.Math.Nat.{le-max_left, le-max_right, max-le}
use Rattle.std.proofs.lemmas.Bool.Decides.{nat_tests}
use Rattle.image_elf.specs.declared.program_header.ProgramHeader.{ProgramHeader}
use Rattle.image_elf.specs.Headers.{header, has, is_loaded, range_end}
use Rattle.image_elf.specs.FlatImage.{loaded_byte, loaded_end, loaded_length, range_byte}
use Rattle.image_elf.specs.Faults.{first_header_fault, header_fault, is_taken}
use Rattle.image_elf.proofs.RangeLemmas.{taken}
use Rattle.rtr_types.proofs.Ranges.{below_suc}

-- neither of two has something
both_none : {A : Type 0} (a b : Option A) → option_or a b ≡ None → (a ≡ None) × (b ≡ None)
both_none None b e = (refl, e)
both_none (Some x) b e = absurd (cc)

-- no header below n has a fault
abbrev NoFaultBelow : List ℕ → (words n : ℕ) → Type 0
NoFaultBelow file words n = (number : ℕ) → number < n → header_fault file words number ≡ None

pub no_fault_below : (file : List ℕ) (words n : ℕ) → first_header_fault file words n ≡ None → NoFaultBelow file words n
no_fault_below file words zero e number h = absurd (omega arith)
no_fault_below file words (suc n) e number h =
    let both = both_none (first_header_fault file words n) (header_fault file words n) e in
    elim (below_suc number n h) [
      | inl below ↦ no_fault_below file words n both.0 number below
      | inr same ↦ rw same both.1
    ]

-- a loaded range that is taken is a fault
taken_fault : (file : List ℕ) (words n : ℕ) → is_loaded (header file n) ≡ true
    → is_taken file n (header file n).vaddr (range_end (header file n)) ≡ true → header_fault file words n ≡ None → ⊥
taken_fault file words n loaded overlaps none = grind (arith, nat_tests)

pub has_loaded : (h : ProgramHeader) (address : ℕ) → has h address ≡ true → is_loaded h ≡ true
has_loaded h address e = grind (arith, nat_tests)

has_from : (h : ProgramHeader) (address : ℕ) → has h address ≡ true → h.vaddr ≤ address
has_from h address e = grind (arith, nat_tests)

has_before : (h : ProgramHeader) (address : ℕ) → has h address ≡ true → address < range_end h
has_before h address e = grind (arith, nat_tests)

-- something is loaded
abbrev Loads : List ℕ → (n number address : ℕ) → Type 0
Loads file n number address = loaded_byte file n address ≡ Some (range_byte file (header file number) address)

later_loads : (file : List ℕ) (words n number address : ℕ) → header_fault file words n ≡ None →
    Loads file n number address
    → (b : Bool) → has (header file n) address ≡ b → Loads file (suc n) number address
later_loads file words n number address none earlier true e =
    let h = header file n in
    let there : IsTrue (is_some (loaded_byte file n address)) = rw earlier refl in
    let shared = taken file n h.vaddr (range_end h) address (has_from h address e) (has_before h address e) there in
    absurd (taken_fault file words n (has_loaded h address e) shared none)
later_loads file words n number address none earlier false e = rw e earlier

here_loads : (file : List ℕ) (n address : ℕ) → has (header file n) address ≡ true → Loads file (suc n) n address
here_loads file n address e = rw e refl

-- what a range of a file without a fault has is loaded, whatever comes after
pub loads : (file : List ℕ) (words n : ℕ) → NoFaultBelow file words n
    → (number address : ℕ) → number < n → has (header file number) address ≡ true → Loads file n number address
loads file words zero none number address h e = absurd (omega arith)
loads file words (suc n) none number address h e = elim (below_suc number n h) [
  | inl below ↦
      let earlier = loads file words n (λ k l. none k (omega arith)) number address below e in
      later_loads file words n number address (none n (omega arith)) earlier (has (header file n) address) refl
  | inr same ↦ rw same (here_loads file n address (rw same at e))
]

-- what no range has is not loaded
pub loads_none : (file : List ℕ) (n address : ℕ) →
    ((number : ℕ) → number < n → has (header file number) address ≡ false)
    → loaded_byte file n address ≡ None
loads_none file zero address none = refl
loads_none file (suc n) address none =
    rw (none n (omega arith)) (loads_none file n address (λ number h. none number (omega arith)))

end_after : (h : ProgramHeader) (address : ℕ) → has h address ≡ true → address < loaded_end h
end_after h address e = grind (arith, nat_tests)

-- each range ends by the greatest end
pub within : (file : List ℕ) (n number address : ℕ) → number < n → has (header file number) address ≡ true →
    address < loaded_length file n
within file zero number address h e = absurd (omega arith)
within file (suc n) number address h e =
    let left = le-max_left (loaded_end (header file n)) (loaded_length file n) in
    let right = le-max_right (loaded_end (header file n)) (loaded_length file n) in
    elim (below_suc number n h) [
      | inl below ↦ let earlier = within file n number address below e in omega arith
      | inr same ↦ let here = end_after (header file n) address (rw same at e) in omega arith
    ]

last_address : (h : ProgramHeader) → (loaded_end h ≡ 0) ⊎ (has h (loaded_end h - 1) ≡ true)
last_address h = grind (arith, nat_tests)

-- the greatest end is no greater than what each range ends by
pub least : (file : List ℕ) (n m : ℕ) → ((number address : ℕ) → number < n → has (header file number) address ≡ true →
    address < m)
    → loaded_length file n ≤ m
least file zero m ends = omega arith
least file (suc n) m ends =
    let earlier = least file n m (λ number address h. ends number address (omega arith)) in
    let here : loaded_end (header file n) ≤ m = elim (last_address (header file n)) [
      | inl e ↦ omega arith
      | inr e ↦ let last = ends n (loaded_end (header file n) - 1) (omega arith) e in omega arith
    ] in
    max-le here earlier
