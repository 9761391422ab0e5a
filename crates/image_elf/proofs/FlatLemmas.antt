-- The flat image of a file without a fault is one, case by case.
use Rattle.std.proofs.Common.{◌≡◌, ◌≢◌, ◌⊎◌, inl, inr, ℕ, ◌<◌, ◌≤◌, false, IsTrue, List, length, get_or, refl, ap}
use Rattle.std.proofs.Common.{◌∙◌, arith, Some, None}
use Rattle.std.specs.Prelude.{max, Option, is_some, unwrap_or}
use Rattle.std.specs.Int.{to_le_bytes, w32}
use Rattle.std.proofs.Math.Nat.{le-max_left, le-max_right, max-le}
use Rattle.std.proofs.lemmas.Bool.Decides.{nat_tests}
use Rattle.std.proofs.lemmas.List.FromFn.{length-map-range_with_len, get_or-map-range_with_len}
use Rattle.std.proofs.lemmas.List.{get_or_past}
use Rattle.std.proofs.lemmas.Bool.{both_ways, cases_lt, false_from_ne_true}
use Rattle.image_elf.specs.Headers.{entry, header, header_count}
use Rattle.image_elf.specs.FlatImage.{flat_byte, flat_image, flat_length, jump_length, jump_word, loaded_byte}
use Rattle.image_elf.specs.FlatImage.{loaded_length, range_byte}
use Rattle.image_elf.specs.Faults.{elf_fault, first_header_fault, is_taken}
use Rattle.image_elf.specs.Cases.{EndsBy, IsFlatImage, IsLoadedBy}
use Rattle.image_elf.proofs.RangeLemmas.{taken}
use Rattle.image_elf.proofs.CaseLemmas.{no_fault_below, loads, loads_none, within, least}

-- what a file without a fault passes
pub record Passes (file : List ℕ) (words : ℕ) : Type 0 where
  pub headers : first_header_fault file words (header_count file) ≡ None
  pub start : (entry file ≡ 0) ⊎ (is_taken file (header_count file) 0 4 ≡ false)

pub passes : (file : List ℕ) (words : ℕ) → elf_fault file words ≡ None → Passes file words
unfolding elf_fault
passes file words e = record {
  headers = grind (arith, nat_tests);
  start = grind (arith, nat_tests);
}

jump_none : (file : List ℕ) → entry file ≡ 0 → jump_length file ≡ 0
jump_none file e = grind (arith, nat_tests)

jump_some : (file : List ℕ) → entry file ≢ 0 → jump_length file ≡ 4
jump_some file e = grind (arith, nat_tests)

is_zero : (n : ℕ) → (n ≡ 0) ⊎ (n ≢ 0)
is_zero n = grind arith

-- the two parts of the image
pub jump_byte : (file : List ℕ) (address : ℕ) → address < jump_length file
    → flat_byte file address ≡ get_or (to_le_bytes w32 (jump_word file)) address 0
unfolding flat_byte
jump_byte file address h = grind (arith, nat_tests)

pub other_byte : (file : List ℕ) (address : ℕ) → jump_length file ≤ address
    → flat_byte file address ≡ unwrap_or (loaded_byte file (header_count file) address) 0
unfolding flat_byte
other_byte file address h = grind (arith, nat_tests)

length_is : (file : List ℕ) → length (flat_image file) ≡ max (jump_length file) (loaded_length file (header_count file))
unfolding flat_length
length_is file = length-map-range_with_len (flat_byte file) 0 (flat_length file)

byte_is : (file : List ℕ) (address : ℕ) → address < length (flat_image file) →
    get_or (flat_image file) address 0 ≡ flat_byte file address
byte_is file address h =
    let long = length-map-range_with_len (flat_byte file) 0 (flat_length file) in
    get_or-map-range_with_len (flat_byte file) 0 (flat_length file) address address 0 (omega arith) (omega arith)

jump_at_most : (file : List ℕ) → jump_length file ≤ 4
jump_at_most file = grind (arith, nat_tests)

module _ (file : List ℕ) (words : ℕ) (ok : Passes file words) where
  loaded_there : (number address : ℕ) → IsLoadedBy file number address
      → loaded_byte file (header_count file) address ≡ Some (range_byte file (header file number) address)
  loaded_there number address l =
      loads file words (header_count file) (no_fault_below file words (header_count file) ok.headers) number address
      l.there l.has

  -- no range has a byte of the jump
  past_jump : (number address : ℕ) → IsLoadedBy file number address → jump_length file ≤ address
  past_jump number address l = elim ok.start [
    | inl none ↦ let k = jump_none file none in omega arith
    | inr untaken ↦ elim (cases_lt address 4) [
      | inl below ↦
          let there : IsTrue (is_some (loaded_byte file (header_count file) address)) =
          rw (loaded_there number address l) refl in
          absurd (both_ways _ untaken (taken file (header_count file) 0 4 address (omega arith) below there))
      | inr above ↦ let k = jump_at_most file in omega arith
    ]
  ]

  in_image : (number address : ℕ) → IsLoadedBy file number address → address < length (flat_image file)
  in_image number address l =
      let inside = within file (header_count file) number address l.there l.has in
      let most = le-max_right (jump_length file) (loaded_length file (header_count file)) in
      let long = length_is file in
      omega arith

  jump_in_image : entry file ≢ 0 → 4 ≤ length (flat_image file)
  jump_in_image begins =
      let jump = jump_some file begins in
      let most = le-max_left (jump_length file) (loaded_length file (header_count file)) in
      let long = length_is file in
      omega arith

  image_least : (n : ℕ) → EndsBy file n → length (flat_image file) ≤ n
  image_least n by =
      let ranges = least file (header_count file) n (λ number address h e. by.loaded number address record {
        there =
            h;
        has = e;
      }) in
      let jump : jump_length file ≤ n = elim (is_zero (entry file)) [
        | inl none ↦ let k = jump_none file none in omega arith
        | inr begins ↦ let k = jump_some file begins in let l = by.jump begins in omega arith
      ] in
      rw (length_is file) (max-le jump ranges)

  loaded_byte_is : (number address : ℕ) → IsLoadedBy file number address
      → get_or (flat_image file) address 0 ≡ range_byte file (header file number) address
  loaded_byte_is number address l =
      let flat = byte_is file address (in_image number address l) in
      let other = other_byte file address (past_jump number address l) in
      flat ∙ other ∙ ap (λ (b : Option ℕ). unwrap_or b 0) (loaded_there number address l)

  jump_byte_is : entry file ≢ 0 → (address : ℕ) → address < 4
      → get_or (flat_image file) address 0 ≡ get_or (to_le_bytes w32 (jump_word file)) address 0
  jump_byte_is begins address below =
      let whole = jump_in_image begins in
      let long = jump_some file begins in
      byte_is file address (omega arith) ∙ jump_byte file address (omega arith)

  empty_in_image : (address : ℕ) → ((number : ℕ) → IsLoadedBy file number address → ⊥) → jump_length file ≤ address
      → address < length (flat_image file) → get_or (flat_image file) address 0 ≡ 0
  empty_in_image address none past inside =
      let nothing = loads_none file (header_count file) address
      (λ number h. false_from_ne_true _ (λ e. none number record { there = h; has = e })) in
      byte_is file address inside ∙ other_byte file address past ∙ ap (λ (b : Option ℕ). unwrap_or b 0) nothing

  empty_byte_is : (address : ℕ) → ((number : ℕ) → IsLoadedBy file number address → ⊥) → (entry file ≢ 0 → 4 ≤ address)
      → get_or (flat_image file) address 0 ≡ 0
  empty_byte_is address none past =
      let after : jump_length file ≤ address = elim (is_zero (entry file)) [
        | inl e ↦ let k = jump_none file e in omega arith
        | inr begins ↦ let k = jump_at_most file in let l = past begins in omega arith
      ] in
      elim (cases_lt address (length (flat_image file))) [
        | inl inside ↦ empty_in_image address none after inside
        | inr outside ↦ get_or_past (flat_image file) address 0 outside
      ]

pub is_flat_image : (file : List ℕ) (words : ℕ) → elf_fault file words ≡ None → IsFlatImage file (flat_image file)
is_flat_image file words e =
    let ok = passes file words e in
    record {
      ends = record { loaded = in_image file words ok; jump = jump_in_image file words ok };
      least = image_least file words ok;
      loaded = loaded_byte_is file words ok;
      jump = jump_byte_is file words ok;
      empty = empty_byte_is file words ok;
    }
