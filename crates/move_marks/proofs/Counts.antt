-- As many moves are marked as there are bits.
use Rattle.std.proofs.Common.{◌≡◌, ◌∙◌, ◌⊎◌, inl, inr, refl, sym, ap, ℕ, zero, suc, ◌+◌, ◌^◌, ◌<◌, ◌≤◌, Bool}
use Rattle.std.proofs.Common.{false, cond, List, [], ◌++◌, length, get_or, arith, ◌==◌, zero-add}
use Rattle.std.specs.Prelude.{map}
use Rattle.std.specs.Int.{bit_at}
use Rattle.std.specs.Int.Count.{ones}
use Rattle.std.specs.List.{filter, range_with_len}
use Rattle.std.proofs.lemmas.Bool.Decides.{nat_tests}
use Rattle.std.proofs.lemmas.List.{get_or-map, get_or_past, length-append, length-map, map-id}
use Rattle.std.proofs.lemmas.List.FromFn.{get_or-range_with_len, length-range_with_len}
use Rattle.std.proofs.lemmas.List.Sums.{length-filter}
use Rattle.std.proofs.lemmas.Nat.{zero_from_ones}
use Rattle.std.proofs.lemmas.Nat.Bits.{bit_at-lt, bit_at_above, same_from_bits}
use Rattle.std.proofs.lemmas.Simd.{bit_mask_l, ones-mask_l}
use Rattle.std.proofs.lemmas.Bool.{cases_lt}
use lib.Lanes.{mask_l}
use Rattle.move_marks.specs.declared.marks.MarkedMove.{MarkedMove}
use Rattle.move_marks.specs.declared.marks.MoveKind.{MoveKind}
use Rattle.move_marks.specs.declared.marks.MoveKind.TheVariants.{Own, Request, Response, FromHome}
use Rattle.move_marks.specs.declared.marks.MoveMarks.{MoveMarks}
use Rattle.move_marks.specs.Kinds.{marked, marked_at_ports, marked_of, place_of, set_of}
use Rattle.move_marks.specs.Members.{members}
use Rattle.move_marks.proofs.KindBits.{in_set}
use Rattle.move_marks.proofs.MoveOrder.{kind_and_others, kind_listed}
use Rattle.move_marks.proofs.SetBits.{is_bit}
use Rattle.move_marks.proofs.Bits.{as_digit}

-- the bits of a word, in order
bits_listed : (n : ℕ) → n < 2 ^ 64 → n ≡ mask_l (map (is_bit n) (range_with_len 0 64))
bits_listed n fits = same_from_bits n (mask_l (map (is_bit n) (range_with_len 0 64))) (λ i. by i (cases_lt i 64))
  where
    long : length (range_with_len 0 64) ≡ 64
    long = length-range_with_len 0 64

    read : (i : ℕ) → bit_at (mask_l (map (is_bit n) (range_with_len 0 64))) i
        ≡ cond (get_or (map (is_bit n) (range_with_len 0 64)) i false) 1 0
    read i = bit_mask_l (map (is_bit n) (range_with_len 0 64)) i

    by : (i : ℕ) → (i < 64) ⊎ (64 ≤ i) → bit_at n i ≡ bit_at (mask_l (map (is_bit n) (range_with_len 0 64))) i
    by i (inl here) =
        as_digit (bit_at n i) (bit_at-lt n i)
        ∙ sym (read i ∙ ap (λ (b : Bool). cond b 1 0)
        (get_or-map (is_bit n) (range_with_len 0 64) i 0 false (omega (arith, long))
        ∙ ap (is_bit n) (get_or-range_with_len 0 64 i 0 here ∙ zero-add i)))
    by i (inr past) =
        bit_at_above n 64 i fits past
        ∙ sym (read i ∙ ap (λ (b : Bool). cond b 1 0) (get_or_past (map (is_bit n) (range_with_len 0 64)) i false
        (omega (arith, long, length-map (range_with_len 0 64) (is_bit n)))))

ones_are : (n : ℕ) → n < 2 ^ 64 → ones n ≡ length (filter (is_bit n) (map (λ (i : ℕ). i) (range_with_len 0 64)))
ones_are n fits =
    ap ones (bits_listed n fits)
    ∙ ones-mask_l (is_bit n) (range_with_len 0 64)
    ∙ sym (length-filter (is_bit n) (range_with_len 0 64))
    ∙ ap (λ (xs : List ℕ). length (filter (is_bit n) xs)) (sym (map-id (range_with_len 0 64)))

module _ (marks : MoveMarks) where
  one_kind : (kind : MoveKind) (a : ℕ) → a ≡ place_of kind →
      filter (is_bit marks.bits) (map (λ (i : ℕ). i) (range_with_len a 16))
      ≡ map (λ (c : ℕ). a + c) (members (set_of kind marks))
  one_kind kind a at =
      kind_listed (is_bit marks.bits) (λ (i : ℕ). i) (λ (c : ℕ). a + c) (set_of kind marks) a 16 (omega arith)
      (λ i within. refl)
      (λ c within. in_set kind marks c within ∙ ap (λ (p : ℕ). is_bit marks.bits (p + c)) (sym at))
      (λ c past within. absurd (omega arith))

  of_kind_long : (kind : MoveKind) → length (marked_of kind marks) ≡ length (members (set_of kind marks))
  of_kind_long kind =
      length-map {B = MarkedMove} (members (set_of kind marks)) (λ (c : ℕ). record { kind = kind; core = c })

  kind_long : (kind : MoveKind) (a : ℕ) → a ≡ place_of kind →
      length (filter (is_bit marks.bits) (map (λ (i : ℕ). i) (range_with_len a 16))) ≡ length (marked_of kind marks)
  kind_long kind a at =
      ap length (one_kind kind a at)
      ∙ length-map (members (set_of kind marks)) (λ (c : ℕ). a + c)
      ∙ sym (of_kind_long kind)

  more_kinds : (a k : ℕ) →
      length (filter (is_bit marks.bits) (map (λ (i : ℕ). i) (range_with_len a (16 + k))))
      ≡ length (filter (is_bit marks.bits) (map (λ (i : ℕ). i) (range_with_len a 16)))
      + length (filter (is_bit marks.bits) (map (λ (i : ℕ). i) (range_with_len (a + 16) k)))
  more_kinds a k =
      ap length (kind_and_others (is_bit marks.bits) (λ (i : ℕ). i) a 16 k)
      ∙ length-append (filter (is_bit marks.bits) (map (λ (i : ℕ). i) (range_with_len a 16)))
      (filter (is_bit marks.bits) (map (λ (i : ℕ). i) (range_with_len (a + 16) k)))

  marked_long : length (marked marks)
      ≡ length (marked_of Own marks) + (length (marked_of Request marks) + (length (marked_of Response marks)
      + length (marked_of FromHome marks)))
  marked_long =
      length-append (marked_of Own marks) (marked_at_ports marks)
      ∙ ap (λ (n : ℕ). length (marked_of Own marks) + n)
      (length-append (marked_of Request marks) (marked_of Response marks ++ marked_of FromHome marks)
      ∙ ap (λ (n : ℕ). length (marked_of Request marks) + n)
      (length-append (marked_of Response marks) (marked_of FromHome marks)))

  pub ports_long : length (marked_at_ports marks)
      ≡ length (members (set_of Request marks)) + (length (members (set_of Response marks))
      + length (members (set_of FromHome marks)))
  ports_long =
      length-append (marked_of Request marks) (marked_of Response marks ++ marked_of FromHome marks)
      ∙ ap (λ (n : ℕ). length (marked_of Request marks) + n)
      (length-append (marked_of Response marks) (marked_of FromHome marks))
      ∙ (λ i. of_kind_long Request i + (of_kind_long Response i + of_kind_long FromHome i))

  pub own_and_ports : length (marked marks) ≡ length (members (set_of Own marks)) + length (marked_at_ports marks)
  own_and_ports =
      length-append (marked_of Own marks) (marked_at_ports marks)
      ∙ ap (λ (n : ℕ). n + length (marked_at_ports marks)) (of_kind_long Own)

  pub count_is : marks.bits < 2 ^ 64 → ones marks.bits ≡ length (marked marks)
  count_is fits =
      ones_are marks.bits fits
      ∙ more_kinds 0 48
      ∙ (λ i. kind_long Own 0 refl i + more_kinds 16 32 i)
      ∙ (λ i. length (marked_of Own marks) + (kind_long Request 16 refl i + more_kinds 32 16 i))
      ∙ (λ i. length (marked_of Own marks) + (length (marked_of Request marks)
      + (kind_long Response 32 refl i + kind_long FromHome 48 refl i)))
      ∙ sym marked_long

no_zero : (n : ℕ) → 0 < n → false ≡ (n == 0)
no_zero n some = grind (arith, nat_tests, some)

-- no move is marked exactly where there is no bit
pub none_is : (marks : MoveMarks) → marks.bits < 2 ^ 64 → (marks.bits == 0) ≡ (length (marked marks) == 0)
none_is marks fits = by (length (marked marks)) refl
  where
    by : (n : ℕ) → length (marked marks) ≡ n → (marks.bits == 0) ≡ (n == 0)
    by zero is = ap (λ (b : ℕ). b == 0) (zero_from_ones marks.bits (count_is marks fits ∙ is))
    by (suc n) is = some (marks.bits) refl ∙ no_zero (suc n) (omega arith)
      where
        some : (b : ℕ) → marks.bits ≡ b → (b == 0) ≡ false
        some zero no_bits =
            let none : ones 0 ≡ 0 = ones-mask_l (λ (c : ℕ). false) [] in
            absurd (omega (arith, is, count_is marks fits, ap ones no_bits, none))
        some (suc b) bits = sym (no_zero (suc b) (omega arith))
