-- Choice bytes, written as hexadecimal digits, are read as themselves.
use Rattle.std.proofs.Common.{◌≡◌, ℕ, zero, suc, ◌+◌, ◌*◌, ◌/◌, ◌%◌, ◌<◌, true, not, List, []}
use Rattle.std.proofs.Common.{◌∷◌, length, get_or, arith, refl, sym, ap, ◌∙◌, map, eqb}
use Rattle.std.specs.Prelude.{slice_index}
use Rattle.std.specs.List.{list_all, range_with_len}
use Rattle.std.proofs.lemmas.Bool.{and_from, eq-eqb, ne_eqb}
use Rattle.std.proofs.lemmas.List.FromFn.{fill_by_all}
use Rattle.hex.specs.Hex.{encode_lower, encode_with, lower_digits}
use Rattle.hex.proofs.HexLemmas.{length-encode_with}
use Rattle.tool_words.specs.Choices.{are_choices, byte_at, digit_value, is_hex_digit, spelled_bytes}

abbrev pub IsBytes : List ℕ → Type 0
IsBytes xs = (k : ℕ) → slice_index xs k < 256

-- a digit of the table is one, and has its place as its value
record IsDigit (k : ℕ) : Type 0 where
  hex : is_hex_digit (slice_index lower_digits k) ≡ true
  value : digit_value (slice_index lower_digits k) ≡ k

digit : (k : ℕ) → k < 16 → IsDigit k
digit zero h = record { hex = refl; value = refl }
digit (suc zero) h = record { hex = refl; value = refl }
digit (suc (suc zero)) h = record { hex = refl; value = refl }
digit (suc (suc (suc zero))) h = record { hex = refl; value = refl }
digit (suc (suc (suc (suc zero)))) h = record { hex = refl; value = refl }
digit (suc (suc (suc (suc (suc zero))))) h = record { hex = refl; value = refl }
digit (suc (suc (suc (suc (suc (suc zero)))))) h = record { hex = refl; value = refl }
digit (suc (suc (suc (suc (suc (suc (suc zero))))))) h = record { hex = refl; value = refl }
digit (suc (suc (suc (suc (suc (suc (suc (suc zero)))))))) h = record { hex = refl; value = refl }
digit (suc (suc (suc (suc (suc (suc (suc (suc (suc zero))))))))) h = record { hex = refl; value = refl }
digit (suc (suc (suc (suc (suc (suc (suc (suc (suc (suc zero)))))))))) h = record { hex = refl; value = refl }
digit (suc (suc (suc (suc (suc (suc (suc (suc (suc (suc (suc zero))))))))))) h = record { hex = refl; value = refl }
digit (suc (suc (suc (suc (suc (suc (suc (suc (suc (suc (suc (suc zero)))))))))))) h =
    record { hex = refl; value = refl }
digit (suc (suc (suc (suc (suc (suc (suc (suc (suc (suc (suc (suc (suc zero))))))))))))) h =
    record { hex = refl; value = refl }
digit (suc (suc (suc (suc (suc (suc (suc (suc (suc (suc (suc (suc (suc (suc zero)))))))))))))) h =
    record { hex = refl; value = refl }
digit (suc (suc (suc (suc (suc (suc (suc (suc (suc (suc (suc (suc (suc (suc (suc zero))))))))))))))) h =
    record { hex = refl; value = refl }
digit (suc (suc (suc (suc (suc (suc (suc (suc (suc (suc (suc (suc (suc (suc (suc (suc n)))))))))))))))) h =
    absurd (omega arith)

all-hex : (xs : List ℕ) → IsBytes xs → list_all is_hex_digit (encode_lower xs) ≡ true
unfolding encode_with
all-hex [] h = refl
all-hex (b ∷ xs) h =
    let small : b < 256 = h 0 in
    let rest : IsBytes xs = λ k. h (suc k) in
    and_from _ _ (digit (b / 16) (omega arith)).hex
    (and_from _ _ (digit (b % 16) (omega arith)).hex (all-hex xs rest))

-- some bytes make choices
pub are-choices : (b : ℕ) (xs : List ℕ) → IsBytes (b ∷ xs) → are_choices (encode_lower (b ∷ xs)) ≡ true
are-choices b xs h =
    let text : List ℕ = encode_lower (b ∷ xs) in
    let long : length text ≡ 2 * suc (length xs) = length-encode_with lower_digits (b ∷ xs) in
    let some : not (eqb (length text) 0) ≡ true = ap not (ne_eqb (length text) 0 (λ e. omega (arith, long, e))) in
    let even : eqb (length text % 2) 0 ≡ true = eq-eqb (length text % 2) 0 (omega (arith, long)) in
    and_from _ _ some (and_from _ _ even (all-hex (b ∷ xs) h))

byte-at : (xs : List ℕ) (k : ℕ) → IsBytes xs → k < length xs → get_or xs k 0 ≡ byte_at (encode_lower xs) k
unfolding encode_with
byte-at [] k h low = absurd (omega arith)
byte-at (b ∷ xs) zero h low =
    let small : b < 256 = h 0 in
    let high = (digit (b / 16) (omega arith)).value in
    let lower = (digit (b % 16) (omega arith)).value in
    omega (arith, high, lower)
byte-at (b ∷ xs) (suc k) h low =
    let text : List ℕ = encode_lower xs in
    let here : List ℕ = encode_lower (b ∷ xs) in
    let first : 2 * suc k ≡ suc (suc (2 * k)) = omega arith in
    let second : 2 * suc k + 1 ≡ suc (suc (2 * k + 1)) = omega arith in
    byte-at xs k (λ j. h (suc j)) (omega arith)
    ∙ ap (λ (n : ℕ). 16 * digit_value (slice_index here n) + digit_value (slice_index text (2 * k + 1))) (sym first)
    ∙ ap (λ (n : ℕ). 16 * digit_value (slice_index here (2 * suc k)) + digit_value (slice_index here n)) (sym second)

-- the bytes that are read are those that were written
pub read-back : (xs : List ℕ) → IsBytes xs → spelled_bytes (encode_lower xs) ≡ xs
unfolding spelled_bytes
read-back xs h =
    let text : List ℕ = encode_lower xs in
    let many : length text / 2 ≡ length xs = omega (arith, length-encode_with lower_digits xs) in
    ap (λ (n : ℕ). map (byte_at text) (range_with_len 0 n)) many
    ∙ sym (fill_by_all (byte_at text) xs (length xs) 0 refl (λ k low. byte-at xs k h low))
