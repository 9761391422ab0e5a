-- What `{:08x}` writes of a word is its eight hexadecimal digits.
use Rattle.std.proofs.Common.{◌≡◌, ℕ, zero, suc, ◌+◌, ◌-◌, ◌/◌, ◌%◌, ◌^◌, ◌<◌, ◌≤◌, Bool, false, cond, List, [], ◌∷◌}
use Rattle.std.proofs.Common.{◌++◌, length, replicate, refl, sym, ap}
use Rattle.std.proofs.Common.{◌∙◌, append_assoc, append-nil, arith}
use Rattle.std.specs.Fmt.{digits, digits_onto, padded_integral, char_count, format_spec}
use Rattle.std.proofs.lemmas.Bool.{eq-eqb, ne_eqb, cases_lt}
use Rattle.std.proofs.Math.Logic.{⊎_elim}
use Rattle.state_text.specs.Pieces.{hex_digit, hex_digits, hex_word}

-- one more at the end of equal items
replicate_end : (count x : ℕ) → replicate count x ++ x ∷ [] ≡ x ∷ replicate count x
replicate_end zero x = refl
replicate_end (suc count) x = ap (λ (xs : List ℕ). x ∷ xs) (replicate_end count x)

-- the digits of 0 are zeros
zero_digits : (count : ℕ) → hex_digits count 0 ≡ replicate count 48
unfolding hex_digits
zero_digits zero = refl
zero_digits (suc count) = ap (λ (xs : List ℕ). xs ++ 48 ∷ []) (zero_digits count) ∙ replicate_end count 48

-- the number with at most `limit` digits, before what follows
abbrev written : (limit number : ℕ) → List ℕ → List ℕ
written limit number after = digits_onto limit 16 false number after

one_digit : (limit number : ℕ) (after : List ℕ) → number < 16 → written (suc limit) number after ≡ hex_digit
    (number % 16) ∷ after
one_digit limit number after small =
    ap (λ (last : Bool). cond last (hex_digit (number % 16) ∷ after)
    (written limit (number / 16) (hex_digit (number % 16) ∷ after)))
    (eq-eqb (number / 16) 0 (omega arith))

more_digits : (limit number : ℕ) (after : List ℕ) → 16 ≤ number
    → written (suc limit) number after ≡ written limit (number / 16) (hex_digit (number % 16) ∷ after)
more_digits limit number after large =
    ap (λ (last : Bool). cond last (hex_digit (number % 16) ∷ after)
    (written limit (number / 16) (hex_digit (number % 16) ∷ after)))
    (ne_eqb (number / 16) 0 (λ e. omega arith))

-- zeros before a list up to a length
abbrev padded_to : ℕ → List ℕ → List ℕ
padded_to width xs = replicate (width - length xs) 48 ++ xs

one_padded : (count number : ℕ) (after : List ℕ) → number < 16
    → padded_to (suc count + length after) (hex_digit (number % 16) ∷ after) ≡ hex_digits (suc count) number ++ after
unfolding hex_digits
one_padded count number after small =
    let digit : ℕ = hex_digit (number % 16) in
    let room : suc count + length after - length (digit ∷ after) ≡ count = omega arith in
    let none : number / 16 ≡ 0 = omega arith in
    ap (λ (k : ℕ). replicate k 48 ++ (digit ∷ after)) room
    ∙ ap (λ (xs : List ℕ). xs ++ (digit ∷ after)) (sym (zero_digits count))
    ∙ ap (λ (k : ℕ). hex_digits count k ++ (digit ∷ after)) (sym none)
    ∙ sym (append_assoc (hex_digits count (number / 16)) (digit ∷ []) after)

-- what is written is padded with zeros to one digit more than `count`
padded_digits : (count limit number : ℕ) (after : List ℕ) → number < 16 ^ suc count → count ≤ limit
    → padded_to (suc count + length after) (written (suc limit) number after) ≡ hex_digits (suc count) number ++ after
unfolding hex_digits
padded_digits zero limit number after small enough =
    ap (padded_to (1 + length after)) (one_digit limit number after (omega arith)) ∙ one_padded 0 number after
    (omega arith)
padded_digits (suc count) zero number after small enough = absurd (omega arith)
padded_digits (suc count) (suc limit) number after small enough = ⊎_elim
    (λ below. ap (padded_to (suc (suc count) + length after)) (one_digit (suc limit) number after below)
    ∙ one_padded (suc count) number after below)
    (λ above.
    let digit : ℕ = hex_digit (number % 16) in
    let front : List ℕ = written (suc limit) (number / 16) (digit ∷ after) in
    let width : suc (suc count) + length after ≡ suc count + length (digit ∷ after) = omega arith in
    ap (padded_to (suc (suc count) + length after)) (more_digits (suc limit) number after above)
    ∙ ap (λ (k : ℕ). padded_to k front) width
    ∙ padded_digits count limit (number / 16) (digit ∷ after) (omega arith) (omega arith)
    ∙ sym (append_assoc (hex_digits (suc count) (number / 16)) (digit ∷ []) after))
    (cases_lt number 16)

digits_are_written : (number : ℕ) → digits 16 false number ≡ written (suc 63) number []
unfolding digits
digits_are_written number = refl

pub padded_hex_word : (word : ℕ) → word < 2 ^ 32 → padded_integral (format_spec 32 0 4 8 (2 ^ 64 - 1)) false []
    (digits 16 false word) ≡ hex_word word
unfolding padded_integral char_count
padded_hex_word word small =
    let text : List ℕ = digits 16 false word in
    let room : 8 - length text - 0 - 0 ≡ 8 + 0 - length text = omega arith in
    ap (λ (k : ℕ). replicate k 48 ++ (text ++ [])) room
    ∙ ap (λ (xs : List ℕ). replicate (8 + 0 - length text) 48 ++ xs) (append-nil text)
    ∙ ap (λ (xs : List ℕ). padded_to 8 xs) (digits_are_written word)
    ∙ padded_digits 7 63 word [] (omega arith) (omega arith)
    ∙ append-nil (hex_word word)
