-- What digits spell, as far as one has come: one digit more, and never less than a front of them.
use Rattle.std.proofs.Common.{◌≡◌, ℕ, ◌+◌, ◌*◌, ◌≤◌, List, [], ◌∷◌, ◌++◌, Some, None, cond, take}
use Rattle.std.proofs.Common.{drop, refl, sym, ap, ◌∙◌, arith}
use Rattle.std.specs.Prelude.{nat_lt}
use Rattle.std.specs.Char.{digit_value}
use Rattle.std.specs.Str.Parse.{digits_value, digits_value_after}
use Rattle.std.proofs.Math.Nat.{mul-le-mul_left}
use Rattle.std.proofs.lemmas.Bool.{le-ltb}
use Rattle.std.proofs.lemmas.List.{take-append-drop}

after-append : (radix n : ℕ) (front rest : List ℕ) →
    digits_value_after radix n (front ++ rest) ≡ digits_value_after radix (digits_value_after radix n front) rest
after-append radix n [] rest = refl
after-append radix n (c ∷ front) rest = after-append radix (n * radix + digit_value c) front rest

after-least : (radix n : ℕ) (text : List ℕ) → 1 ≤ radix → n ≤ digits_value_after radix n text
after-least radix n [] some = omega arith
after-least radix n (c ∷ text) some =
    let more = after-least radix (n * radix + digit_value c) text some in
    let wide : n * 1 ≤ n * radix = mul-le-mul_left n some in
    omega (arith, more)

front_least : (radix : ℕ) (text : List ℕ) (i : ℕ) → 1 ≤ radix →
    digits_value radix (take i text) ≤ digits_value radix text
front_least radix text i some =
    let whole : digits_value radix text ≡ digits_value_after radix (digits_value radix (take i text)) (drop i text) =
    ap (digits_value radix) (sym (take-append-drop i text)) ∙ after-append radix 0 (take i text) (drop i text) in
    let least = after-least radix (digits_value radix (take i text)) (drop i text) some in
    omega (arith, whole, least)

-- digits whose front is too much spell no number below what it's too much for
pub too_much : (radix past : ℕ) (text : List ℕ) (i : ℕ) → 1 ≤ radix → past ≤ digits_value radix (take i text) →
    None ≡ cond (nat_lt (digits_value radix text) past) (Some (digits_value radix text)) None
too_much radix past text i some much =
    let least = front_least radix text i some in
    rw (le-ltb (digits_value radix text) past (omega (arith, least))) refl
