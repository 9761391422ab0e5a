-- Rows of one width in one list: how many, the row at a place, and one row more.
use Rattle.std.proofs.Common.{◌≡◌, ◌∙◌, ℕ, zero, suc, ◌+◌, ◌*◌, ◌<◌, ◌≤◌, List, [], ◌∷◌, ◌++◌, length, get_or, refl}
use Rattle.std.proofs.Common.{ap, arith, drop, suc-mul, take, zero-mul}
use Rattle.std.proofs.lemmas.List.{drop-append-le, drop-drop, length-drop, take-append-le, take_all}
use Rattle.certificate_codec.specs.Rows.{rows}

pub length-rows : (width number : ℕ) (counts : List ℕ) → length (rows width number counts) ≡ number
unfolding rows
length-rows width zero counts = refl
length-rows width (suc number) counts =
    let rest = length-rows width number (drop width counts) in omega (arith, rest)

-- the row at a place lies behind all rows before it
pub row_at : (width number k : ℕ) (counts : List ℕ) → k < number →
    get_or (rows width number counts) k [] ≡ take width (drop (k * width) counts)
unfolding rows
row_at width zero k counts lt = absurd (omega arith)
row_at width (suc number) zero counts lt =
    ap (λ (n : ℕ). take width (drop n counts)) (let none : 0 ≡ 0 * width = omega (arith, zero-mul width) in none)
row_at width (suc number) (suc k) counts lt =
    let place : width + k * width ≡ suc k * width = omega (arith, suc-mul k width) in
    row_at width number k (drop width counts) (omega arith)
    ∙ ap (take width) (drop-drop (k * width) width counts ∙ ap (λ (n : ℕ). drop n counts) place)

-- past the last there is none
pub no_row : (width number k : ℕ) (counts : List ℕ) → number ≤ k → get_or (rows width number counts) k [] ≡ []
unfolding rows
no_row width zero k counts le = refl
no_row width (suc number) zero counts le = absurd (omega arith)
no_row width (suc number) (suc k) counts le = no_row width number k (drop width counts) (omega arith)

pub one_row_more : (width number : ℕ) (counts row : List ℕ) → length counts ≡ number * width → length row ≡ width →
    rows width (suc number) (counts ++ row) ≡ rows width number counts ++ row ∷ []
unfolding rows
one_row_more width zero [] row long wide = ap (λ (xs : List ℕ). xs ∷ []) (take_all width row (omega (arith, wide)))
one_row_more width zero (n ∷ counts) row long wide = absurd (omega (arith, zero-mul width))
one_row_more width (suc number) counts row long wide =
    let size = suc-mul number width in
    let fits : width ≤ length counts = omega arith in
    let shorter : length (drop width counts) ≡ number * width = omega (arith, length-drop width counts) in
    rw (take-append-le width counts row fits, drop-append-le width counts row fits)
    (ap (λ (xs : List (List ℕ)). take width counts ∷ xs)
    (one_row_more width number (drop width counts) row shorter wide))
