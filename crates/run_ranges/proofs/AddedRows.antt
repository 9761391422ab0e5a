-- Where a loop over rows puts one more.
use Rattle.std.proofs.Common.{◌≡◌, ℕ, ◌+◌, ◌<◌, ◌≤◌, List, [], ◌∷◌, ◌++◌, length, get_or, take, drop, sym, ap}
use Rattle.std.proofs.Common.{◌∙◌, append_assoc, add-one}
use Rattle.std.specs.Cmp.Lexicographic.{slice_cmp}
use Rattle.std.specs.Ordering.{nat_cmp}
use Rattle.std.specs.declared.cmp.Ordering.{Ordering}
use Rattle.std.specs.declared.cmp.Ordering.TheVariants.{Less, Equal, Greater}
use Rattle.std.proofs.Math.ListN.{set, drop_of_length-le}
use Rattle.std.proofs.lemmas.List.{at_drop_more, get_or_read, set_split, take_all, take_more}
use Rattle.run_ranges.specs.declared.rows.Row.{Row}
use Rattle.run_ranges.specs.Tables.{added, by_order, joined}

-- adding to what is left, by how the row compares with the next one
adding : (o : Ordering) (later x : Row) (rows : List Row) (k : ℕ) → k < length rows → x ≡ get_or rows k x
    → slice_cmp nat_cmp later.values x.values ≡ o
    → added later (drop k rows)
    ≡ by_order o (later ∷ x ∷ drop (k + 1) rows) (joined x later ∷ drop (k + 1) rows) (x ∷ added later (drop (k + 1) rows))
unfolding added
adding o later x rows k h is e =
    let rest : List Row = drop (k + 1) rows in
    at_drop_more (added later) rows k x h ∙ ap (λ (y : Row). added later (y ∷ rest)) (sym is)
    ∙ ap (λ (p : Ordering). by_order p (later ∷ x ∷ rest) (joined x later ∷ rest) (x ∷ added later rest)) e

pub past : (later x : Row) (rows : List Row) (k : ℕ) → k < length rows → x ≡ get_or rows k x
    → slice_cmp nat_cmp later.values x.values ≡ Greater → added later rows ≡ take k rows ++ added later (drop k rows)
    → added later rows ≡ take (k + 1) rows ++ added later (drop (k + 1) rows)
past later x rows k h is e before =
    let rest : List Row = added later (drop (k + 1) rows) in
    before ∙ ap (λ (xs : List Row). take k rows ++ xs) (adding Greater later x rows k h is e)
    ∙ sym (append_assoc (take k rows) (x ∷ []) rest)
    ∙ ap (λ (y : Row). (take k rows ++ (y ∷ [])) ++ rest) is
    ∙ ap (λ (xs : List Row). xs ++ rest) (sym (take_more rows k x h))

pub joins : (later x y : Row) (rows : List Row) (k : ℕ) → k < length rows → x ≡ get_or rows k x → y ≡ get_or rows k y
    → slice_cmp nat_cmp later.values x.values ≡ Equal → added later rows ≡ take k rows ++ added later (drop k rows)
    → set rows k (joined y later) ≡ added later rows
joins later x y rows k h is alike e before =
    let same : y ≡ x = get_or_read rows k y h alike x ∙ sym is in
    ap (λ (z : Row). set rows k (joined z later)) same ∙ set_split rows k (joined x later) h
    ∙ ap (λ (n : ℕ). take k rows ++ joined x later ∷ drop n rows) (sym (add-one k))
    ∙ ap (λ (xs : List Row). take k rows ++ xs) (sym (adding Equal later x rows k h is e)) ∙ sym before

pub inserts : (later x : Row) (rows : List Row) (k : ℕ) → k < length rows → x ≡ get_or rows k x
    → slice_cmp nat_cmp later.values x.values ≡ Less → added later rows ≡ take k rows ++ added later (drop k rows)
    → take k rows ++ later ∷ drop k rows ≡ added later rows
inserts later x rows k h is e before =
    let same : drop k rows ≡ x ∷ drop (k + 1) rows =
    at_drop_more (λ (xs : List Row). xs) rows k x h ∙ ap (λ (y : Row). y ∷ drop (k + 1) rows) (sym is) in
    ap (λ (xs : List Row). take k rows ++ later ∷ xs) same
    ∙ ap (λ (xs : List Row). take k rows ++ xs) (sym (adding Less later x rows k h is e)) ∙ sym before

pub puts : (later : Row) (rows : List Row) (k : ℕ) → length rows ≤ k
    → added later rows ≡ take k rows ++ added later (drop k rows) → rows ++ later ∷ [] ≡ added later rows
unfolding added
puts later rows k h before =
    let all : take k rows ≡ rows = take_all k rows h in
    let none : drop k rows ≡ [] = drop_of_length-le rows h in
    sym (before ∙ ap (λ (xs : List Row). xs ++ added later (drop k rows)) all
    ∙ ap (λ (xs : List Row). rows ++ added later xs) none)
