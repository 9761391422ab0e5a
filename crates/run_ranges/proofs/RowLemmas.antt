-- Rows in rising order, and what becomes of them when one is added.
use Rattle.std.proofs.Common.{◌≡◌, ℕ, ◌+◌, Bool, true, false, cond, List, [], ◌∷◌, ◌++◌, length, Option, Some, None}
use Rattle.std.proofs.Common.{arith, refl, sym, ap, ◌∙◌}
use Rattle.std.specs.Prelude.{sum_by}
use Rattle.std.specs.Cmp.Lexicographic.{bytes_decides, slice_cmp}
use Rattle.std.specs.Ordering.{is_eq, nat_cmp, ordering_reverse}
use Rattle.std.specs.Str.{bytes_eq}
use Rattle.std.specs.declared.cmp.Ordering.{Ordering}
use Rattle.std.specs.declared.cmp.Ordering.TheVariants.{Less, Equal, Greater}
use Rattle.std.proofs.lemmas.Cmp.{nat_list_cmp_total}
use Rattle.std.proofs.lemmas.Bool.{true≢false}
use Rattle.std.proofs.lemmas.List.Sums.{sum_by-append, sum_by-cons}
use Rattle.std.proofs.lemmas.Map.Text.{is_eq-slice_cmp}
use Rattle.run_ranges.specs.declared.rows.Row.{Row}
use Rattle.run_ranges.specs.Tables.{Rises, added, by_order, joined, merged, row_of}

abbrev order : (a b : List ℕ) → Ordering
order a b = slice_cmp nat_cmp a b

-- the values stand before those of the first row
unfoldable pub Before : List ℕ → List Row → Type 0
Before values [] = Unit {0}
Before values (row ∷ rest) = order values row.values ≡ Less

pub rises_parts : (row : Row) (rest : List Row) → Rises (row ∷ rest) → Before row.values rest × Rises rest
unfolding Rises Before
rises_parts row [] h = (tt, tt)
rises_parts row (next ∷ rest) h = (h.0, h.1)

pub rises_from : (row : Row) (rest : List Row) → Before row.values rest → Rises rest → Rises (row ∷ rest)
unfolding Rises Before
rises_from row [] b h = tt
rises_from row (next ∷ rest) b h = (b, h)

less-apart : (a b : List ℕ) → order a b ≡ Less → bytes_eq a b ≡ false
less-apart a b h = sym (is_eq-slice_cmp a b) ∙ ap is_eq h

greater-apart : (a b : List ℕ) → order a b ≡ Greater → bytes_eq a b ≡ false
greater-apart a b h = sym (is_eq-slice_cmp a b) ∙ ap is_eq h

equal-same : (a b : List ℕ) → order a b ≡ Equal → bytes_eq a b ≡ true
equal-same a b h = sym (is_eq-slice_cmp a b) ∙ ap is_eq h

greater-less : (a b : List ℕ) → order a b ≡ Greater → order b a ≡ Less
greater-less a b h = nat_list_cmp_total.antisymm b a ∙ ap ordering_reverse h

pub same-values : (a b : List ℕ) → bytes_eq a b ≡ true → a ≡ b
same-values a b h = (bytes_decides a b).0 h

same-itself : (a : List ℕ) → bytes_eq a a ≡ true
same-itself a = (bytes_decides a a).1 refl

-- one of two choices, of which not both are made
choices : {A : Type 0} (a b : Bool) (x z r : A) → (a ≡ true → b ≡ false) → cond a x (cond b z r) ≡ cond b z (cond a x r)
choices true true x z r h = absurd (true≢false (h refl))
choices true false x z r h = refl
choices false true x z r h = refl
choices false false x z r h = refl

-- the same choice twice
chosen : {A : Type 0} (b : Bool) (x y r : A) → cond b x r ≡ cond b x (cond b y r)
chosen true x y r = refl
chosen false x y r = refl

-- what stands before a row stands before those behind it
before-rest : (values : List ℕ) (row : Row) (rest : List Row) → order values row.values ≡ Less → Before row.values rest
    → Before values rest
unfolding Before
before-rest values row [] b c = tt
before-rest values row (next ∷ rest) b c = nat_list_cmp_total.trans values row.values next.values b c

-- values that stand before the first row are no row's
none-before : (values : List ℕ) (rows : List Row) → Rises rows → Before values rows → row_of rows values ≡ None
unfolding Before
none-before values [] h b = refl
none-before values (row ∷ rest) h b =
    let parts = rises_parts row rest h in
    let after : order row.values values ≡ Greater = nat_list_cmp_total.antisymm row.values values ∙ ap ordering_reverse b in
    let apart : bytes_eq row.values values ≡ false = greater-apart row.values values after in
    ap (λ (same : Bool). cond same (Some row) (row_of rest values)) apart
    ∙ none-before values rest parts.1 (before-rest values row rest b parts.0)

-- adding keeps what stands before all rows
before-by : (o : Ordering) (values : List ℕ) (later row : Row) (rest more : List Row) → order values later.values ≡ Less
    → order values row.values ≡ Less → Before values (by_order o (later ∷ row ∷ rest) (joined row later ∷ rest) (row ∷ more))
unfolding Before
before-by Less values later row rest more l b = l
before-by Equal values later row rest more l b = b
before-by Greater values later row rest more l b = b

before-added : (values : List ℕ) (later : Row) (rows : List Row) → order values later.values ≡ Less → Before values rows
    → Before values (added later rows)
unfolding Before added
before-added values later [] l b = l
before-added values later (row ∷ rest) l b =
    before-by (order later.values row.values) values later row rest (added later rest) l b

-- adding keeps the order
rises-by : (o : Ordering) (later row : Row) (rest : List Row) → order later.values row.values ≡ o → Rises (row ∷ rest)
    → Rises (added later rest) → Rises (by_order o (later ∷ row ∷ rest) (joined row later ∷ rest) (row ∷ added later rest))
unfolding Before
rises-by Less later row rest e h more = rises_from later (row ∷ rest) e h
rises-by Equal later row rest e h more =
    let parts = rises_parts row rest h in rises_from (joined row later) rest parts.0 parts.1
rises-by Greater later row rest e h more =
    let parts = rises_parts row rest h in
    rises_from row (added later rest)
    (before-added row.values later rest (greater-less later.values row.values e) parts.0) more

pub rises-added : (later : Row) (rows : List Row) → Rises rows → Rises (added later rows)
unfolding Rises added
rises-added later [] h = tt
rises-added later (row ∷ rest) h =
    rises-by (order later.values row.values) later row rest refl h (rises-added later rest (rises_parts row rest h).1)

-- the row with some values after one is added: that one, joined to the row that it found
abbrev pub joined_to : Option Row → Row → Row
joined_to None later = later
joined_to (Some row) later = joined row later

abbrev pub row_after : (later : Row) (rows : List Row) (values : List ℕ) → Option Row
row_after later rows values =
    cond (bytes_eq later.values values) (Some (joined_to (row_of rows later.values) later)) (row_of rows values)

row_of-by : (o : Ordering) (later row : Row) (rest : List Row) (values : List ℕ) → order later.values row.values ≡ o
    → Rises (row ∷ rest) → row_of (added later rest) values ≡ row_after later rest values
    → row_of (by_order o (later ∷ row ∷ rest) (joined row later ∷ rest) (row ∷ added later rest)) values
    ≡ row_after later (row ∷ rest) values
unfolding Before
row_of-by Less later row rest values e h more =
    let none : row_of (row ∷ rest) later.values ≡ None = none-before later.values (row ∷ rest) h e in
    ap (λ (found : Option Row). cond (bytes_eq later.values values) (Some (joined_to found later))
    (row_of (row ∷ rest) values)) (sym none)
row_of-by Equal later row rest values e h more =
    let same : later.values ≡ row.values = same-values later.values row.values (equal-same later.values row.values e) in
    let found : row_of (row ∷ rest) later.values ≡ Some row =
    ap (λ (vs : List ℕ). row_of (row ∷ rest) vs) same
    ∙ ap (λ (yes : Bool). cond yes (Some row) (row_of rest row.values)) (same-itself row.values) in
    chosen (bytes_eq row.values values) (Some (joined row later)) (Some row) (row_of rest values)
    ∙ ap (λ (vs : List ℕ). cond (bytes_eq vs values) (Some (joined row later)) (row_of (row ∷ rest) values)) (sym same)
    ∙ ap (λ (one : Option Row). cond (bytes_eq later.values values) (Some (joined_to one later))
    (row_of (row ∷ rest) values)) (sym found)
row_of-by Greater later row rest values e h more =
    let apart : bytes_eq row.values later.values ≡ false =
    less-apart row.values later.values (greater-less later.values row.values e) in
    let off : bytes_eq row.values values ≡ true → bytes_eq later.values values ≡ false =
    λ yes. ap (λ (vs : List ℕ). bytes_eq later.values vs) (sym (same-values row.values values yes))
    ∙ greater-apart later.values row.values e in
    ap (λ (found : Option Row). cond (bytes_eq row.values values) (Some row) found) more
    ∙ choices (bytes_eq row.values values) (bytes_eq later.values values) (Some row)
    (Some (joined_to (row_of rest later.values) later)) (row_of rest values) off
    ∙ ap (λ (no : Bool). cond (bytes_eq later.values values)
    (Some (joined_to (cond no (Some row) (row_of rest later.values)) later)) (row_of (row ∷ rest) values)) (sym apart)

pub row_of-added : (later : Row) (rows : List Row) (values : List ℕ) → Rises rows → row_of (added later rows) values
    ≡ row_after later rows values
unfolding added
row_of-added later [] values h = refl
row_of-added later (row ∷ rest) values h =
    row_of-by (order later.values row.values) later row rest values refl h
    (row_of-added later rest values (rises_parts row rest h).1)

-- a sum over rows that adds up where rows are joined
sum-by : (o : Ordering) (f : Row → ℕ) → ((row later : Row) → f (joined row later) ≡ f row + f later) → (later row : Row)
    (rest more : List Row) → sum_by f more ≡ sum_by f rest + f later
    → sum_by f (by_order o (later ∷ row ∷ rest) (joined row later ∷ rest) (row ∷ more)) ≡ sum_by f (row ∷ rest) + f later
sum-by Less f both later row rest more e = omega (arith, sum_by-cons f later (row ∷ rest))
sum-by Equal f both later row rest more e =
    omega (arith, sum_by-cons f (joined row later) rest, sum_by-cons f row rest, both row later)
sum-by Greater f both later row rest more e = omega (arith, sum_by-cons f row more, sum_by-cons f row rest)

pub sum-added : (f : Row → ℕ) → ((row later : Row) → f (joined row later) ≡ f row + f later) → (later : Row)
    (rows : List Row) → sum_by f (added later rows) ≡ sum_by f rows + f later
unfolding added
sum-added f both later [] = refl
sum-added f both later (row ∷ rest) =
    sum-by (order later.values row.values) f both later row rest (added later rest) (sum-added f both later rest)

-- the values of an earlier row stand in no later one
pub none-later : (row : Row) (rest : List Row) → Rises (row ∷ rest) → row_of rest row.values ≡ None
none-later row rest h = let parts = rises_parts row rest h in none-before row.values rest parts.1 parts.0

-- one row and another, of which either may lack, as one
abbrev pub both : Option Row → Option Row → Option Row
both found None = found
both found (Some later) = Some (joined_to found later)

pub rises-merged : (rows later : List Row) → Rises rows → Rises (merged rows later)
unfolding merged
rises-merged rows [] h = h
rises-merged rows (row ∷ rest) h = rises-added row (merged rows rest) (rises-merged rows rest h)

merged-by : (same : Bool) (rows all : List Row) (row : Row) (rest : List Row) (values : List ℕ)
    → bytes_eq row.values values ≡ same → row_of rest row.values ≡ None
    → ((vs : List ℕ) → row_of all vs ≡ both (row_of rows vs) (row_of rest vs))
    → row_after row all values ≡ both (row_of rows values) (row_of (row ∷ rest) values)
merged-by true rows all row rest values e none more =
    ap (λ (yes : Bool). cond yes (Some (joined_to (row_of all row.values) row)) (row_of all values)) e
    ∙ ap (λ (one : Option Row). Some (joined_to one row)) (more row.values ∙ ap (both (row_of rows row.values)) none
    ∙ ap (row_of rows) (same-values row.values values e))
    ∙ ap (λ (yes : Bool). both (row_of rows values) (cond yes (Some row) (row_of rest values))) (sym e)
merged-by false rows all row rest values e none more =
    ap (λ (yes : Bool). cond yes (Some (joined_to (row_of all row.values) row)) (row_of all values)) e
    ∙ more values ∙ ap (λ (yes : Bool). both (row_of rows values) (cond yes (Some row) (row_of rest values))) (sym e)

pub row_of-merged : (rows later : List Row) (values : List ℕ) → Rises rows → Rises later
    → row_of (merged rows later) values ≡ both (row_of rows values) (row_of later values)
unfolding merged
row_of-merged rows [] values h l = refl
row_of-merged rows (row ∷ rest) values h l =
    let parts = rises_parts row rest l in
    row_of-added row (merged rows rest) values (rises-merged rows rest h)
    ∙ merged-by (bytes_eq row.values values) rows (merged rows rest) row rest values refl (none-later row rest l)
    (λ vs. row_of-merged rows rest vs h parts.1)

pub sum-merged : (f : Row → ℕ) → ((row later : Row) → f (joined row later) ≡ f row + f later) → (rows later : List Row)
    → sum_by f (merged rows later) ≡ sum_by f rows + sum_by f later
unfolding merged
sum-merged f both rows [] = omega arith
sum-merged f both rows (row ∷ rest) =
    omega (arith, sum-added f both row (merged rows rest), sum-merged f both rows rest, sum_by-cons f row rest)

pub merged-append : (rows xs ys : List Row) → merged rows (xs ++ ys) ≡ merged (merged rows ys) xs
unfolding merged
merged-append rows [] ys = refl
merged-append rows (row ∷ xs) ys = ap (added row) (merged-append rows xs ys)

-- the last row of a later table is added first
pub merged-more : (rows front : List Row) (row : Row) → merged rows (front ++ row ∷ []) ≡ merged (added row rows) front
unfolding merged
merged-more rows front row = merged-append rows front (row ∷ [])

pub merged-none : (rows later : List Row) → length later ≡ 0 → merged rows later ≡ rows
unfolding merged
merged-none rows [] h = refl
merged-none rows (row ∷ rest) h = absurd (omega arith)

-- what is added is no longer left
pub room-kept : (f : Row → ℕ) → ((row later : Row) → f (joined row later) ≡ f row + f later) → (row : Row)
    (rows front : List Row) → sum_by f (added row rows) + sum_by f front ≡ sum_by f rows + sum_by f (front ++ row ∷ [])
room-kept f both row rows front =
    omega (arith, sum-added f both row rows, sum_by-append f front (row ∷ []), sum_by-cons f row [])
