-- Texts that grow by the lines of one more item of a list.
use Rattle.std.proofs.Common.{◌≡◌, ℕ, zero, suc, ◌+◌, ◌<◌, List, [], ◌∷◌, ◌++◌, length, get_or, take, sym, ap, ◌∙◌}
use Rattle.std.proofs.Common.{append_assoc, arith}
use Rattle.std.specs.List.{flat_map, enumerate_from, range_with_len}
use Rattle.std.proofs.lemmas.List.{take_more, length-take-le, flat_map_more}
use Rattle.std.proofs.lemmas.List.Concat.{flat_map-append}

-- a text that was put after what stood there, and what the two make
pub grown : {new old so_far now : List ℕ} (added : List ℕ) → new ≡ old ++ added → old ≡ so_far → so_far ++ added ≡ now
    → new ≡ now
grown added step before more = step ∙ ap (λ (bs : List ℕ). bs ++ added) before ∙ more

-- one more item at the end of a list of items with their places
placed_push : {X : Type 0} (first : ℕ) (xs : List X) (x : X)
    → enumerate_from first (xs ++ x ∷ []) ≡ enumerate_from first xs ++ (first + length xs, x) ∷ []
placed_push first [] x = ap (λ (place : ℕ). (place, x) ∷ []) (omega arith)
placed_push first (y ∷ ys) x =
    ap (λ ps. (first, y) ∷ ps)
    (placed_push (first + 1) ys x ∙ ap (λ (place : ℕ). enumerate_from (first + 1) ys ++ (place, x) ∷ [])
    (omega arith))

-- the text of the items up to i, each with its place, and then that of the item at i
pub placed_more_from : {X : Type 0} (f : ℕ × X → List ℕ) (before : List ℕ) (first : ℕ) (xs : List X) (i : ℕ) (d : X)
    → i < length xs
    → (before ++ flat_map f (enumerate_from first (take i xs))) ++ f (first + i, get_or xs i d) ≡ before
    ++ flat_map f (enumerate_from first (take (i + 1) xs))
placed_more_from f before first xs i d inside =
    let place : first + length (take i xs) ≡ first + i = omega (arith, length-take-le i xs) in
    flat_map_more f before (enumerate_from first (take i xs)) (first + i, get_or xs i d)
    ∙ ap (λ (k : ℕ). before ++ flat_map f (enumerate_from first (take i xs) ++ (k, get_or xs i d) ∷ [])) (sym place)
    ∙ ap (λ ps. before ++ flat_map f ps) (sym (placed_push first (take i xs) (get_or xs i d)))
    ∙ ap (λ ys. before ++ flat_map f (enumerate_from first ys)) (sym (take_more xs i d inside))

-- the same where places are numbered from 0
pub placed_more : {X : Type 0} (f : ℕ × X → List ℕ) (before : List ℕ) (xs : List X) (i : ℕ) (d : X) → i < length xs
    → (before ++ flat_map f (enumerate_from 0 (take i xs))) ++ f (i, get_or xs i d) ≡ before
    ++ flat_map f (enumerate_from 0 (take (i + 1) xs))
placed_more f before xs i d inside =
    let place : i ≡ 0 + i = omega arith in
    ap (λ (k : ℕ). (before ++ flat_map f (enumerate_from 0 (take i xs))) ++ f (k, get_or xs i d)) place
    ∙ placed_more_from f before 0 xs i d inside

-- two lists of items with their places, one after the other
placed_append : {X : Type 0} (first : ℕ) (xs ys : List X)
    → enumerate_from first (xs ++ ys) ≡ enumerate_from first xs ++ enumerate_from (first + length xs) ys
placed_append first [] ys = ap (λ (k : ℕ). enumerate_from k ys) (omega arith)
placed_append first (x ∷ xs) ys =
    ap (λ ps. (first, x) ∷ ps)
    (placed_append (first + 1) xs ys
    ∙ ap (λ (k : ℕ). enumerate_from (first + 1) xs ++ enumerate_from k ys) (omega arith))

-- the text of the items of xs, each with its place, and then that of those behind them
pub placed_grown : {X : Type 0} (f : ℕ × X → List ℕ) (before : List ℕ) (first : ℕ) (xs ys zs : List X)
    → first ≡ length xs → xs ++ ys ≡ zs
    → (before ++ flat_map f (enumerate_from 0 xs)) ++ flat_map f (enumerate_from first ys) ≡ before
    ++ flat_map f (enumerate_from 0 zs)
placed_grown f before first xs ys zs here all =
    let place : first ≡ 0 + length xs = omega arith in
    append_assoc before (flat_map f (enumerate_from 0 xs)) (flat_map f (enumerate_from first ys))
    ∙ ap (λ (ls : List ℕ). before ++ ls)
    (ap (λ (k : ℕ). flat_map f (enumerate_from 0 xs) ++ flat_map f (enumerate_from k ys)) place
    ∙ sym (flat_map-append f (enumerate_from 0 xs) (enumerate_from (0 + length xs) ys))
    ∙ ap (λ ps. flat_map f ps) (sym (placed_append 0 xs ys))
    ∙ ap (λ ts. flat_map f (enumerate_from 0 ts)) all)

-- the text of the items up to i, and then that of the item at i
pub items_more : {X : Type 0} (f : X → List ℕ) (before : List ℕ) (xs : List X) (i : ℕ) (d : X) → i < length xs
    → (before ++ flat_map f (take i xs)) ++ f (get_or xs i d) ≡ before ++ flat_map f (take (i + 1) xs)
items_more f before xs i d inside =
    flat_map_more f before (take i xs) (get_or xs i d) ∙ ap (λ ys. before ++ flat_map f ys)
    (sym (take_more xs i d inside))

-- one more number at the end of a range
range_push : (first n : ℕ) → range_with_len first (suc n) ≡ range_with_len first n ++ (first + n) ∷ []
range_push first zero = ap (λ (k : ℕ). k ∷ []) (omega arith)
range_push first (suc n) =
    ap (λ (ks : List ℕ). first ∷ ks)
    (range_push (first + 1) n ∙ ap (λ (k : ℕ). range_with_len (first + 1) n ++ k ∷ []) (omega arith))

-- the text of the numbers from `first` up to k, and then that of k
pub range_more : (f : ℕ → List ℕ) (before : List ℕ) (first n k : ℕ) → first + n ≡ k
    → (before ++ flat_map f (range_with_len first n)) ++ f k ≡ before ++ flat_map f (range_with_len first (suc n))
range_more f before first n k at =
    ap (λ (m : ℕ). (before ++ flat_map f (range_with_len first n)) ++ f m) (sym at)
    ∙ flat_map_more f before (range_with_len first n) (first + n)
    ∙ ap (λ ks. before ++ flat_map f ks) (sym (range_push first n))
