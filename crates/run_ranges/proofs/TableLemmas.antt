-- Tables of neighbouring parts of a range, as one.
use Rattle.std.proofs.Common.{◌≡◌, ℕ, zero, suc, ◌+◌, ◌-◌, ◌≤◌, Bool, true, false, cond, ◌&&◌, List, [], ◌∷◌, ◌++◌}
use Rattle.std.proofs.Common.{Option, Some, None, arith, refl, sym, ap, ◌∙◌}
use Rattle.std.specs.Prelude.{count_by, sum_by}
use Rattle.std.specs.List.{find, range_with_len}
use Rattle.std.specs.Option.{option_map, option_or}
use Rattle.std.specs.Str.{bytes_eq}
use Rattle.std.proofs.lemmas.List.Folds.{find-append}
use Rattle.std.proofs.lemmas.List.FromFn.{length-range_with_len}
use Rattle.std.proofs.lemmas.List.Sums.{count_by-le-length, sum_by-append, sum_by-cons}
use Rattle.run_ranges.specs.declared.rows.Row.{Row}
use Rattle.run_ranges.specs.Tables.{IsTable, Rises, added, merged, range, row_of, single, summed}
use Rattle.run_ranges.proofs.RowLemmas.{both, rises-merged, row_of-merged, same-values, sum-merged}

-- a row of its parts
abbrev made : List ℕ → (count broken least : ℕ) → Row
made values count broken least = record { values = values; count = count; broken = broken; least = least }

made-same : (values : List ℕ) (c d b e n : ℕ) → c ≡ d → b ≡ e → Some (made values c b n) ≡ Some (made values d e n)
made-same values c d b e n same alike =
    ap (λ (k : ℕ). Some (made values k b n)) same ∙ ap (λ (k : ℕ). Some (made values d k n)) alike

abbrev one-if : Bool → ℕ
one-if b = cond b 1 0

-- a test that another's failing fails
none-by : (here : Bool) (p q : ℕ → Bool) (x : ℕ) (xs : List ℕ) → p x ≡ here → (p x ≡ false → q x ≡ false)
    → cond here (Some x) (find p xs) ≡ None → (find p xs ≡ None → count_by q xs ≡ 0) → count_by q (x ∷ xs) ≡ 0
none-by true p q x xs e less h more = absurd (cc)
none-by false p q x xs e less h more =
    let off : one-if (q x) ≡ 0 = ap one-if (less e) in
    omega (arith, sum_by-cons (λ n. one-if (q n)) x xs, off, more h)

-- none is counted where none is found
none-counted : (p q : ℕ → Bool) → ((n : ℕ) → p n ≡ false → q n ≡ false) → (xs : List ℕ) → find p xs ≡ None
    → count_by q xs ≡ 0
none-counted p q less [] h = refl
none-counted p q less (x ∷ xs) h = none-by (p x) p q x xs refl (less x) h (none-counted p q less xs)

-- rows of two lists of runs, where the first run that is found may lack in each
both-made : (values : List ℕ) (c cx cy b bx dy : ℕ) (first then : Option ℕ) → c ≡ cx + cy → b ≡ bx + dy
    → (first ≡ None → (cx ≡ 0) × (bx ≡ 0)) → (then ≡ None → (cy ≡ 0) × (dy ≡ 0))
    → option_map (made values c b) (option_or first then)
    ≡ both (option_map (made values cx bx) first) (option_map (made values cy dy) then)
both-made values c cx cy b bx dy None None ec eb none-first none-then = refl
both-made values c cx cy b bx dy None (Some m) ec eb none-first none-then =
    let none = none-first refl in made-same values c cy b dy m (omega (arith, none.0)) (omega (arith, none.1))
both-made values c cx cy b bx dy (Some n) None ec eb none-first none-then =
    let none = none-then refl in made-same values c cx b bx n (omega (arith, none.0)) (omega (arith, none.1))
both-made values c cx cy b bx dy (Some n) (Some m) ec eb none-first none-then =
    made-same values c (cx + cy) b (bx + dy) n ec eb

module _ (ends : ℕ → List ℕ) (breaks : ℕ → Bool) where
  -- the rows of two lists of runs, as one
  summed-append : (xs ys values : List ℕ) → summed ends breaks (xs ++ ys) values
      ≡ both (summed ends breaks xs values) (summed ends breaks ys values)
  unfolding summed
  summed-append xs ys values =
      let p : ℕ → Bool = λ n. bytes_eq (ends n) values in
      let q : ℕ → Bool = λ n. p n && breaks n in
      let less : (n : ℕ) → p n ≡ false → q n ≡ false = λ n h. ap (λ (b : Bool). b && breaks n) h in
      let same : (n : ℕ) → p n ≡ false → p n ≡ false = λ n h. h in
      ap (option_map (made values (count_by p (xs ++ ys)) (count_by q (xs ++ ys)))) (find-append p xs ys)
      ∙ both-made values (count_by p (xs ++ ys)) (count_by p xs) (count_by p ys) (count_by q (xs ++ ys)) (count_by q xs)
      (count_by q ys) (find p xs) (find p ys) (sum_by-append (λ n. one-if (p n)) xs ys)
      (sum_by-append (λ n. one-if (q n)) xs ys) (λ h. (none-counted p p same xs h, none-counted p q less xs h))
      (λ h. (none-counted p p same ys h, none-counted p q less ys h))

  -- one run's row
  single-by : (same broken : Bool) (n : ℕ) (own values : List ℕ) → (same ≡ true → own ≡ values)
      → cond same (Some (made own 1 (cond broken 1 0) n)) None
      ≡ option_map (made values (0 + cond same 1 0) (0 + cond (same && broken) 1 0)) (cond same (Some n) None)
  single-by true true n own values h = ap (λ (vs : List ℕ). Some (made vs 1 1 n)) (h refl)
  single-by true false n own values h = ap (λ (vs : List ℕ). Some (made vs 1 0 n)) (h refl)
  single-by false broken n own values h = refl

-- ranges
range-parts : (a m n : ℕ) → range_with_len a m ++ range_with_len (a + m) n ≡ range_with_len a (m + n)
range-parts a zero n =
    let start : a + 0 ≡ a = omega arith in
    let long : n ≡ 0 + n = omega arith in
    ap (λ (k : ℕ). range_with_len k n) start ∙ ap (range_with_len a) long
range-parts a (suc m) n =
    let start : a + suc m ≡ a + 1 + m = omega arith in
    let long : suc (m + n) ≡ suc m + n = omega arith in
    ap (λ (k : ℕ). a ∷ (range_with_len (a + 1) m ++ range_with_len k n)) start
    ∙ ap (λ (xs : List ℕ). a ∷ xs) (range-parts (a + 1) m n) ∙ ap (range_with_len a) long

range-split : (from middle to : ℕ) → from ≤ middle → middle ≤ to → range from middle ++ range middle to ≡ range from to
range-split from middle to low high =
    let start : middle ≡ from + (middle - from) = omega arith in
    let long : middle - from + (to - middle) ≡ to - from = omega arith in
    ap (λ (k : ℕ). range from middle ++ range_with_len k (to - middle)) start
    ∙ range-parts from (middle - from) (to - middle) ∙ ap (range_with_len from) long

module _ (ends : ℕ → List ℕ) (breaks : ℕ → Bool) where
  -- the tables of two neighbouring parts, as one
  pub table-joined : (from middle to : ℕ) (rows later : List Row) → from ≤ middle → middle ≤ to
      → IsTable ends breaks from middle rows → IsTable ends breaks middle to later
      → IsTable ends breaks from to (merged rows later)
  table-joined from middle to rows later low high h l =
      let split = range-split from middle to low high in
      record {
        each = λ values. row_of-merged rows later values h.rises l.rises
            ∙ ap (λ (one : Option Row). both one (row_of later values)) (h.each values)
            ∙ ap (both (summed ends breaks (range from middle) values)) (l.each values)
            ∙ sym (summed-append ends breaks (range from middle) (range middle to) values)
            ∙ ap (λ (runs : List ℕ). summed ends breaks runs values) split;
        rises = rises-merged rows later h.rises;
        counted = omega (arith, sum-merged (λ r. r.count) (λ _ _. refl) rows later, h.counted, l.counted);
        broken =
            let parts : count_by breaks (range from middle ++ range middle to)
            ≡ count_by breaks (range from middle) + count_by breaks (range middle to) =
            sum_by-append (λ n. one-if (breaks n)) (range from middle) (range middle to) in
            let whole = ap (count_by breaks) split in
            omega (arith, sum-merged (λ r. r.broken) (λ _ _. refl) rows later, h.broken, l.broken, parts, whole);
      }

  -- the table of no run
  pub table-empty : (n : ℕ) → IsTable ends breaks n n []
  unfolding summed Rises
  table-empty n =
      let none : range n n ≡ [] = let zero-long : n - n ≡ 0 = omega arith in ap (range_with_len n) zero-long in
      record {
        each = λ values. ap (λ (runs : List ℕ). summed ends breaks runs values) (sym none);
        rises = tt;
        counted = omega arith;
        broken = ap (count_by breaks) (sym none);
      }

  -- the table of one run
  pub table-single : (n : ℕ) → IsTable ends breaks n (n + 1) (single (ends n) (breaks n) n ∷ [])
  unfolding summed Rises
  table-single n =
      let one : range n (n + 1) ≡ n ∷ [] =
      let one-long : n + 1 - n ≡ suc 0 = omega arith in ap (range_with_len n) one-long in
      record {
        each = λ values. single-by ends breaks (bytes_eq (ends n) values) (breaks n) n (ends n) values
            (same-values (ends n) values) ∙ ap (λ (runs : List ℕ). summed ends breaks runs values) (sym one);
        rises = tt;
        counted = omega arith;
        broken = ap (count_by breaks) (sym one);
      }

  -- the table with one run more
  pub table-more : (from n : ℕ) (rows : List Row) → from ≤ n → IsTable ends breaks from n rows
      → IsTable ends breaks from (n + 1) (added (single (ends n) (breaks n) n) rows)
  unfolding merged
  table-more from n rows low h =
      table-joined from n (n + 1) rows (single (ends n) (breaks n) n ∷ []) low (omega arith) h (table-single n)

  -- no more runs break the claim than there are
  pub few-broken : (from to : ℕ) (rows : List Row) → IsTable ends breaks from to rows → sum_by (λ r. r.broken) rows ≤ to - from
  few-broken from to rows h =
      omega (arith, h.broken, count_by-le-length breaks (range from to), length-range_with_len from (to - from))

pub single-few : (values : List ℕ) (breaks : Bool) (n : ℕ) → (single values breaks n).broken ≤ 1
single-few values true n = omega arith
single-few values false n = omega arith

-- two neighbouring tables have no more runs than there are numbers
pub few-counted : (ends : ℕ → List ℕ) (breaks : ℕ → Bool) (from middle to : ℕ) (rows later : List Row) → from ≤ middle
    → middle ≤ to → IsTable ends breaks from middle rows → IsTable ends breaks middle to later
    → sum_by (λ r. r.count) rows + sum_by (λ r. r.count) later ≤ to
few-counted ends breaks from middle to rows later low high h l = omega (arith, h.counted, l.counted)

pub both-few-broken : (ends : ℕ → List ℕ) (breaks : ℕ → Bool) (from middle to : ℕ) (rows later : List Row) → from ≤ middle
    → middle ≤ to → IsTable ends breaks from middle rows → IsTable ends breaks middle to later
    → sum_by (λ r. r.broken) rows + sum_by (λ r. r.broken) later ≤ to
both-few-broken ends breaks from middle to rows later low high h l =
    omega (arith, few-broken ends breaks from middle rows h, few-broken ends breaks middle to later l)
