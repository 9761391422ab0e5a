-- The table of a range: how its runs end, how often, and the least run that ends so.
use Rattle.std.specs.Prelude.{◌≡◌, ℕ, ◌+◌, ◌-◌, ◌&&◌, Bool, List, [], ◌∷◌, Option, if◌then◌else◌, count_by}
use Rattle.std.specs.Prelude.{sum_by}
use Rattle.std.specs.Cmp.Lexicographic.{slice_cmp}
use Rattle.std.specs.List.{find, range_with_len}
use Rattle.std.specs.Option.{option_map}
use Rattle.std.specs.Ordering.{nat_cmp}
use Rattle.std.specs.Str.{bytes_eq}
use Rattle.std.specs.declared.cmp.Ordering.{Ordering}
use Rattle.std.specs.declared.cmp.Ordering.TheVariants.{Less, Equal, Greater}
use Rattle.run_ranges.specs.declared.rows.Row.{Row}

-- the numbers from `from` up to below `to`
abbrev pub range : (from to : ℕ) → List ℕ
range from to = range_with_len from (to - from)

-- the row of the runs among these that end with these values: how many they are, how many of them break the claim,
-- and the first of them; none where no run ends so
unfoldable pub summed : (ends : ℕ → List ℕ) (breaks : ℕ → Bool) → (runs values : List ℕ) → Option Row
summed ends breaks runs values =
    let so : ℕ → Bool = λ n. bytes_eq (ends n) values in
    option_map (λ n. record {
      values = values;
      count = count_by so runs;
      broken = count_by (λ m. so m && breaks m) runs;
      least = n;
    }) (find so runs)

-- the row with these values
abbrev pub row_of : List Row → (values : List ℕ) → Option Row
row_of rows values = find (λ row. bytes_eq row.values values) rows

-- rows rise strictly by their values, compared from left to right
unfoldable pub Rises : List Row → Type 0
Rises [] = Unit {0}
Rises (row ∷ []) = Unit {0}
Rises (row ∷ next ∷ rest) = (slice_cmp nat_cmp row.values next.values ≡ Less) × Rises (next ∷ rest)

-- the rows are the table of the runs from `from` up to below `to`: of each list of values the row of the runs that end
-- so, in rising order; so their counts add up to the number of runs, and those that break it to the number of these
pub record IsTable (ends : ℕ → List ℕ) (breaks : ℕ → Bool) (from to : ℕ) (rows : List Row) : Type 0 where
  pub each : (values : List ℕ) → row_of rows values ≡ summed ends breaks (range from to) values
  pub rises : Rises rows
  pub counted : sum_by (λ row. row.count) rows ≡ to - from
  pub broken : sum_by (λ row. row.broken) rows ≡ count_by breaks (range from to)

-- a row and a later one with the same values, as one
abbrev pub joined : Row → Row → Row
joined row later = record row { count = row.count + later.count; broken = row.broken + later.broken }

-- the row of one run
abbrev pub single : (values : List ℕ) → (breaks : Bool) → (run : ℕ) → Row
single values breaks run = record {
  values = values;
  count = 1;
  broken = if breaks then 1 else 0;
  least = run;
}

-- one of three, by an order
abbrev pub by_order : {A : Type 0} → Ordering → (less equal greater : A) → A
by_order Less less equal greater = less
by_order Equal less equal greater = equal
by_order Greater less equal greater = greater

-- the rows with one more, which is joined to the row with its values, or stands where it keeps the order
unfoldable pub added : Row → List Row → List Row
added later [] = later ∷ []
added later (row ∷ rest) = by_order (slice_cmp nat_cmp later.values row.values) (later ∷ row ∷ rest)
    (joined row later ∷ rest) (row ∷ added later rest)

-- the rows with all of a later table
unfoldable pub merged : List Row → (later : List Row) → List Row
merged rows [] = rows
merged rows (row ∷ rest) = added row (merged rows rest)
