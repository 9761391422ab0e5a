-- The tables of a round, taken from the end.
use Rattle.std.proofs.Common.{◌≡◌, ℕ, ◌+◌, ◌*◌, ◌<◌, ◌≤◌, Bool, List, [], ◌∷◌, ◌++◌, Result, Ok, length, arith}
use Rattle.std.proofs.Common.{ap, subst, length-append}
use Rattle.std.proofs.Math.ListN.{get_or-append}
use Rattle.std.proofs.Math.Nat.{mul-le-mul_left}
use Rattle.std.proofs.Math.Seq.{get_or-append_seam}
use Rattle.run_ranges.specs.declared.rows.Row.{Row}
use Rattle.run_ranges.specs.Rounds.{AreTables}
use Rattle.run_ranges.specs.Tables.{IsTable}

-- where a batch begins
start-rises : (from batch j k : ℕ) → j ≤ k → from + batch * j ≤ from + batch * k
start-rises from batch j k h = omega (arith, mul-le-mul_left batch h)

module _ {A E : Type 0} (rows : A → List Row) (ends : ℕ → List ℕ) (breaks : ℕ → Bool) (from batch : ℕ) where
  first-tables : (tables : List (Result A E)) (last : Result A E)
      → AreTables rows ends breaks from batch (tables ++ last ∷ []) → AreTables rows ends breaks from batch tables
  first-tables tables last h i d low =
      let more : i < length (tables ++ last ∷ []) = omega (arith, low, length-append tables (last ∷ [])) in
      rw (get_or-append tables (last ∷ []) d i low) at (h i d more)

  last-table : (tables : List (Result A E)) (last : A) → AreTables rows ends breaks from batch (tables ++ Ok last ∷ [])
      → IsTable ends breaks (from + batch * length tables) (from + batch * (length tables + 1)) (rows last)
  last-table tables last h =
      let more : length tables < length (tables ++ Ok last ∷ []) = omega (arith, length-append tables (Ok last ∷ [])) in
      rw (get_or-append_seam tables (Ok last) [] (Ok last)) at (h (length tables) (Ok last) more)

  -- a batch's table is taken from the end, beside the table of those behind it
  pub record Taken (batches : ℕ) (front : List (Result A E)) (last : A) (behind : List Row) : Type 0 where
    pub low : from + batch * length front ≤ from + batch * (length front + 1)
    pub high : from + batch * (length front + 1) ≤ from + batch * batches
    pub own : IsTable ends breaks (from + batch * length front) (from + batch * (length front + 1)) (rows last)
    pub rest : IsTable ends breaks (from + batch * (length front + 1)) (from + batch * batches) behind
    pub firsts : AreTables rows ends breaks from batch front
    pub few : length front ≤ batches

  pub taken : (batches : ℕ) (tables front : List (Result A E)) (last : A) (behind : List Row) → tables ≡ front ++ Ok last ∷ []
      → length tables ≤ batches → AreTables rows ends breaks from batch tables
      → IsTable ends breaks (from + batch * length tables) (from + batch * batches) behind → Taken batches front last behind
  taken batches tables front last behind is few each table =
      let longer : length tables ≡ length front + 1 = omega (arith, ap length is, length-append front (Ok last ∷ [])) in
      let Each : List (Result A E) → Type 0 = λ ts. AreTables rows ends breaks from batch ts in
      let Rest : ℕ → Type 0 = λ n. IsTable ends breaks (from + batch * n) (from + batch * batches) behind in
      let all : AreTables rows ends breaks from batch (front ++ Ok last ∷ []) = subst Each is each in
      record {
        low = start-rises from batch (length front) (length front + 1) (omega arith);
        high = start-rises from batch (length front + 1) batches (omega (arith, longer, few));
        own = last-table front last all;
        rest = subst Rest longer table;
        firsts = first-tables front (Ok last) all;
        few = omega (arith, longer, few);
      }
