-- Rule: how a table is printed: table_text
-- The lines of a table.
use Rattle.std.specs.Prelude.{ℕ, ◌==◌, List, [], ◌∷◌, ◌++◌, Option, Some, None, codes, decimal, length, if◌then◌else◌}
use Rattle.std.specs.List.{flat_map}
use Rattle.end_claims.specs.declared.claim.Place.{Place}
use Rattle.run_ranges.specs.declared.rows.Row.{Row}
use Rattle.hunt_texts.specs.Shown.{answers}

-- `*>` where some of the runs break the claim
abbrev pub mark : (broken : ℕ) → List ℕ
mark broken = if broken == 0 then codes " :>" else codes " *>"

-- how many runs end so, whether they break the claim, how they end, and the least of them
abbrev pub row_line : List Place → Row → List ℕ
row_line places row =
    decimal row.count ++ mark row.broken ++ answers places row.values ++ codes " run " ++ decimal row.least
    ++ codes "\n"

abbrev pub row_lines : List Place → List Row → List ℕ
row_lines places rows = flat_map (row_line places) rows

-- how many runs break the claim, where one is made
abbrev pub breaks_line : Option ℕ → List ℕ
breaks_line None = []
breaks_line (Some count) = codes "breaks " ++ decimal count ++ codes "\n"

-- how many rows there are
abbrev pub head_line : (first last outcomes : ℕ) → List ℕ
head_line first last outcomes =
    codes "runs " ++ decimal first ++ codes ".." ++ decimal last ++ codes " outcomes " ++ decimal outcomes ++ codes "\n"

-- the table of the runs from the first to the last
abbrev pub table_text : (first last : ℕ) → List Place → List Row → (broken : Option ℕ) → List ℕ
table_text first last places rows broken =
    head_line first last (length rows) ++ row_lines places rows ++ breaks_line broken
