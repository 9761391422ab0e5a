use Rattle.std.proofs.Common.{◌≡◌, ◌++◌, string_bytes, take}
use Rattle.hunt_texts.specs.Tables.{row_lines}
use Rattle.hunt_texts.proofs.tables.put_rows.Given as goal

-- the rows that were put so far
abbrev pub invariant-loop-row : goal.invariant-loop-row
invariant-loop-row l =
    string_bytes l.text ≡ string_bytes l.fn.text ++ row_lines l.places (take l.row-index l.rows)
