-- Rule: cuts with names: with_mark, counts_of
-- Marks: cuts with names.
use Rattle.std.specs.Prelude.{◌≡◌, ℕ, ◌==◌, Bool, not, List, [], ◌∷◌, ◌++◌, length, take, filter, codes, Option, Some}
use Rattle.std.specs.Prelude.{None, if◌then◌else◌}
use Rattle.std.specs.List.{flat_map}
use Rattle.std.specs.Str.{bytes_eq}
use Rattle.rtr_types.specs.declared.cut.Cut.{Cut}
use Rattle.gdb_commands.specs.Lines.{counts_text, line}
use Rattle.cut_marks.specs.declared.marks.Mark.{Mark}

-- a cut with a name: a count for each core
abbrev pub mark_of : (name : List ℕ) → Cut → Mark
mark_of name cut = record { name = name; counts = take cut.cores cut.counts }

abbrev pub is_named : (name : List ℕ) → Mark → Bool
is_named name mark = bytes_eq mark.name name

-- the marks of other names
abbrev pub without_name : (name : List ℕ) → List Mark → List Mark
without_name name marks = filter (λ mark. not (is_named name mark)) marks

-- and behind them this one
abbrev pub with_mark : Mark → List Mark → List Mark
with_mark mark marks = without_name mark.name marks ++ mark ∷ []

-- the counts of the first one with the name
unfoldable pub counts_of : (name : List ℕ) → List Mark → Option (List ℕ)
counts_of name [] = None
counts_of name (mark ∷ marks) = if is_named name mark then Some mark.counts else counts_of name marks

-- what was put is found
abbrev pub FoundLaw : Type 0
FoundLaw = (name : List ℕ) (cut : Cut) (marks : List Mark) →
    counts_of name (with_mark (mark_of name cut) marks) ≡ Some (take cut.cores cut.counts)

-- ---- what is told

abbrev pub behind_name : (counts : List ℕ) → List ℕ
behind_name counts = line (codes ":" ++ counts_text counts)

abbrev pub mark_row : Mark → List ℕ
mark_row mark = mark.name ++ behind_name mark.counts

abbrev pub marks_text : List Mark → List ℕ
marks_text marks = if length marks == 0 then line (codes "no mark") else flat_map mark_row marks
