-- Rule: the text of a check: check_lines
-- The texts of checks that found nothing wrong.
use Rattle.std.specs.Prelude.{ℕ, List, ◌++◌, codes, decimal}
use Rattle.state_text.specs.Pieces.{line}

-- how many edges the log has that is least
abbrev pub check_lines : ℕ → List ℕ
check_lines edges = line (codes "least " ++ decimal edges ++ codes " edges")

-- how many vectors the log has that are each needed
abbrev pub needed_lines : ℕ → List ℕ
needed_lines vectors = line (codes "needed " ++ decimal vectors ++ codes " vectors")
