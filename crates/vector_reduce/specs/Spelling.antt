-- Rule: the bytes of a thin file: spelling
-- The spellings of thinned recordings: the first five parts of a recording in version 2, then what shows that each
-- vector is needed.
use Rattle.std.specs.Prelude.{◌≡◌, ℕ, List, ◌++◌}
use Rattle.log_codec.specs.CoreCounts.{counts_text}
use Rattle.log_codec.specs.Spelling as recordings
use Rattle.log_codec.specs.Spelling.{number}
use Rattle.rtr_types.specs.Turns.{stay}
use Rattle.log_codec.specs.Turns.{alike, spelled_in_turn}
use Rattle.vector_reduce.specs.declared.thinned.Shown.{Shown}
use Rattle.vector_reduce.specs.declared.thinned.Thinned.{Thinned}
use Rattle.vector_reduce.specs.Validity.{counts_of}

-- the number of an edge, and the counts of a cut
abbrev pub one_text : Shown → List ℕ
one_text x = number x.edge ++ counts_text (counts_of x.cut)

-- the sixth part: one for each vector
abbrev pub shown_text : List Shown → List ℕ
shown_text shown = spelled_in_turn (alike one_text) stay (tt {0}) shown

-- the one spelling
unfoldable pub spelling : Thinned → List ℕ
spelling t = recordings.spelling t.recording ++ shown_text t.shown

abbrev pub Spells : List ℕ → Thinned → Type 0
Spells bytes t = bytes ≡ spelling t
