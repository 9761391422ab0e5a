-- Rule: the reading of a thin file: thinned_at
-- Reading a thinned recording from left to right. A number that doesn't fit is a fault of the part in which it stands.
use Rattle.std.specs.Prelude.{ℕ, List, length, Result, Ok, Err, nat_eq, if◌then◌else◌}
use Rattle.std.specs.List.{starts_with}
use Rattle.log_codec.specs.declared.codec_fault.TheConstants.{HEADER}
use Rattle.race_log.specs.declared.recording.Recording.{Recording}
use Rattle.log_codec.specs.declared.version.Version.TheVariants.{Two}
use Rattle.log_codec.specs.CoreCounts.{counts_at}
use Rattle.log_codec.specs.Faults.{◌>>=◌, read_all}
use Rattle.log_codec.specs.Reading.{number_at, front_at}
use Rattle.rtr_types.specs.Turns.{stay}
use Rattle.log_codec.specs.Turns.{read_in_turn}
use Rattle.log_codec.specs.Versions.{magic}
use Rattle.part_lists.specs.Listed.{with_list}
use Rattle.vector_reduce.specs.declared.thinned.Shown.{Shown}
use Rattle.vector_reduce.specs.declared.thinned.Thinned.{Thinned}
use Rattle.vector_reduce.specs.declared.thinned.TheConstants.{SHOWN, END}
use Rattle.vector_reduce.specs.Validity.{cut_of}
use Rattle.vector_reduce.specs.Vectors.{vectors_of}

-- the first five parts are a recording's, in version 2 alone
unfoldable pub front_two_at : List ℕ → Result (Recording × List ℕ) ℕ
front_two_at bytes = if starts_with nat_eq bytes (magic Two) then front_at bytes else Err HEADER

-- the number of an edge, and a cut
unfoldable pub one_at : List ℕ → Unit {0} → List ℕ → Result (Shown × List ℕ) ℕ
one_at totals s bytes = do
  edge ← number_at SHOWN bytes
  counts ← counts_at SHOWN totals edge.1
  Ok (record { edge = edge.0; cut = cut_of counts.0 }, counts.1)

-- one for each vector
abbrev pub shown_in : Recording → List ℕ → Result (List Shown × List ℕ) ℕ
shown_in r bytes = read_in_turn (one_at r.totals) stay (length (vectors_of r)) tt bytes

abbrev pub made_of : Recording → List Shown → Thinned
made_of r shown = record { recording = r; shown = shown }

-- the parts but for the end, and the bytes after them
unfoldable pub parts_at : List ℕ → Result (Thinned × List ℕ) ℕ
parts_at bytes = with_list front_two_at shown_in made_of bytes

-- all parts
unfoldable pub thinned_at : List ℕ → Result Thinned ℕ
thinned_at bytes = read_all parts_at END bytes
