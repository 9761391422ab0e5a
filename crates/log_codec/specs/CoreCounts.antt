-- A count of each core, at most its total: an entry of a certificate has them, and a cut.
use Rattle.std.specs.Prelude.{◌≡◌, ℕ, ◌≤◌, List, length, slice_index, Result, Ok, Err, nat_le, if◌then◌else◌}
use Rattle.rtr_types.specs.Turns.{StandInTurn, count_up}
use Rattle.log_codec.specs.Faults.{◌>>=◌}
use Rattle.log_codec.specs.Reading.{number_at}
use Rattle.log_codec.specs.Spelling.{number}
use Rattle.log_codec.specs.Turns.{alike, read_in_turn, spelled_in_turn}

-- a count of a core is at most its total
abbrev pub CountStands : List ℕ → ℕ → ℕ → Type 0
CountStands totals core n = n ≤ slice_index totals core

-- a count of each core
pub record AreCounts (totals counts : List ℕ) : Type 0 where
  pub each_core : length counts ≡ length totals
  pub most : StandInTurn (CountStands totals) count_up 0 counts

-- their spelling
abbrev pub counts_text : List ℕ → List ℕ
counts_text counts = spelled_in_turn (alike number) count_up 0 counts

-- a count of a core; one that doesn't fit is a fault of the part in which it stands
unfoldable pub count_at : (part : ℕ) → List ℕ → ℕ → List ℕ → Result (ℕ × List ℕ) ℕ
count_at part totals core bytes = do
  n ← number_at part bytes
  if nat_le n.0 (slice_index totals core) then Ok n else Err part

-- a count of each core
abbrev pub counts_at : (part : ℕ) → List ℕ → List ℕ → Result (List ℕ × List ℕ) ℕ
counts_at part totals bytes = read_in_turn (count_at part totals) count_up (length totals) 0 bytes
