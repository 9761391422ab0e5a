-- Rule: the reading of a certificate: certificate_at
-- Reading a certificate from left to right. A number that doesn't fit is a fault of the part in which it stands.
use Rattle.std.specs.Prelude.{ℕ, List, Result, Ok, Err, nat_eq, if◌then◌else◌}
use Rattle.race_log.specs.declared.recording.Recording.{Recording}
use Rattle.log_codec.specs.CoreCounts.{counts_at}
use Rattle.log_codec.specs.Faults.{◌>>=◌, read_all}
use Rattle.log_codec.specs.Reading.{number_at, front_at}
use Rattle.rtr_types.specs.Turns.{stay, count_up}
use Rattle.log_codec.specs.Turns.{read_in_turn}
use Rattle.part_lists.specs.Listed.{with_list}
use Rattle.certificate_codec.specs.declared.certificate.Certificate.{Certificate}
use Rattle.certificate_codec.specs.declared.certificate.TheConstants.{CLOCKS, END}
use Rattle.certificate_codec.specs.Ends.{end_count}

-- an entry: a count of each core
abbrev pub entry_at : List ℕ → Unit {0} → List ℕ → Result (List ℕ × List ℕ) ℕ
entry_at totals s bytes = counts_at CLOCKS totals bytes

-- the number is the true one
abbrev pub true_number : Recording → ℕ → ℕ → List ℕ → Result (ℕ × List ℕ) ℕ
true_number r core n rest = if nat_eq n (end_count r core) then Ok (n, rest) else Err CLOCKS

-- the entries of a core: how many, and these
unfoldable pub entries_at : Recording → ℕ → List ℕ → Result (List (List ℕ) × List ℕ) ℕ
entries_at r core bytes = do
  n ← number_at CLOCKS bytes
  count ← true_number r core n.0 n.1
  read_in_turn (entry_at r.totals) stay count.0 tt count.1

-- the entries of each core
abbrev pub clocks_at : Recording → List ℕ → Result (List (List (List ℕ)) × List ℕ) ℕ
clocks_at r bytes = read_in_turn (entries_at r) count_up r.params.cores 0 bytes

abbrev pub made_of : Recording → List (List (List ℕ)) → Certificate
made_of r clocks = record { recording = r; clocks = clocks }

-- the parts but for the end, and the bytes after them: the first five are a recording's, then the clocks
unfoldable pub parts_at : List ℕ → Result (Certificate × List ℕ) ℕ
parts_at bytes = with_list front_at clocks_at made_of bytes

-- all parts
unfoldable pub certificate_at : List ℕ → Result Certificate ℕ
certificate_at bytes = read_all parts_at END bytes
