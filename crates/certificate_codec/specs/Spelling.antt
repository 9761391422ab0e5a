-- Rule: the bytes of a certificate: Spells
-- The spellings of certificates: the first five parts of a recording in either version, then the clocks.
use Rattle.std.specs.Prelude.{◌≡◌, ℕ, List, ◌++◌, length}
use Rattle.log_codec.specs.CoreCounts.{counts_text}
use Rattle.log_codec.specs.Spelling as recordings
use Rattle.log_codec.specs.Spelling.{number}
use Rattle.rtr_types.specs.Turns.{stay, count_up}
use Rattle.log_codec.specs.Turns.{alike, spelled_in_turn}
use Rattle.certificate_codec.specs.declared.certificate.Certificate.{Certificate}

-- the entries of a core: how many, and these, each a count of each core
abbrev pub entries_text : List (List ℕ) → List ℕ
entries_text entries = number (length entries) ++ spelled_in_turn (alike counts_text) stay (tt {0}) entries

-- the sixth part: the entries of each core
abbrev pub clocks_text : List (List (List ℕ)) → List ℕ
clocks_text clocks = spelled_in_turn (alike entries_text) count_up 0 clocks

-- the bytes spell the certificate: its recording, in a version whose limits it keeps, and then the clocks
pub record Spells (bytes : List ℕ) (c : Certificate) : Type 0 where
  pub front : List ℕ
  pub recording : recordings.Spells front c.recording
  pub parts : bytes ≡ front ++ clocks_text c.clocks

-- the spelling that is written
unfoldable pub spelling : Certificate → List ℕ
spelling c = recordings.spelling c.recording ++ clocks_text c.clocks
