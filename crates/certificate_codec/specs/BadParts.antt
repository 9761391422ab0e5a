-- Rule: the first part of a certificate that has no reading: CertificateNames
-- The first part of a certificate that has no reading, in the grammar's own words: the parts below it are spelled by a
-- front of the bytes, and no valid part follows there. The first five parts are a recording's, of either version.
use Rattle.std.specs.Prelude.{◌≡◌, ◌≢◌, ℕ, ◌≤◌, ◌↔◌, List, [], ◌++◌, length, Err}
use Rattle.race_log.specs.declared.recording.Recording.{Recording}
use Rattle.log_codec.specs.BadParts.{FrontNames, UpToRegulated, recording_up_to}
use Rattle.log_codec.specs.Laws.{IsBytes}
use Rattle.log_codec.specs.Reading.{front_at}
use Rattle.rtr_types.specs.Turns.{StandInTurn, count_up}
use Rattle.certificate_codec.specs.Reading.{certificate_at}
use Rattle.certificate_codec.specs.Spelling.{clocks_text}
use Rattle.certificate_codec.specs.Validity.{AreEntries}

-- a valid sixth part at the front of the bytes, before the rest
pub record AreClocks (r : Recording) (bytes : List ℕ) (clocks : List (List (List ℕ))) (rest : List ℕ) : Type 0 where
  pub each_core : length clocks ≡ r.params.cores
  pub entries : StandInTurn (AreEntries r) count_up 0 clocks
  pub spelled : bytes ≡ clocks_text clocks ++ rest

-- all parts but the end, of which each is valid, and the rest after them
pub record UpToClocks (bytes rest : List ℕ) : Type 0 where
  pub before : List ℕ
  pub five : UpToRegulated bytes before
  pub clocks : List (List (List ℕ))
  pub sixth : AreClocks (recording_up_to bytes before five) before clocks rest

-- five valid parts, and no clocks after them
abbrev pub NoClocks : (bytes : List ℕ) → Type 0
NoClocks bytes = (rest : List ℕ) × (u : UpToRegulated bytes rest)
    × ((clocks : List (List (List ℕ))) (after : List ℕ) →
    AreClocks (recording_up_to bytes rest u) rest clocks after → ⊥)

-- which part is named, by its number: of the first five the one that is named of a recording, else the clocks, else the
-- end, where bytes follow the other parts
pub record CertificateNames (bytes : List ℕ) : Type 0 where
  pub front : (part : ℕ) → part ≤ 5 → (certificate_at bytes ≡ Err part) ↔ (front_at bytes ≡ Err part)
  pub clocks : (certificate_at bytes ≡ Err 6) ↔ NoClocks bytes
  pub end : (certificate_at bytes ≡ Err 7) ↔ ((rest : List ℕ) × UpToClocks bytes rest × (rest ≢ []))
  pub no_other : (part : ℕ) → certificate_at bytes ≡ Err part → (1 ≤ part) × (part ≤ 7)

-- the first five parts by what a recording's parts are, and then the sixth and the seventh
abbrev pub BadPart : Type 0
BadPart = (bytes : List ℕ) → IsBytes bytes → FrontNames bytes × CertificateNames bytes
