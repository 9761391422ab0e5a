-- Which certificates have a spelling.
use Rattle.std.specs.Prelude.{◌≡◌, ℕ, List, length}
use Rattle.race_log.specs.declared.recording.Recording.{Recording}
use Rattle.rtr_types.specs.Turns.{StandInTurn, stay, count_up}
use Rattle.log_codec.specs.CoreCounts.{AreCounts}
use Rattle.race_log.specs.Validity.{Valid}
use Rattle.certificate_codec.specs.declared.certificate.Certificate.{Certificate}
use Rattle.certificate_codec.specs.Ends.{end_count}

-- an entry has a count of each core
abbrev pub EntryStands : List ℕ → Unit {0} → List ℕ → Type 0
EntryStands totals s entry = AreCounts totals entry

-- a core has one entry for each of its edge ends
pub record AreEntries (r : Recording) (core : ℕ) (entries : List (List ℕ)) : Type 0 where
  pub number : length entries ≡ end_count r core
  pub each : StandInTurn (EntryStands r.totals) stay tt entries

-- the certificate has a spelling
pub record IsCertificate (c : Certificate) : Type 0 where
  pub recording : Valid c.recording
  pub each_core : length c.clocks ≡ c.recording.params.cores
  pub entries : StandInTurn (AreEntries c.recording) count_up 0 c.clocks
