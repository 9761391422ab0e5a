-- What a message does to the entry that is kept of its block.
use Rattle.std.specs.Prelude.{◌≡◌, ℕ}
use Rattle.msi_directory.specs.Deeds.{Deed}
use Rattle.msi_directory.specs.Entries.{answer_riding}
use Rattle.msi_directory.specs.Kept.{Kept, kept_at, kept_with}
use Rattle.msi_directory.specs.Table.{is_free}
use Rattle.msi_directory.specs.declared.entry.Entry.{Entry}
use Rattle.msi_directory.specs.declared.entry.Served.{Served}

-- this was done to the entry that is kept at the place
pub record IsDoneAt {R : Type 0} (done : Deed R) (old new : Kept R) (place : ℕ) (hand : R) (served : Served) : Type 0
  where
    pub kept : (past : Entry R) → new ≡ kept_with old place (done.after (kept_at old place past))
    pub answer : (past : Entry R) → answer_riding hand served.answer ≡ done.answer (kept_at old place past)
    pub free : (past : Entry R) → served.free ≡ is_free (done.after (kept_at old place past)).stage
