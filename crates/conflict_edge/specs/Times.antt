-- Rule: exact clocks and times: IsExactClock, AreExactTimes
-- Exact clocks and times, of a list of accesses in order.
use Rattle.std.specs.Prelude.{◌≡◌, ◌≢◌, ℕ, ◌<◌, ◌⊎◌, ◌↔◌, List, reverse, Option, Some, None, slice_index, IsTrue, ⊤}
use Rattle.std.specs.Option.{option_map}
use Rattle.rtr_types.specs.Accesses.{is_write}
use Rattle.rtr_types.specs.declared.instr.Instr.{Instr}
use Rattle.rtr_types.specs.declared.access.Access.{Access}
use Rattle.rtr_types.specs.declared.TheConstants.{CORES_MAX}
use Rattle.clock_core.specs.declared.clock.Clock.{Clock}
use Rattle.conflict_edge.specs.Clocks.{clock, last_write, last_read, Candidate}

-- the counts are the clock of y
abbrev pub IsExactClock : List Access → Instr → Clock → Type 0
IsExactClock list y counts = (i : ℕ) → i < CORES_MAX → slice_index counts i ≡ clock (reverse list) y i

-- what is noted of an access, where there is one: its instruction, and a clock
abbrev pub Note : Type 0
Note = Option (Instr × Clock)

-- the note has the access's instruction, with its exact clock
abbrev pub IsNoteOf : List Access → Option Access → Note → Type 0
IsNoteOf list None None = ⊤
IsNoteOf list None (Some note) = ⊥
IsNoteOf list (Some b) None = ⊥
IsNoteOf list (Some b) (Some note) = (note.0 ≡ b.at) × IsExactClock list b.at note.1

-- the times of a word: its last write and each core's last read of it since, each with its exact clock, and nothing
-- else
pub record AreExactTimes (list : List Access) (word : ℕ) (write : Note) (read : ℕ → Note) : Type 0 where
  pub write_is : IsNoteOf list (last_write (reverse list) word) write
  pub read_is : (core : ℕ) → core < CORES_MAX → IsNoteOf list (last_read (reverse list) word core) (read core)

-- the note is of z
abbrev pub IsNoted : Note → Instr → Type 0
IsNoted note z = option_map (λ (n : Instr × Clock). n.0) note ≡ Some z

-- The candidates of an access are the noted write and, where it writes, the noted reads, of other cores than its own.
abbrev pub TimesLaw : Type 0
TimesLaw = (list : List Access) (a : Access) (write : Note) (read : ℕ → Note) →
    AreExactTimes list a.word write read → (z : Instr) → z.core < CORES_MAX →
    Candidate (reverse list) a z
    ↔ ((z.core ≢ a.at.core) × (IsNoted write z ⊎ (IsTrue (is_write a.kind) × IsNoted (read z.core) z)))
