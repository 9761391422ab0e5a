-- What a history keeps: when more was known of a core.
use Rattle.std.specs.Prelude.{◌≡◌, ◌≢◌, ℕ, ◌+◌, ◌*◌, ◌<◌, ◌&&◌, not, Bool, IsTrue, List, [], ◌∷◌, ◌++◌, length}
use Rattle.std.specs.Prelude.{map, nat_eq, nat_le, nat_lt, slice_index, slice_index_or, if◌then◌else◌}
use Rattle.std.specs.List.{range_with_len}
use Rattle.rtr_types.specs.declared.TheConstants.{CORES_MAX}
use Rattle.rtr_types.specs.declared.instr.Instr.{Instr}
use Rattle.clock_core.specs.Counts.{no_counts}
use Rattle.clock_core.specs.declared.clock.Clock.{Clock}
use Rattle.know_history.specs.declared.changes.Change.{Change}
use Rattle.know_history.specs.declared.history.Newest.{Newest}
use Rattle.know_history.specs.Notes.{Notes, rises}

-- how many were known at the retirement with this count: as many as at the last change up to it, and before the first
-- as
-- many as are given
abbrev pub known_by : (before : ℕ) → List Change → (count : ℕ) → ℕ
known_by before [] count = before
known_by before (change ∷ changes) count =
    if nat_le change.count count then known_by change.known changes count else before

-- the counts rise from above the least up to the most
abbrev pub do_rise : (least most : ℕ) → List Change → Bool
do_rise least most [] = nat_le least most
do_rise least most (change ∷ changes) = nat_lt least change.count && do_rise change.count most changes

-- ---- the lists of all cores

-- the place of the changes of what the core knows of core `of`
abbrev pub list_place : (core of : ℕ) → ℕ
list_place core «of» = core * CORES_MAX + «of»

abbrev pub changes_at : List (List Change) → (core of : ℕ) → List Change
changes_at lists core «of» = slice_index_or lists (list_place core «of») []

-- no retirement is noted
abbrev pub no_newest : Newest
no_newest = record { count = 0; known = no_counts }

-- the core's last retirement
abbrev pub newest_at : List Newest → (core : ℕ) → Newest
newest_at newest core = slice_index_or newest core no_newest

-- what was known at the core's retirement with this count
abbrev pub row_at : List (List Change) → (core count : ℕ) → Clock
row_at lists core count = map (λ «of». known_by 0 (changes_at lists core «of») count) (range_with_len 0 CORES_MAX)

-- what was known at each of the core's retirements
abbrev pub rows_at : List Newest → List (List Change) → (core : ℕ) → List Clock
rows_at newest lists core = map (row_at lists core) (range_with_len 1 (newest_at newest core).count)

abbrev pub notes_of : List Newest → List (List Change) → Notes
notes_of newest lists = map (rows_at newest lists) (range_with_len 0 (length newest))

-- these are the changes of a count over so many retirements, which at the last one is this
pub record AreChanges (noted known : ℕ) (changes : List Change) : Type 0 where
  pub rising : IsTrue (do_rise 0 noted changes)
  pub last : known_by 0 changes noted ≡ known
  pub each : rises (known_by 0 changes) noted ≡ length changes

-- each core's lists hold the changes of what is known
pub record HoldNotes (newest : List Newest) (lists : List (List Change)) : Type 0 where
  pub places : length lists ≡ length newest * CORES_MAX
  pub changes : (core of : ℕ) → core < length newest → «of» < CORES_MAX →
      AreChanges (newest_at newest core).count (slice_index (newest_at newest core).known «of»)
      (changes_at lists core «of»)

-- ---- one retirement is noted

-- the count of core `of` is another core's and above the newest one
abbrev pub is_news : Instr → (of : ℕ) → (known newest : ℕ) → Bool
is_news at «of» known newest = not (nat_eq «of» at.core) && nat_lt newest known

-- what the list and the newest count become
abbrev pub changed_list : Instr → (of : ℕ) → (known newest : ℕ) → List Change → List Change
changed_list at «of» known newest changes =
    if is_news at «of» known newest then changes ++ record { count = at.count; known = known } ∷ [] else changes

abbrev pub changed_count : Instr → (of : ℕ) → (known newest : ℕ) → ℕ
changed_count at «of» known newest = if is_news at «of» known newest then known else newest

-- the lists and the core's newest counts before and after a retirement at which so much is known
pub record AreChanged (at : Instr) (counts : Clock) (old : List (List Change)) (newest : Clock)
    (new : List (List Change)) (newer : Clock) : Type 0 where
  pub long : length new ≡ length old
  pub lists : (of : ℕ) → «of» < CORES_MAX → changes_at new at.core «of»
      ≡ changed_list at «of» (slice_index counts «of») (slice_index newest «of») (changes_at old at.core «of»)
  pub known : (of : ℕ) → «of» < CORES_MAX → slice_index newer «of»
      ≡ changed_count at «of» (slice_index counts «of») (slice_index newest «of»)
  pub others : (core of : ℕ) → core ≢ at.core → «of» < CORES_MAX → changes_at new core «of» ≡ changes_at old core «of»
