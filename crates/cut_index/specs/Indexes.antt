-- Rule: where a core and a word stand, by an index: IsCoreAt, IsNextAt, IsWordAt
-- What an index tells, and what it has.
use Rattle.std.specs.Prelude.{◌≡◌, ℕ, ◌<◌, List, length, slice_index, slice_index_or}
use Rattle.rtr_types.specs.declared.cut.Cut.{Cut}
use Rattle.image_mem.specs.Contents.{Contents}
use Rattle.rv_core.specs.declared.core_state.Core.{Core}
use Rattle.rv_core.specs.declared.outcome.Outcome.{Outcome}
use Rattle.race_queries.specs.Queries.{IsAudited}
use Rattle.replay_core.specs.Plans.{plan_of, recorded_image}
use Rattle.replay_core.specs.Play.{core_at, need_at, use_of}
use Rattle.replay_audit.specs.Audits.{Findings}
use Rattle.cut_replay.specs.ClosedCuts.{count_in}
use Rattle.cut_replay.specs.CutStates.{IsStateAt}
use Rattle.cut_index.specs.Alone.{alone_first}
use Rattle.cut_index.specs.AloneLaws.{next_at, own_loads}
use Rattle.cut_index.specs.Runs.{IsRun}
use Rattle.cut_index.specs.Touches.{used_by}
use Rattle.cut_index.specs.Writes.{AreWrites}
use Rattle.cut_index.specs.declared.alone.Next.{Next}
use Rattle.cut_index.specs.declared.runs.Run.{Run}
use Rattle.cut_index.specs.declared.writes.Write.{Write}

-- ---- what it tells

-- so the core stands at each closed cut with so many of its instructions
abbrev pub IsCoreAt : Findings → (core count : ℕ) → Core → Type 0
IsCoreAt a core count result = (cut : Cut) (outcome : Outcome) → IsStateAt a.which a.recording cut outcome →
    count_in cut core ≡ count → result ≡ core_at outcome core

-- and this is the address of its next instruction, and the access that it makes
pub record ComesNext (a : Findings) (core : ℕ) (outcome : Outcome) (next : Next) : Type 0 where
  pub pc : next.pc ≡ (core_at outcome core).pc
  pub used : next.used ≡ use_of (need_at (plan_of a.which a.recording) outcome core)

abbrev pub IsNextAt : Findings → (core count : ℕ) → Next → Type 0
IsNextAt a core count next = (cut : Cut) (outcome : Outcome) → IsStateAt a.which a.recording cut outcome →
    count_in cut core ≡ count → ComesNext a core outcome next

-- the addresses of a core's instructions
pub record ArePcsOf (a : Findings) (core : ℕ) (pcs : List ℕ) : Type 0 where
  pub all : length pcs ≡ slice_index a.recording.totals core
  pub each : (count : ℕ) → count < length pcs → slice_index pcs count ≡ (next_at a.which a.recording core count).pc

-- and the numbers that stand for their accesses
pub record AreUsesOf (a : Findings) (core : ℕ) (uses : List ℕ) : Type 0 where
  pub all : length uses ≡ slice_index a.recording.totals core
  pub each : (count : ℕ) → count < length uses →
      used_by (slice_index uses count) ≡ (next_at a.which a.recording core count).used

-- so the word stands at the cut
abbrev pub IsWordAt : Findings → Cut → (word : ℕ) → (value : ℕ) → Type 0
IsWordAt a cut word value = (outcome : Outcome) → IsStateAt a.which a.recording cut outcome →
    value ≡ slice_index outcome.words word

-- ---- what it has

-- the run of the recording's core on its own
abbrev pub IsRunOf : Findings → (core : ℕ) → Run → Type 0
IsRunOf a core run =
    IsRun (recorded_image a.recording) (own_loads a.which a.recording core)
    (alone_first core a.recording.params.limit) (slice_index a.recording.totals core) run

-- those of so many cores
pub record AreRuns (a : Findings) (past : ℕ) (runs : List Run) : Type 0 where
  pub all : length runs ≡ past
  pub each : (core : ℕ) (d : Run) → core < past → IsRunOf a core (slice_index_or runs core d)

-- a run of each core, and the writes of each word
pub record Indexes (a : Findings) (image : Contents) (runs : List Run) (writes : List (List Write)) : Type 0 where
  pub audited : IsAudited a
  pub image_is : image ≡ recorded_image a.recording
  pub runs_are : AreRuns a a.recording.params.cores runs
  pub writes_are : AreWrites a.recording.params.words a.accesses writes
