-- Groups of workers.
use Rattle.std.specs.Prelude.{◌≡◌, ◌≢◌, ℕ, zero, suc, ◌<◌, ◌%◌, ◌==◌, All, List, [], ◌∷◌, ◌++◌, length, map}
use Rattle.std.specs.Prelude.{slice_get, slice_index_or, if◌then◌else◌, Some, Result, Ok, Err}
use Rattle.atomic_table.specs.Seated.{TableId}
use Rattle.rtr_types.specs.declared.pairs.Which.{Which}
use Rattle.race_log.specs.declared.recording.Recording.{Recording}
use Rattle.replay_audit.specs.Determinate.{IsDeterminate}
use Rattle.replay_table.specs.Seats.{Sitting, AtRest}
use Rattle.replay_threads.specs.declared.groups.Stand.{Stand}
use Rattle.replay_threads.specs.declared.groups.Stand.TheVariants.{Ended, Waiting, Unsure, OutOfMemory}
use Rattle.replay_threads.specs.declared.turns.Turn.{Turn}
use Rattle.replay_threads.specs.declared.turns.Turn.TheVariants as turns
use Rattle.replay_threads.specs.Turns.{HasEnded}

-- what contracts see of a group: its workers, and how their last turns ended, taken together
pub record Grouped : Type 0 where
  pub workers : List Sitting
  pub stand : Stand

abbrev pub no_group : Grouped
no_group = record { workers = []; stand = Ended }

-- ---- which core is in which group

-- the cores below c that group g of n has, in order: core k is in group k mod n
abbrev pub members : (n g c : ℕ) → List ℕ
members n g zero = []
members n g (suc c) = if c % n == g then members n g c ++ c ∷ [] else members n g c

-- the workers of group g
abbrev pub workers_at : List Grouped → ℕ → List Sitting
workers_at groups g = (slice_index_or groups g no_group).workers

abbrev pub ids_of : List Sitting → List ℕ
ids_of workers = map (λ x. x.core.id) workers

-- the workers are at this table
abbrev pub AllAt : TableId → List Sitting → Type 0
AllAt table workers = All (λ x. x.table_id ≡ table) workers

-- the workers of all groups are
abbrev pub AreAt : TableId → List Grouped → Type 0
AreAt table groups = (g : ℕ) → g < length groups → AllAt table (workers_at groups g)

-- each of the n groups has the workers of its cores below c
pub record AreGrouped (n c : ℕ) (groups : List Grouped) : Type 0 where
  pub all : length groups ≡ n
  pub ids : (g : ℕ) → g < n → ids_of (workers_at groups g) ≡ members n g c

-- the same workers in the same groups
pub record AreKept (table : TableId) (old new : List Grouped) : Type 0 where
  pub all : length new ≡ length old
  pub ids : (g : ℕ) → g < length old → ids_of (workers_at new g) ≡ ids_of (workers_at old g)
  pub at : AreAt table new

-- the k-th seat is that of core k
abbrev pub AreInOrder : List Sitting → Type 0
AreInOrder seats = (k : ℕ) (x : Sitting) → slice_get seats k ≡ Some x → x.core.id ≡ k

-- a worker was put at the end of a group
pub record IsGivenTo (old : List Grouped) (to : ℕ) (worker : Sitting) (new : List Grouped) : Type 0 where
  pub all : length new ≡ length old
  pub there : workers_at new to ≡ workers_at old to ++ worker ∷ []
  pub others : (g : ℕ) → g ≢ to → workers_at new g ≡ workers_at old g

-- ---- turns

-- how one worker stands after its turn
abbrev pub stand_of : {E : Type 0} → Result Turn E → Stand
stand_of (Ok turns.Ended) = Ended
stand_of (Ok (turns.Waiting of)) = Waiting
stand_of (Ok turns.Short) = Unsure
stand_of (Ok turns.Raced) = Unsure
stand_of (Err e) = OutOfMemory

-- the core is published at its total
pub record IsDone (r : Recording) (x : Sitting) : Type 0 where
  pub rest : AtRest x
  pub ended : HasEnded r x

-- all workers are
abbrev pub AllDone : Recording → List Grouped → Type 0
AllDone r groups = (g : ℕ) → g < length groups → All (IsDone r) (workers_at groups g)

-- it is said that a worker can't go on only where the recording isn't determinate
abbrev pub IsOpenAt : Which → Recording → Stand → Type 0
IsOpenAt which r stand = stand ≡ Unsure → IsDeterminate which r → ⊥

-- the workers of a group after each has taken a turn
pub record Turned (which : Which) (r : Recording) (table : TableId) (xs : List Sitting) (stand : Stand)
    (ys : List Sitting) : Type 0 where
  pub ids : ids_of ys ≡ ids_of xs
  pub tables : AllAt table ys
  pub ended : stand ≡ Ended → All (IsDone r) ys
  pub unsure : IsOpenAt which r stand
