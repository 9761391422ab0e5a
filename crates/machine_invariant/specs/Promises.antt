-- What is promised of an invariant of cores over a memory system, of whatever type the cores and their moves are.
use Rattle.std.specs.Prelude.{◌≡◌, ℕ, ◌<◌, ◌≤◌, ◌^◌, Bool, true, false, IsTrue, List, [], length}
use Rattle.access_times.specs.Riding.{Riding, Carrying}
use Rattle.image_mem.specs.Contents.{Contents}
use Rattle.rtr_types.specs.declared.TheConstants.{CORES_MAX}
use Rattle.rtr_types.specs.declared.params.Params.{Params}
use Rattle.msi_memory.specs.Acts.{Act, can_all}
use Rattle.msi_laws.specs.Moving.{links_empty}
use Rattle.msi_laws.specs.Walks.{MoveTaken, walked as walked_by}
use Rattle.msi_state.specs.CoreStates.{CoresState}

-- the start has it, whatever image the cores run
abbrev pub EachStartHas : {S : Type 0} → (start : Contents → (cores limit : ℕ) → S) → (Holds : S → Type 0) → Type 0
EachStartHas start Holds =
    (image : Contents) (cores limit : ℕ) → cores ≤ CORES_MAX → limit < 2 ^ 32 → Holds (start image cores limit)

-- The start has it, and moves keep it.
pub record IsInvariant {C M R K : Type 0} (riding : Riding R) (carrying : Carrying K)
    (Holds : Riding R → Carrying K → CoresState C R K → Type 0)
    (start : Riding R → Carrying K → Contents → (cores limit : ℕ) → CoresState C R K)
    (enabled : Riding R → Carrying K → CoresState C R K → M → Bool)
    (acts : Riding R → Carrying K → R → CoresState C R K → M → List (Act R))
    (step : Riding R → Carrying K → R → CoresState C R K → M → CoresState C R K) : Type 0 where
  pub started : EachStartHas (start riding carrying) (Holds riding carrying)
  -- what an enabled move of a state that has it does to the memory system can be done, one act after the other
  pub can : (s : CoresState C R K) (move : M) (rider : R) → IsTrue (enabled riding carrying s move)
      → Holds riding carrying s → IsTrue (can_all riding carrying s.memory (acts riding carrying rider s move))
  -- the move leads to a state that has it, whatever rider the clerk leaves
  pub kept : (s : CoresState C R K) (move : M) (rider : R) → IsTrue (enabled riding carrying s move)
      → Holds riding carrying s → Holds riding carrying (step riding carrying rider s move)
  -- so each state has it that moves lead to from the start, whatever moves they are and whatever riders clerks leave
  pub walked : (image : Contents) (cores limit : ℕ) → cores ≤ CORES_MAX → limit < 2 ^ 32
      → (taken : List (MoveTaken M R)) → Holds riding carrying
      (walked_by (enabled riding carrying) (step riding carrying) (start riding carrying image cores limit) taken)

-- each state of a run has it, whatever the run's choices are
abbrev pub EachRunHas : {S : Type 0} → (run : Contents → Params → (choices : ℕ → ℕ) → (t : ℕ) → S)
    → (Holds : S → Type 0) → Type 0
EachRunHas run Holds =
    (image : Contents) (params : Params) (choices : ℕ → ℕ) (t : ℕ)
    → params.cores ≤ CORES_MAX → params.limit < 2 ^ 32 → Holds (run image params choices t)

-- A state that has it moves on until each core has ended.
pub record MovesOn {C M R K : Type 0} (riding : Riding R) (carrying : Carrying K)
    (Holds : Riding R → Carrying K → CoresState C R K → Type 0)
    (enabled : Riding R → Carrying K → CoresState C R K → M → Bool)
    (moves : Riding R → Carrying K → CoresState C R K → List M)
    (has_row_for : Riding R → Carrying K → CoresState C R K → M → Bool)
    (HasRoomFor : Riding R → Carrying K → CoresState C R K → M → Type 0)
    (all_done : CoresState C R K → Bool) : Type 0 where
  -- of each enabled move the message has a row in its receiver's table, and where a block's data come, the access that
  -- waits for them can be made
  pub rows : (s : CoresState C R K) (m : M) → Holds riding carrying s
      → IsTrue (enabled riding carrying s m) → IsTrue (has_row_for riding carrying s m)
  -- no link that the move pushes to is full
  pub rooms : (s : CoresState C R K) (m : M) → Holds riding carrying s
      → IsTrue (enabled riding carrying s m) → HasRoomFor riding carrying s m
  -- until each core has ended some move is enabled
  pub goes_on : (s : CoresState C R K) → Holds riding carrying s → all_done s ≡ false
      → 0 < length (moves riding carrying s)
  -- and then nothing is under way, and no move is enabled
  pub links : (s : CoresState C R K) → Holds riding carrying s → all_done s ≡ true → links_empty s.memory ≡ true
  pub stops : (s : CoresState C R K) → Holds riding carrying s → all_done s ≡ true → moves riding carrying s ≡ []
