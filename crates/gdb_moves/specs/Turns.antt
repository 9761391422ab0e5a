-- Rule: whose turn it is where only some cores move: IsTurnIn, IsTurn, IsTurnBack
-- Whose turn it is where only some cores move: by the timeline, one place after the other.
use Rattle.std.specs.Prelude.{◌≡◌, ℕ, ◌+◌, ◌<◌, ◌≤◌, true, List, length, take, slice_index}
use Rattle.rtr_types.specs.CoreSets.{has}
use Rattle.rtr_types.specs.declared.core_set.CoreSet.{CoreSet}
use Rattle.rtr_types.specs.declared.cut.Cut.{Cut}
use Rattle.replay_core.specs.Orders.{counts, nought}
use Rattle.cut_replay.specs.ClosedCuts.{count_in}
use Rattle.cut_moves.specs.Rounds.{rounds_of}
use Rattle.debug_place.specs.Places.{Placed}
use Rattle.gdb_moves.specs.declared.direction.Direction.{Direction}
use Rattle.gdb_moves.specs.declared.direction.Direction.TheVariants.{Forward, Back}

abbrev pub timeline_at : Placed → List ℕ
timeline_at place = rounds_of place.which place.recording

-- the cut has the instruction at the place of the timeline with this number, counted from 0
abbrev pub IsDone : Cut → List ℕ → (number : ℕ) → Type 0
IsDone cut timeline number =
    counts nought (take number timeline) (slice_index timeline number) < count_in cut (slice_index timeline number)

-- of these cores it has what stands at the first places
abbrev pub AreDone : CoreSet → Cut → List ℕ → (past : ℕ) → Type 0
AreDone cores cut timeline past =
    (number : ℕ) → number < past → has cores (slice_index timeline number) ≡ true → IsDone cut timeline number

-- it's this core's turn: of these cores' instructions that the cut lacks its next one stands first in the timeline
pub record IsTurn (cores : CoreSet) (cut : Cut) (timeline : List ℕ) (core : ℕ) : Type 0 where
  pub number : ℕ
  pub inside : number < length timeline
  pub core_is : slice_index timeline number ≡ core
  pub one : has cores core ≡ true
  pub lacks : IsDone cut timeline number → ⊥
  pub before : AreDone cores cut timeline number

-- they have nothing left
abbrev pub NoTurn : CoreSet → Cut → List ℕ → Type 0
NoTurn cores cut timeline = AreDone cores cut timeline (length timeline)

-- ---- backwards

-- of these cores it has nothing that stands at the places from the first one on
abbrev pub AreGone : CoreSet → Cut → List ℕ → (first : ℕ) → Type 0
AreGone cores cut timeline first =
    (number : ℕ) → first ≤ number → number < length timeline → has cores (slice_index timeline number) ≡ true →
    IsDone cut timeline number → ⊥

-- it's this core's turn to go back: of these cores' instructions that the cut has its last one stands last in the
-- timeline
pub record IsTurnBack (cores : CoreSet) (cut : Cut) (timeline : List ℕ) (core : ℕ) : Type 0 where
  pub number : ℕ
  pub inside : number < length timeline
  pub core_is : slice_index timeline number ≡ core
  pub one : has cores core ≡ true
  pub here : IsDone cut timeline number
  pub behind : AreGone cores cut timeline (number + 1)

-- they have done nothing
abbrev pub NoTurnBack : CoreSet → Cut → List ℕ → Type 0
NoTurnBack cores cut timeline = AreGone cores cut timeline 0

-- ---- in a direction

abbrev pub IsTurnIn : Direction → CoreSet → Cut → List ℕ → (core : ℕ) → Type 0
IsTurnIn Forward cores cut timeline core = IsTurn cores cut timeline core
IsTurnIn Back cores cut timeline core = IsTurnBack cores cut timeline core

abbrev pub NoTurnIn : Direction → CoreSet → Cut → List ℕ → Type 0
NoTurnIn Forward cores cut timeline = NoTurn cores cut timeline
NoTurnIn Back cores cut timeline = NoTurnBack cores cut timeline
