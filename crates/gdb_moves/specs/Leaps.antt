-- Rule: many turns at once, how far the cores that move come along the timeline: IsGone, IsLeft, HasLeapt
use Rattle.std.specs.Prelude.{◌≡◌, ℕ, ◌<◌, ◌≤◌, Bool, true, false, List, length, slice_index, take}
use Rattle.rtr_types.specs.CoreSets.{has}
use Rattle.rtr_types.specs.declared.TheConstants.{CORES_MAX}
use Rattle.rtr_types.specs.declared.core_set.CoreSet.{CoreSet}
use Rattle.rtr_types.specs.declared.cut.Cut.{Cut}
use Rattle.replay_core.specs.Orders.{counts, nought}
use Rattle.cut_replay.specs.ClosedCuts.{IsClosed, IsContained, count_in}
use Rattle.debug_place.specs.Places.{IsKept, Placed, cut_at}
use Rattle.gdb_moves.specs.declared.direction.Direction.{Direction}
use Rattle.gdb_moves.specs.declared.direction.Direction.TheVariants.{Forward, Back}
use Rattle.gdb_moves.specs.Moves.{Follow, TakesTurn}
use Rattle.gdb_moves.specs.Stopping.{Stopping}
use Rattle.gdb_moves.specs.Turns.{timeline_at}

-- the cores have at least what stands at the first places of the timeline, or back at most that
abbrev pub HaveReached : Direction → CoreSet → (timeline : List ℕ) → (number : ℕ) → Cut → Type 0
HaveReached Forward cores timeline number cut =
    (core : ℕ) → has cores core ≡ true → counts nought (take number timeline) core ≤ count_in cut core
HaveReached Back cores timeline number cut =
    (core : ℕ) → has cores core ≡ true → count_in cut core ≤ counts nought (take number timeline) core

-- the least closed cut that contains the place's and has come so far
pub record IsGone (cores : CoreSet) (place : Placed) (number : ℕ) (cut : Cut) : Type 0 where
  pub closed : IsClosed place.which place.recording cut
  pub contains : IsContained (cut_at place) cut
  pub reached : HaveReached Forward cores (timeline_at place) number cut
  pub least : (other : Cut) → IsClosed place.which place.recording other → IsContained (cut_at place) other →
      HaveReached Forward cores (timeline_at place) number other → IsContained cut other

-- the greatest closed cut within the place's that has come so far back
pub record IsLeft (cores : CoreSet) (place : Placed) (number : ℕ) (cut : Cut) : Type 0 where
  pub closed : IsClosed place.which place.recording cut
  pub contained : IsContained cut (cut_at place)
  pub reached : HaveReached Back cores (timeline_at place) number cut
  pub greatest : (other : Cut) → IsClosed place.which place.recording other → IsContained other (cut_at place) →
      HaveReached Back cores (timeline_at place) number other → IsContained other cut

abbrev pub IsGoneIn : Direction → CoreSet → Placed → (number : ℕ) → Cut → Type 0
IsGoneIn Forward cores place number cut = IsGone cores place number cut
IsGoneIn Back cores place number cut = IsLeft cores place number cut

-- turns of the cores were taken as far as this number of places, and nothing stopped them
pub record HasLeapt (direction : Direction) (stopping : Stopping) (cores : CoreSet) (old : Placed) (number : ℕ)
    (new : Placed) : Type 0 where
  pub kept : IsKept old new
  pub reached : HaveReached direction cores (timeline_at old) number (cut_at new)
  pub turns : ℕ
  pub free : Follow (TakesTurn direction stopping cores) turns old new

-- of each core how many of its instructions stand among the first places of the timeline
pub record IsCounted (place : Placed) (number : ℕ) (at : List ℕ) : Type 0 where
  pub wide : length at ≡ CORES_MAX
  pub each : (core : ℕ) → core < place.recording.params.cores →
      slice_index at core ≡ counts nought (take number (timeline_at place)) core
  pub rest : (core : ℕ) → place.recording.params.cores ≤ core → slice_index at core ≡ 0

-- they were all taken, or else none was
abbrev pub LeapsOrStays : (leapt : Bool) → Direction → Stopping → CoreSet → (old : Placed) → (number : ℕ) →
    (new : Placed) → Type 0
LeapsOrStays true direction stopping cores old number new = HasLeapt direction stopping cores old number new
LeapsOrStays false direction stopping cores old number new = new ≡ old
