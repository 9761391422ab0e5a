-- Where each core's instructions stand in a timeline. Places and instructions are counted from 0.
use Rattle.std.specs.Prelude.{◌≡◌, ℕ, ◌+◌, ◌-◌, ◌<◌, ◌≤◌, ◌^◌, Bool, false, ◌&&◌, nat_le, nat_lt, List, []}
use Rattle.std.specs.Prelude.{length, take}
use Rattle.std.specs.Prelude.{slice_index, slice_index_or}
use Rattle.rtr_types.specs.declared.TheConstants.{CORES_MAX}
use Rattle.replay_core.specs.Orders.{counts, nought}
use Rattle.cut_moves.specs.declared.seats.Window.{Window}

-- the core's instruction behind so many of its own stands at the place with this number
pub record IsSeat (timeline : List ℕ) (core count number : ℕ) : Type 0 where
  pub inside : number < length timeline
  pub core_is : slice_index timeline number ≡ core
  pub behind : counts nought (take number timeline) core ≡ count

-- of the first places, these are the core's, one after the other
pub record AreSeats (timeline : List ℕ) (past core : ℕ) (seats : List ℕ) : Type 0 where
  pub all : length seats ≡ counts nought (take past timeline) core
  pub each : (count : ℕ) → count < length seats → IsSeat timeline core count (slice_index seats count)

-- these are the seats of all cores among the first places
pub record SeatsUpTo (timeline : List ℕ) (past : ℕ) (seats : List (List ℕ)) : Type 0 where
  pub wide : length seats ≡ CORES_MAX
  pub each : (core : ℕ) → core < CORES_MAX → AreSeats timeline past core (slice_index_or seats core [])

-- these are the seats of all cores in a timeline, which has no more cores than there may be
pub record HaveSeats (timeline : List ℕ) (seats : List (List ℕ)) : Type 0 where
  pub few : (number : ℕ) → number < length timeline → slice_index timeline number < CORES_MAX
  pub short : length timeline < 2 ^ 32
  pub up_to : SeatsUpTo timeline (length timeline) seats

-- ---- seats before a place

-- each number is below the next
abbrev pub Rise : List ℕ → Type 0
Rise seats = (i j : ℕ) → i < j → j < length seats → slice_index seats i < slice_index seats j

-- from the lower on, before the higher, just those before so many are below the number
pub record IsHowMany (seats : List ℕ) (low high number some : ℕ) : Type 0 where
  pub least : low ≤ some
  pub most : some ≤ high
  pub below : (count : ℕ) → low ≤ count → count < some → slice_index seats count < number
  pub above : (count : ℕ) → some ≤ count → count < high → number ≤ slice_index seats count

-- ---- windows

-- the number lies within
abbrev pub is_within : Window → (number : ℕ) → Bool
is_within window number = nat_le window.from number && nat_lt number window.past

-- the core's window
abbrev pub window_at : List Window → (core : ℕ) → Window
window_at windows core = slice_index_or windows core (record { from = 0; past = 0 })

-- from the seat of the instruction behind so many, past the seat of the last before the higher count
pub record Spans (seats : List ℕ) (low high : ℕ) (window : Window) : Type 0 where
  pub from : window.from ≡ slice_index seats low
  pub past : window.past ≡ slice_index seats (high - 1) + 1

-- what a window has of a core's seats, between two counts
pub record IsWindow (seats : List ℕ) (low high : ℕ) (window : Window) : Type 0 where
  pub some : low < high → Spans seats low high window
  pub none : high ≤ low → (number : ℕ) → is_within window number ≡ false

-- of each core its window has those places that stand between its counts in two cuts
pub record AreWindows (timeline : List ℕ) (low high : ℕ → ℕ) (windows : List Window) : Type 0 where
  pub few : (number : ℕ) → number < length timeline → slice_index timeline number < CORES_MAX
  pub wide : length windows ≡ CORES_MAX
  pub each : (core number : ℕ) → core < CORES_MAX → number < length timeline → slice_index timeline number ≡ core →
      is_within (window_at windows core) number
      ≡ (nat_le (low core) (counts nought (take number timeline) core)
      && nat_lt (counts nought (take number timeline) core) (high core))
