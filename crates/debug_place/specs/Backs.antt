-- Rule: the last stop of a way: IsLastStop, GoesBack
-- Going back: the last place of a way before which a test stops it. Places are counted from 0.
use Rattle.std.specs.Prelude.{◌≡◌, ℕ, ◌<◌, Bool, true, false, List, length, take, slice_index, Option}
use Rattle.std.specs.Prelude.{MatchOption}
use Rattle.rtr_types.specs.declared.cut.Cut.{Cut}
use Rattle.rv_core.specs.declared.outcome.Outcome.{Outcome}
use Rattle.replay_core.specs.Plans.{Plan}
use Rattle.replay_core.specs.Play.{play}
use Rattle.cut_replay.specs.ClosedCuts.{count_in}
use Rattle.cut_replay.specs.CutStates.{IsStateAt}
use Rattle.cut_moves.specs.Rounds.{rounds_of}
use Rattle.cut_moves.specs.Ways.{way_of}
use Rattle.debug_place.specs.Places.{Placed, cut_at, plan_at}

-- it stops before the place with this number, when the places before it have been played from this state
abbrev pub stops_before : (test : Plan → Outcome → ℕ → Bool) → Plan → Outcome → List ℕ → ℕ → Bool
stops_before test p s places i = test p (play p s (take i places)) (slice_index places i)

-- it stops before none of the places from the first one up to the second
abbrev pub NoneBetween : (test : Plan → Outcome → ℕ → Bool) → Plan → Outcome → List ℕ → (first past : ℕ) → Type 0
NoneBetween test p s places first past =
    (i : ℕ) → first < i → i < past → stops_before test p s places i ≡ false

-- it stops before none of the first places
abbrev pub NoneBelow : (test : Plan → Outcome → ℕ → Bool) → Plan → Outcome → List ℕ → (past : ℕ) → Type 0
NoneBelow test p s places past = (i : ℕ) → i < past → stops_before test p s places i ≡ false

-- the last stop among the first places: a place of this core, in this state
pub record IsLastStop (test : Plan → Outcome → ℕ → Bool) (p : Plan) (s : Outcome) (places : List ℕ) (past core : ℕ)
    (t : Outcome) : Type 0 where
  pub number : ℕ
  pub inside : number < past
  pub core_is : slice_index places number ≡ core
  pub here : stops_before test p s places number ≡ true
  pub behind : NoneBetween test p s places number past
  pub state : t ≡ play p s (take number places)

-- the way to a place from a cut, along the timeline
abbrev pub way_back : Placed → (from : Cut) → List ℕ
way_back place from = way_of (count_in from) (count_in (cut_at place)) (rounds_of place.which place.recording)

-- going back to a cut, whose state is this, it came to the last stop of the way from there to here, or to the cut
-- where the way has none
pub record GoesBack (test : Plan → Outcome → ℕ → Bool) (old : Placed) (to : Cut) (new : Placed) (stopped : Option ℕ)
    : Type 0 where
  pub there : Outcome
  pub state : IsStateAt old.which old.recording to there
  pub ends : MatchOption stopped
      (NoneBelow test (plan_at old) there (way_back old to) (length (way_back old to)) × (cut_at new ≡ to))
      (λ core.
      IsLastStop test (plan_at old) there (way_back old to) (length (way_back old to)) core new.state)
