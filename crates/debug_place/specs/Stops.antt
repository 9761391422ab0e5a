-- Rule: the first stop of a way: IsFirstStop, GoesOn
-- What stops a replay that goes on: a test of its state, before a core takes its next instruction.
use Rattle.std.specs.Prelude.{◌≡◌, ℕ, Bool, true, false, List, [], ◌∷◌, ◌++◌, Option, MatchOption}
use Rattle.rtr_types.specs.declared.cut.Cut.{Cut}
use Rattle.rv_core.specs.declared.outcome.Outcome.{Outcome}
use Rattle.replay_core.specs.Plans.{Plan}
use Rattle.replay_core.specs.Play.{place, play}
use Rattle.cut_replay.specs.ClosedCuts.{count_in}
use Rattle.cut_moves.specs.Rounds.{rounds_of}
use Rattle.cut_moves.specs.Ways.{way_of}
use Rattle.debug_place.specs.Places.{Placed, cut_at, plan_at}

-- it stops before none of these places, played from this state
abbrev pub NoneStops : (test : Plan → Outcome → ℕ → Bool) → Plan → Outcome → List ℕ → Type 0
NoneStops test p s [] = Unit {0}
NoneStops test p s (core ∷ rest) = (test p s core ≡ false) × NoneStops test p (place p s core) rest

-- it stops in this state, before this core's place, and before none of the places that came first
pub record IsFirstStop (test : Plan → Outcome → ℕ → Bool) (p : Plan) (s : Outcome) (places : List ℕ) (core : ℕ)
    (t : Outcome) : Type 0 where
  pub front : List ℕ
  pub rest : List ℕ
  pub split : places ≡ front ++ core ∷ rest
  pub before : NoneStops test p s front
  pub state : t ≡ play p s front
  pub here : test p t core ≡ true

-- the way from a place to a cut, along the timeline
abbrev pub way_to : Placed → Cut → List ℕ
way_to place to = way_of (count_in (cut_at place)) (count_in to) (rounds_of place.which place.recording)

-- going on to a cut, it came to the first stop of the way, or to the cut where the way has none
abbrev pub GoesOn : (test : Plan → Outcome → ℕ → Bool) → (old : Placed) → (to : Cut) → (new : Placed) → Option ℕ →
    Type 0
GoesOn test old to new stopped =
    MatchOption stopped (NoneStops test (plan_at old) old.state (way_to old to) × (cut_at new ≡ to))
    (λ core. IsFirstStop test (plan_at old) old.state (way_to old to) core new.state)
