-- Rule: the state after some choices: state_after
-- What moves by choices: at each of its states there are some moves, in order, of which a choice takes one.
use Rattle.std.specs.Prelude.{◌≡◌, ◌<◌, ℕ, ◌%◌, Bool, true, false, Option, Some, None, List, [], ◌∷◌}
use Rattle.std.specs.Prelude.{length, slice_index_or, zero, suc}

module _ {M : Type 0} where
  -- of e moves a choice takes the one numbered `choice mod e`; where there is none it takes none
  abbrev pub chosen_of : List M → (choice : ℕ) → Option M
  chosen_of [] choice = None
  chosen_of (m ∷ ms) choice = Some (slice_index_or (m ∷ ms) (choice % length (m ∷ ms)) m)

module _ {M X : Type 0} where
  -- what the move that was taken gives, and where none was taken
  abbrev pub by_move : (none : X) → (M → X) → Option M → X
  by_move none gives None = none
  by_move none gives (Some m) = gives m

module _ {S M : Type 0} where
  -- the state after t choices, of which `choices u` is the one numbered u, from 0
  abbrev pub state_after : (moves : S → List M) → (step : S → M → S) → S → (choices : ℕ → ℕ) → (t : ℕ) → S
  state_after moves step start choices zero = start
  state_after moves step start choices (suc t) =
      let before = state_after moves step start choices t in
      by_move before (step before) (chosen_of (moves before) (choices t))

module _ {S M X : Type 0} where
  -- what the move gives that a choice takes at a state; where it takes none, what none gives
  abbrev pub by_choice : (moves : S → List M) → (none : X) → (gives : S → M → X) → S → (choice : ℕ) → X
  by_choice moves none gives s choice = by_move none (gives s) (chosen_of (moves s) choice)

-- the first moment at which a test passes
pub record IsFirst (test : ℕ → Bool) (t : ℕ) : Type 0 where
  pub done : test t ≡ true
  pub first : (u : ℕ) → u < t → test u ≡ false
