-- Items that are kept of a list.
use Rattle.std.specs.Prelude.{◌≡◌, ℕ, zero, suc, List, [], ◌∷◌, ◌++◌, length, drop, Bool, true, false}
use Rattle.race_log.specs.declared.recording.Recording.{Recording}
use Rattle.race_log.specs.Validity.{Valid}
use Rattle.vector_reduce.specs.declared.thinned.Thinned.{Thinned}
use Rattle.vector_reduce.specs.Answers.{IsSameButLog}
use Rattle.vector_reduce.specs.Showing.{AreFormed, AreLeastShown}
use Rattle.vector_reduce.specs.Thinning.{IsThinned}
use Rattle.vector_reduce.specs.Vectors.{vectors_of}

-- those with the answer true, in their order; there is no answer past the end
abbrev pub kept : {X : Type 0} → List X → List Bool → List X
kept [] stays = []
kept (x ∷ xs) [] = []
kept (x ∷ xs) (true ∷ stays) = x ∷ kept xs stays
kept (x ∷ xs) (false ∷ stays) = kept xs stays

-- of lists, whose answers stand one after the other
abbrev pub kept_lists : {X : Type 0} → List (List X) → List Bool → List (List X)
kept_lists [] stays = []
kept_lists (xs ∷ lists) stays = kept xs stays ∷ kept_lists lists (drop (length xs) stays)

-- the others of the vector that is tried next, after so many answers: those that stay of the ones before it, and all
-- after it
abbrev pub beside : {X : Type 0} → List X → List Bool → List X
beside xs stays = kept xs stays ++ drop (suc (length stays)) xs

-- whether an item is one of these, by its number
abbrev pub is_beside : List Bool → ℕ → Bool
is_beside [] zero = false
is_beside [] (suc number) = true
is_beside (stays ∷ more) zero = stays
is_beside (stays ∷ more) (suc number) = is_beside more number

-- the recording with the vectors that are kept
pub record IsKeptOf (r : Recording) (stays : List Bool) (s : Recording) : Type 0 where
  pub rest : IsSameButLog r s
  pub regulated : s.regulated ≡ kept_lists r.regulated stays

-- the recording with what is left of the vectors
pub record IsLeftOf (r s : Recording) : Type 0 where
  pub valid : Valid s
  pub rest : IsSameButLog r s
  pub vectors : IsThinned (vectors_of r) (vectors_of s)

-- and with what shows them needed
pub record IsShownLeft (r : Recording) (t : Thinned) : Type 0 where
  pub left : IsLeftOf r t.recording
  pub least : AreLeastShown (vectors_of t.recording) t.shown
  pub formed : AreFormed (length t.recording.totals) t.shown
