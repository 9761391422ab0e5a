-- The plain part of a state of cores over a memory system: what is left where riders and carries are forgotten.
use Rattle.std.specs.Prelude.{◌≡◌, ℕ, Bool, List}
use Rattle.access_times.specs.Riding.{Riding, Carrying}
use Rattle.image_mem.specs.Contents.{Contents}
use Rattle.msi_memory.specs.PlainPart.{plain_memory}
use Rattle.msi_state.specs.CoreStates.{CoresState}

module _ {C R K : Type 0} where
  -- the same image and cores, over the memory system on which nothing rides
  abbrev pub plain : CoresState C R K → CoresState C (Unit {0}) (Unit {0})
  plain s = record { image = s.image; cores = s.cores; memory = plain_memory s.memory }

-- What is promised of the plain part: it shows the same as the whole, whatever rides. Of each pair the first is of a
-- machine with any riders and carries, and the second of one on which nothing rides.
pub record PlainShows {C M X : Type 0} (R K : Type 0)
    (moves_of : Riding R → Carrying K → CoresState C R K → List M)
    (plain_moves : CoresState C (Unit {0}) (Unit {0}) → List M)
    (start_of : Riding R → Carrying K → Contents → (cores limit : ℕ) → CoresState C R K)
    (plain_start : Contents → (cores limit : ℕ) → CoresState C (Unit {0}) (Unit {0}))
    (is_done : CoresState C R K → Bool) (plain_done : CoresState C (Unit {0}) (Unit {0}) → Bool)
    (memory_of : Riding R → Carrying K → CoresState C R K → ℕ → X)
    (plain_memory_of : CoresState C (Unit {0}) (Unit {0}) → ℕ → X) : Type 0 where
  -- the same moves can be made, in the same order, so a choice takes the same one
  pub moves : (riding : Riding R) (carrying : Carrying K) (s : CoresState C R K)
      → moves_of riding carrying s ≡ plain_moves (plain s)
  -- the start's plain part is the start where nothing rides
  pub start : (riding : Riding R) (carrying : Carrying K) (image : Contents) (cores limit : ℕ)
      → plain (start_of riding carrying image cores limit) ≡ plain_start image cores limit
  -- the state is at its end exactly where its plain part is
  pub done : (s : CoresState C R K) → is_done s ≡ plain_done (plain s)
  -- it has the same memory, at each place
  pub memory : (riding : Riding R) (carrying : Carrying K) (s : CoresState C R K) (place : ℕ)
      → memory_of riding carrying s place ≡ plain_memory_of (plain s) place
