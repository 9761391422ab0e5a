-- What a run of cores with store buffers tells, as its replay takes it, and that it is a play.
use Rattle.std.specs.Prelude.{◌≡◌, ℕ, ◌+◌, ◌<◌, Some, None, List, [], ◌∷◌, length}
use Rattle.image_mem.specs.Contents.{Contents}
use Rattle.machine_data.specs.LastValues.{EachFindsLast, memory_left}
use Rattle.replay_core.specs.Orders.{bump, nought}
use Rattle.replay_core.specs.Plans.{Plan}
use Rattle.replay_core.specs.Play.{Given, core_at, start, valued_play}
use Rattle.rv_core.specs.States.{starting}
use Rattle.tso_replay.specs.Laws.{Inside}
use Rattle.tso_state.specs.Events.{Told, Alone, Ordered, Logged, instr_told}
pub use Rattle.tso_told.specs.Played.{AreInside}
use Rattle.tso_told.specs.Played.{AreNext, ordered_told, told_core, told_of}
use Rattle.tso_recordings.specs.Tells.{Tells, cores_told}

-- each instruction is the next of its core, whose count so far is this
abbrev pub InProgramOrder : (ℕ → ℕ) → List Told → Type 0
InProgramOrder f [] = Unit {0}
InProgramOrder f (e ∷ list) =
    ((instr_told e).count ≡ f (instr_told e).core + 1) × InProgramOrder (bump f (instr_told e).core) list

-- an ordered access is given no value, and a logged load is given its own
abbrev pub IsGiven : Given → Told → Type 0
IsGiven given (Alone at) = Unit {0}
IsGiven given (Ordered a) = given a.at.core a.at.count ≡ None
IsGiven given (Logged at word value) = given at.core at.count ≡ Some value

abbrev pub AreGiven : Given → List Told → Type 0
AreGiven given [] = Unit {0}
AreGiven given (e ∷ list) = IsGiven given e × AreGiven given list

-- what is told of each of so many cores is what the core does from its start
pub record AreToldOf (image : Contents) (limit cores : ℕ) (list : List Told) : Type 0 where
  pub inside : AreInside cores list
  pub next : (c : ℕ) → c < cores → AreNext image (starting c limit) (told_of c list)

-- it plays, and comes to the cores that were told and to the memory that the ordered accesses leave
pub record IsPlayed (given : Given) (p : Plan) (list : List Told) : Type 0 where
  pub tells : Tells given p (start p) list
  pub core : (c : ℕ) → c < length p.totals → core_at (valued_play given p (start p) (cores_told list)) c
      ≡ told_core p.image (starting c p.limit) (told_of c list)
  pub words : (valued_play given p (start p) (cores_told list)).words
      ≡ memory_left p.image (ordered_told list)

-- What is told of cores is in program order.
abbrev pub InOrderLaw : Type 0
InOrderLaw =
    (image : Contents) (limit cores : ℕ) (list : List Told) → AreToldOf image limit cores list
    → InProgramOrder nought list × Inside cores (cores_told list)

-- What is told of cores is a play, where ordered accesses find the last values and logged loads are given theirs.
abbrev pub PlayedLaw : Type 0
PlayedLaw =
    (given : Given) (p : Plan) (list : List Told) → AreToldOf p.image p.limit (length p.totals) list
    → EachFindsLast p.image (ordered_told list) → AreGiven given list → IsPlayed given p list
