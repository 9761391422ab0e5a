-- What the parts of the code find on their way.
use Rattle.std.specs.Prelude.{◌≡◌, ◌↔◌, ◌⊎◌, ℕ, ◌+◌, ◌<◌, ◌≤◌, true, List, drop, length, slice_index_or}
use Rattle.rtr_types.specs.declared.access.Access.{Access}
use Rattle.rtr_types.specs.declared.cut.Cut.{Cut}
use Rattle.rtr_types.specs.declared.instr.Instr.{Instr}
use Rattle.rtr_types.specs.declared.pairs.Which.{Which}
use Rattle.clock_core.specs.Reach.{IsOneOf}
use Rattle.race_log.specs.declared.recording.Recording.{Recording}
use Rattle.race_log.specs.Sources.{HasEdge}
use Rattle.race_queries.specs.Queries.{InstrsRise, is_write_of, NoWriteIn}

-- the last place of the list with a write of the word in the cut
pub record IsLastPlace (list : List Access) (cut : Cut) (word place : ℕ) : Type 0 where
  pub within : place < length list
  pub write : (d : Access) → is_write_of cut word (slice_index_or list place d) ≡ true
  pub none : NoWriteIn (drop (place + 1) list) cut word

-- an instruction of a core below this one, or one of this core's first n
abbrev pub IsUpTo : (core n : ℕ) → Instr → Type 0
IsUpTo core n x = (x.core < core) ⊎ ((x.core ≡ core) × (x.count ≤ n))

-- of the instructions so far, those from which an edge leads to this one
pub record AreSourcesUpTo (which : Which) (r : Recording) (at : Instr) (core : ℕ) (list : List Instr) : Type 0 where
  pub each : (x : Instr) → IsOneOf list x ↔ ((x.core < core) × HasEdge which r x at)
  pub rise : InstrsRise list

-- and those to which one leads from it
pub record AreTargetsUpTo (which : Which) (r : Recording) (at : Instr) (core n : ℕ) (list : List Instr) : Type 0 where
  pub each : (y : Instr) → IsOneOf list y ↔ (IsUpTo core n y × HasEdge which r at y)
  pub rise : InstrsRise list
