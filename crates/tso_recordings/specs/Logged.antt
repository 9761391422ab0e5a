-- Rule: which loads a run with store buffers logs: AreLogged
-- Which loads a run logs.
use Rattle.std.specs.Prelude.{◌≡◌, ℕ, ◌<◌, ◌↔◌, ◌⊎◌, false, List, [], ◌∷◌, Some, slice_index_or}
use Rattle.access_times.specs.Riding.{none_carrying, none_riding}
use Rattle.image_mem.specs.Contents.{Contents}
use Rattle.rtr_types.specs.Parameters.{Fits}
use Rattle.rtr_types.specs.declared.params.Params.{Params}
use Rattle.schedule_pick.specs.Choices.{Choices, choice_at}
use Rattle.msi_memory.specs.Memories.{port_at}
use Rattle.tso_recordings.specs.Schedules.{tso_recording_of}
use Rattle.tso_bound.specs.Ends.{end_of}
use Rattle.tso_state.specs.Events.{still_there}
use Rattle.tso_state.specs.declared.moves.Move.TheVariants.{Order as OrderMove}
use Rattle.tso_state.specs.declared.pending.Pending.{Pending}
use Rattle.tso_state.specs.declared.pending.Pending.TheVariants.{Load as PendingLoad}
use Rattle.tso_state.specs.Runs.{chosen, run}
use Rattle.tso_state.specs.States.{core_at}

-- the choice numbered t lets core c's oldest pending access leave its queue, which is a load of this count that got
-- this value, and the core's port can't read its word, or the word differs from that value
pub record LogsAt (image : Contents) (params : Params) (choices : ℕ → ℕ) (t c count value : ℕ) : Type 0 where
  pub word : ℕ
  pub rest : List Pending
  pub taken : chosen (run image params choices t) (choices t) ≡ Some (OrderMove c)
  pub oldest : (core_at (run image params choices t).cores c).queue ≡ PendingLoad count word value ∷ rest
  pub gone : still_there none_riding (port_at none_carrying (run image params choices t).memory.ports c) word value
      ≡ false

-- some choice of the run does
abbrev pub IsLogged : Contents → Params → Choices → (c count value : ℕ) → Type 0
IsLogged image params schedule c count value =
    (t : ℕ) × (t < end_of image params (choice_at schedule)) × LogsAt image params (choice_at schedule) t c count value

-- it is one of these
abbrev pub IsOneOf : List (ℕ × ℕ) → ℕ × ℕ → Type 0
IsOneOf [] v = ⊥
IsOneOf (w ∷ values) v = (w ≡ v) ⊎ IsOneOf values v

-- these are the logged loads of the run, by core, each with its count and its word
abbrev pub AreLogged : Contents → Params → Choices → List (List (ℕ × ℕ)) → Type 0
AreLogged image params schedule values =
    (c count value : ℕ) → c < params.cores
    → IsOneOf (slice_index_or values c []) (count, value) ↔ IsLogged image params schedule c count value

-- The values of a run's recording are its logged loads.
abbrev pub LoggedLaw : Type 0
LoggedLaw =
    (image : Contents) (params : Params) (schedule : Choices) → Fits params
    → AreLogged image params schedule (tso_recording_of image params schedule).values
