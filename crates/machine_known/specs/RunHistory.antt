-- The history of a run: what is known at each of its retirements, as a function of the run.
use Rattle.std.specs.Prelude.{◌≡◌, ℕ, zero, suc, ◌<◌, Option, Some, None}
use Rattle.access_times.specs.Riding.{none_riding}
use Rattle.image_mem.specs.Contents.{Contents}
use Rattle.rtr_types.specs.declared.params.Params.{Params}
use Rattle.know_history.specs.declared.known.Known.{Known}
use Rattle.know_history.specs.Knowing.{retired_in}
use Rattle.know_history.specs.Knowledge.{known_carrying}
use Rattle.know_history.specs.Laws.{HistoryKnows}
use Rattle.know_history.specs.Notes.{Notes, no_notes, noted_count}
use Rattle.know_history.specs.Rows.{with_note}
use Rattle.msi_state.specs.declared.moves.Move.{Move}
use Rattle.msi_state.specs.Events.{Event, Nothing, Retires, Accesses}
use Rattle.machine_plain.specs.Plain.{plain}
use Rattle.msi_state.specs.Runs.{chosen}
use Rattle.msi_state.specs.States.{State}
use Rattle.msi_state.specs.Steps.{carry_told, event}
use Rattle.machine_known.specs.Events.{happening_at}
use Rattle.machine_known.specs.Known.{known_run}

-- the machine on which what is known is carried, and nothing else, after t choices
abbrev pub carrying_at : Contents → Params → (choices : ℕ → ℕ) → (t : ℕ) → State (Unit {0}) Known
carrying_at image params choices t = known_run none_riding image params choices (λ u. tt) t

abbrev pub with_event : Notes → Event → Known → Notes
with_event notes Nothing known = notes
with_event notes (Retires at) known = with_note notes at known
with_event notes (Accesses a) known = with_note notes a.at known

-- what retires in the move is noted with what its core then carries
abbrev pub with_move : State (Unit {0}) Known → Notes → Option Move → Notes
with_move s notes None = notes
with_move s notes (Some m) =
    with_event notes (event none_riding known_carrying s m)
    (carry_told none_riding known_carrying s m)

-- what is noted of the first t choices
abbrev pub notes_at : Contents → Params → (choices : ℕ → ℕ) → (t : ℕ) → Notes
notes_at image params choices zero = no_notes params.cores
notes_at image params choices (suc t) =
    let s = carrying_at image params choices t in
    with_move s (notes_at image params choices t) (chosen (plain s) (choices t))

-- the notes hold each retirement of the first t choices, with what is known at it
pub record IsHistoryOf (image : Contents) (params : Params) (choices : ℕ → ℕ) (t : ℕ) (h : Notes) : Type 0 where
  pub noted : (core : ℕ) → core < params.cores
      → noted_count h core ≡ retired_in (happening_at image params choices) t core
  pub knows : HistoryKnows (happening_at image params choices) h
