-- The machine whose riders record times, with the reduction that the recorder's clerk makes and what is noted, along a
-- run. The reduction chooses the clocks that are noted.
use Rattle.std.specs.Prelude.{ℕ, zero, suc, ◌≤◌, [], Option, Some, None}
use Rattle.access_times.specs.Times.{fresh_times, times_noted, times_riding}
use Rattle.access_times.specs.declared.times.Times.{Times}
use Rattle.image_mem.specs.Contents.{Contents}
use Rattle.rtr_types.specs.Parameters.{Fits}
use Rattle.rtr_types.specs.declared.params.Params.{Params}
use Rattle.schedule_pick.specs.Choices.{Choices, choice_at, choices_after}
use Rattle.know_history.specs.Knowledge.{known_carrying}
use Rattle.know_history.specs.Notes.{Notes, known_at, no_notes}
use Rattle.know_history.specs.declared.known.Known.{Known}
use Rattle.edge_regulate.specs.Regulated.{Regulation, regulated}
use Rattle.msi_state.specs.Events.{Event, Nothing, Retires, Accesses}
use Rattle.machine_bound.specs.Ends.{end_of}
use Rattle.machine_plain.specs.Plain.{plain}
use Rattle.msi_state.specs.Runs.{chosen}
use Rattle.msi_state.specs.States.{State, state_start}
use Rattle.msi_state.specs.Steps.{carry_told, event, rider_found, step}
use Rattle.msi_state.specs.declared.moves.Move.{Move}
use Rattle.online_reduce.specs.Reduced.{Reduced, clock_of, counted, retired, unreduced}
use Rattle.machine_known.specs.RunHistory.{with_event}

-- the machine, the reduction, what is noted of the retirements, and the choices that are left
pub record Standing : Type 0 where
  pub state : State Times Known
  pub reduction : Reduced
  pub notes : Notes
  pub rest : Choices

-- the regulation of the reduction's edges, by what is noted; of room it says nothing
abbrev pub regulation_of : Reduced → Notes → Regulation
regulation_of r notes = record { cores = r.cores; vectors = regulated r.cores (known_at notes) r.lists; ready = [] }

-- the reduction after an event that was told, whose access found these times
abbrev pub reduction_after : Reduced → Event → (found : Times) → Reduced
reduction_after r Nothing found = r
reduction_after r (Retires at) found = counted r at
reduction_after r (Accesses a) found = retired r a found

-- the times that it leaves: the access is noted with its core's clock
abbrev pub times_after : Reduced → Event → (found : Times) → Times
times_after r (Accesses a) found = times_noted a found (clock_of r a.at.core)
times_after r _ found = found

-- the move that the next choice takes
abbrev pub next_move : Standing → Option Move
next_move w = chosen (plain w.state) (choice_at w.rest 0)

-- the times that a move's access finds
abbrev pub found_by : Standing → Option Move → Times
found_by w None = fresh_times
found_by w (Some m) = rider_found times_riding known_carrying w.state m

-- what stands after a move of which the clerk was told
abbrev pub moved_by : Standing → Option Move → Standing
moved_by w None = w
moved_by w (Some m) =
    let e = event times_riding known_carrying w.state m in
    let r = reduction_after w.reduction e (found_by w (Some m)) in
    record {
      state = step times_riding known_carrying (times_after r e (found_by w (Some m))) w.state m;
      reduction = r;
      notes = with_event w.notes e (carry_told times_riding known_carrying w.state m);
      rest = choices_after w.rest;
    }

-- before the first choice, and after t choices
abbrev pub standing_start : Contents → Params → Choices → Standing
standing_start image params schedule = record {
  state = state_start times_riding known_carrying image params.cores params.limit;
  reduction = unreduced params.cores;
  notes = no_notes params.cores;
  rest = schedule;
}

abbrev pub standing_at : Contents → Params → Choices → (t : ℕ) → Standing
standing_at image params schedule zero = standing_start image params schedule
standing_at image params schedule (suc t) =
    let before = standing_at image params schedule t in moved_by before (next_move before)

-- the times that the access of the choice numbered t finds
abbrev pub times_found : Contents → Params → Choices → (t : ℕ) → Times
times_found image params schedule t =
    let before = standing_at image params schedule t in found_by before (next_move before)

-- the reduction after t choices
abbrev pub reduction_at : Contents → Params → Choices → (t : ℕ) → Reduced
reduction_at image params schedule t = (standing_at image params schedule t).reduction

-- what holds of every run after each number of choices up to its end
abbrev pub UntilEnd : (Contents → Params → Choices → ℕ → Type 0) → Type 0
UntilEnd Holds =
    (image : Contents) (params : Params) (schedule : Choices) (t : ℕ) → Fits params
    → t ≤ end_of image params (choice_at schedule) → Holds image params schedule t
