-- Rule: a run, its accesses and its loads: run, accesses, loads_of
-- The runs of the plain machine: its state after so many choices, when a run ends, what retires in it
-- and what its accesses are.
use Rattle.std.specs.Prelude.{ℕ, ◌==◌, ◌&&◌, Option, List, [], ◌∷◌, ◌++◌, map, zero, suc, if◌then◌else◌}
use Rattle.std.specs.List.{range_with_len}
use Rattle.access_times.specs.Riding.{none_riding, none_carrying}
use Rattle.image_mem.specs.Contents.{Contents}
use Rattle.rtr_types.specs.Accesses.{is_read}
use Rattle.rtr_types.specs.declared.instr.Instr.{Instr}
use Rattle.rtr_types.specs.declared.access.Access.{Access}
use Rattle.rtr_types.specs.declared.params.Params.{Params}
use Rattle.rv_core.specs.declared.outcome.LoadNote.{LoadNote}
use Rattle.rv_core.specs.declared.outcome.Outcome.{Outcome}
use Rattle.msi_state.specs.declared.moves.Move.{Move}
pub use Rattle.msi_state.specs.Choosing.{chosen_of}
use Rattle.msi_state.specs.States.{PlainState, state_start, all_done}
use Rattle.msi_state.specs.Choosing.{IsFirst, by_choice, by_move, state_after}
use Rattle.msi_state.specs.Events.{Event, Nothing, Retires, Accesses}
use Rattle.msi_state.specs.Steps.{moves, step, event}
use Rattle.msi_state.specs.FinalMemory.{final_memory}

-- the moves, the step and the event of a state on which nothing rides
abbrev pub plain_moves : PlainState → List Move
plain_moves s = moves none_riding none_carrying s

abbrev pub plain_step : PlainState → Move → PlainState
plain_step s m = step none_riding none_carrying tt s m

abbrev pub plain_event : PlainState → Move → Event
plain_event s m = event none_riding none_carrying s m

-- the move that a choice takes
abbrev pub chosen : PlainState → (choice : ℕ) → Option Move
chosen s choice = chosen_of (plain_moves s) choice

-- the state after it, and what it tells the clerk
abbrev pub stepped_by : PlainState → Option Move → PlainState
stepped_by s taken = by_move s (plain_step s) taken

abbrev pub event_by : PlainState → Option Move → Event
event_by s taken = by_move Nothing (plain_event s) taken

-- the machine of an image and parameters before its first move
abbrev pub opening_state : Contents → Params → PlainState
opening_state image params = state_start none_riding none_carrying image params.cores params.limit

-- the state after t choices, of which `choices u` is the one numbered u, from 0
abbrev pub run : Contents → Params → (choices : ℕ → ℕ) → (t : ℕ) → PlainState
run image params choices t = state_after plain_moves plain_step (opening_state image params) choices t

-- what the choice numbered t told the clerk
abbrev pub event_at : Contents → Params → (choices : ℕ → ℕ) → (t : ℕ) → Event
event_at image params choices t =
    by_choice plain_moves Nothing plain_event (run image params choices t) (choices t)

-- a run ends at the first moment at which each core's program is done
abbrev pub IsRunEnd : Contents → Params → (choices : ℕ → ℕ) → (t : ℕ) → Type 0
IsRunEnd image params choices t = IsFirst (λ u. all_done (run image params choices u)) t

-- the instructions that retired in a list of events, in order
abbrev pub retired_in : Event → List Instr
retired_in Nothing = []
retired_in (Retires at) = at ∷ []
retired_in (Accesses a) = a.at ∷ []

-- the instructions that retired within the first t choices, in the order in which they did
abbrev pub retirements : Contents → Params → (choices : ℕ → ℕ) → (t : ℕ) → List Instr
retirements image params choices zero = []
retirements image params choices (suc t) =
    retirements image params choices t ++ retired_in (event_at image params choices t)

-- the accesses of an event
abbrev pub accesses_in : Event → List Access
accesses_in (Accesses a) = a ∷ []
accesses_in _ = []

-- the data accesses of the first t choices, in the order in which their instructions retired
abbrev pub accesses : Contents → Params → (choices : ℕ → ℕ) → (t : ℕ) → List Access
accesses image params choices zero = []
accesses image params choices (suc t) = accesses image params choices t ++ accesses_in (event_at image params choices t)

-- the loads of a core among accesses, which are those that read, in order, each with the value that it found
abbrev pub loads_of : (core : ℕ) → List Access → List LoadNote
loads_of core [] = []
loads_of core (a ∷ later) =
    if (a.at.core == core) && is_read a.kind
    then record { count = a.at.count; word = a.word; value = a.before } ∷ loads_of core later
    else loads_of core later

-- how many instructions each core has retired
abbrev pub totals : PlainState → List ℕ
totals s = map (λ core. core.count) s.cores

-- what the run leaves after t choices: its cores, its memory, and each core's loads
abbrev pub outcome_at : Contents → Params → (choices : ℕ → ℕ) → (t : ℕ) → Outcome
outcome_at image params choices t =
    let s = run image params choices t in
    record {
      cores = s.cores;
      words = final_memory none_riding none_carrying s;
      loads = map (λ c. loads_of c (accesses image params choices t)) (range_with_len 0 params.cores);
    }
