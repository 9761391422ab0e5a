-- Rule: a run with store buffers, its ordered accesses and logged loads: run, accesses, logged_loads, outcome_at
-- The runs of the plain machine: its state after so many choices, when a run ends, which accesses are ordered in it and
-- which loads are logged, in which order instructions are told, and what it leaves.
use Rattle.std.specs.Prelude.{ℕ, ◌==◌, ◌&&◌, Option, List, [], ◌∷◌, ◌++◌, map, zero, suc, if◌then◌else◌}
use Rattle.std.specs.List.{range_with_len, sum_by}
use Rattle.access_times.specs.Riding.{none_riding, none_carrying}
use Rattle.image_mem.specs.Contents.{Contents}
use Rattle.rtr_types.specs.Accesses.{is_read}
use Rattle.rtr_types.specs.declared.instr.Instr.{Instr}
use Rattle.rtr_types.specs.declared.access.Access.{Access}
use Rattle.rtr_types.specs.declared.params.Params.{Params}
use Rattle.rv_core.specs.declared.outcome.LoadNote.{LoadNote}
use Rattle.rv_core.specs.declared.outcome.Outcome.{Outcome}
use Rattle.msi_state.specs.Choosing.{IsFirst, by_choice, by_move, state_after}
pub use Rattle.msi_state.specs.Choosing.{chosen_of}
use Rattle.tso_state.specs.declared.moves.Move.{Move}
use Rattle.tso_state.specs.declared.pending.Pending.{Pending}
use Rattle.tso_state.specs.declared.pending.Pending.TheVariants.{Load as PendingLoad, Store as PendingStore}
use Rattle.tso_state.specs.States.{PlainState, state_start, all_done}
use Rattle.tso_state.specs.Events.{Event, Told, instr_told, Nothing, Buffers, Performs, Drains, Logs}
use Rattle.tso_state.specs.Steps.{moves, step, event, told}
use Rattle.tso_state.specs.FinalMemory.{final_memory}

-- ---- the states of a run

-- the moves and the step of a state on which nothing rides
abbrev pub plain_moves : PlainState → List Move
plain_moves s = moves none_riding none_carrying s

abbrev pub plain_step : PlainState → Move → PlainState
plain_step s m = step none_riding none_carrying tt s m

-- the machine of an image and parameters before its first move
abbrev pub opening_state : Contents → Params → PlainState
opening_state image params = state_start none_riding none_carrying image params.cores params.limit

-- the state after t choices, of which `choices u` is the one numbered u, from 0
abbrev pub run : Contents → Params → (choices : ℕ → ℕ) → (t : ℕ) → PlainState
run image params choices t = state_after plain_moves plain_step (opening_state image params) choices t

-- a run ends at the first moment at which each core's program is done and no access is pending
abbrev pub IsRunEnd : Contents → Params → (choices : ℕ → ℕ) → (t : ℕ) → Type 0
IsRunEnd image params choices t = IsFirst (λ u. all_done (run image params choices u)) t

-- ---- what a move does, and what is told in it

-- the move that a choice takes, and the state after it
abbrev pub chosen : PlainState → (choice : ℕ) → Option Move
chosen s choice = chosen_of (plain_moves s) choice

abbrev pub stepped_by : PlainState → Option Move → PlainState
stepped_by s taken = by_move s (plain_step s) taken

-- what happens in a move of a state on which nothing rides, in the move that was taken, and by the choice numbered t
abbrev pub plain_event : PlainState → Move → Event
plain_event s m = event none_riding none_carrying s m

abbrev pub event_by : PlainState → Option Move → Event
event_by s taken = by_move Nothing (plain_event s) taken

abbrev pub event_at : Contents → Params → (choices : ℕ → ℕ) → (t : ℕ) → Event
event_at image params choices t =
    by_choice plain_moves Nothing plain_event (run image params choices t) (choices t)

-- what is told in it
abbrev pub plain_told : PlainState → Move → List Told
plain_told s m = told none_riding none_carrying s m

abbrev pub told_by : PlainState → Option Move → List Told
told_by s taken = by_move [] (plain_told s) taken

abbrev pub told_at : Contents → Params → (choices : ℕ → ℕ) → (t : ℕ) → List Told
told_at image params choices t = by_choice plain_moves [] plain_told (run image params choices t) (choices t)

-- ---- what happens in a run

-- the access that an event orders
abbrev pub ordered_in : Event → List Access
ordered_in (Performs a) = a ∷ []
ordered_in (Drains a) = a ∷ []
ordered_in _ = []

-- a load that is logged, with the value that it got
pub record LoggedLoad : Type 0 where
  pub at : Instr
  pub value : ℕ

-- the load that an event logs
abbrev pub logged_in : Event → List LoggedLoad
logged_in (Logs at word value) = record { at = at; value = value } ∷ []
logged_in _ = []

-- what a pending access read, if it is a load
abbrev pub read_by : Pending → List LoadNote
read_by (PendingLoad count word value) = record { count = count; word = word; value = value } ∷ []
read_by (PendingStore count word mask bits) = []

-- what the executing instruction read, if it is a load or an atomic memory operation of this core
abbrev pub read_in : (core : ℕ) → Event → List LoadNote
read_in core (Buffers at pending) = if at.core == core then read_by pending else []
read_in core (Performs a) =
    if (a.at.core == core) && is_read a.kind
    then record { count = a.at.count; word = a.word; value = a.before } ∷ [] else []
read_in core _ = []

-- within the first t choices: the accesses that were ordered, in this order; a load that is logged is none of them
abbrev pub accesses : Contents → Params → (choices : ℕ → ℕ) → (t : ℕ) → List Access
accesses image params choices zero = []
accesses image params choices (suc t) = accesses image params choices t ++ ordered_in (event_at image params choices t)

-- the loads that were logged
abbrev pub logged_loads : Contents → Params → (choices : ℕ → ℕ) → (t : ℕ) → List LoggedLoad
logged_loads image params choices zero = []
logged_loads image params choices (suc t) =
    logged_loads image params choices t ++ logged_in (event_at image params choices t)

-- what was told, and the instructions, in the order in which they were
abbrev pub all_told : Contents → Params → (choices : ℕ → ℕ) → (t : ℕ) → List Told
all_told image params choices zero = []
all_told image params choices (suc t) = all_told image params choices t ++ told_at image params choices t

abbrev pub retirements : Contents → Params → (choices : ℕ → ℕ) → (t : ℕ) → List Instr
retirements image params choices t = map instr_told (all_told image params choices t)

-- what a core's loads and atomic memory operations read, in the order in which they executed
abbrev pub reads : Contents → Params → (choices : ℕ → ℕ) → (t core : ℕ) → List LoadNote
reads image params choices zero core = []
reads image params choices (suc t) core =
    reads image params choices t core ++ read_in core (event_at image params choices t)

-- a core's logged loads, each by its count, with the value that it got
abbrev pub values_of : (core : ℕ) → List LoggedLoad → List (ℕ × ℕ)
values_of core [] = []
values_of core (l ∷ later) =
    if l.at.core == core then (l.at.count, l.value) ∷ values_of core later else values_of core later

-- ---- what a run leaves

-- how many instructions each core has executed, and all cores together
abbrev pub totals : PlainState → List ℕ
totals s = map (λ t. t.core.count) s.cores

abbrev pub executed : PlainState → ℕ
executed s = sum_by (λ t. t.core.count) s.cores

-- by core, the logged loads with their values
abbrev pub values_at : Contents → Params → (choices : ℕ → ℕ) → (t : ℕ) → List (List (ℕ × ℕ))
values_at image params choices t =
    map (λ c. values_of c (logged_loads image params choices t)) (range_with_len 0 params.cores)

-- what the run leaves after t choices: its cores, its memory, and what each core read
abbrev pub outcome_at : Contents → Params → (choices : ℕ → ℕ) → (t : ℕ) → Outcome
outcome_at image params choices t =
    let s = run image params choices t in
    record {
      cores = map (λ c. c.core) s.cores;
      words = final_memory none_riding none_carrying s;
      loads = map (λ c. reads image params choices t c) (range_with_len 0 params.cores);
    }
