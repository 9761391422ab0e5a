-- The machine with store buffers whose riders record times, with what the reduction holds, along a run. The reduction
-- chooses the clocks that are noted.
use Rattle.std.specs.Prelude.{ℕ, zero, suc, List, [], ◌∷◌, ◌++◌, Option, Some, None}
use Rattle.access_times.specs.Riding.{none_carrying}
use Rattle.access_times.specs.Times.{fresh_times, times_noted, times_riding}
use Rattle.access_times.specs.declared.times.Times.{Times}
use Rattle.clock_core.specs.Counts.{no_counts}
use Rattle.clock_core.specs.declared.clock.Clock.{Clock}
use Rattle.image_mem.specs.Contents.{Contents}
use Rattle.rtr_types.specs.declared.instr.Edge.{Edge}
use Rattle.rtr_types.specs.declared.params.Params.{Params}
use Rattle.msi_state.specs.Events.{Event as ClerkEvent, Accesses, rider_of_event}
use Rattle.online_reduce.specs.Reduced.{IsNext, Reduced, clock_of, counted, edges_of, retired, unreduced}
use Rattle.tso_plain.specs.Plain.{plain}
use Rattle.tso_state.specs.Events.{Told, Alone, Ordered, Logged}
use Rattle.tso_state.specs.Runs.{chosen}
use Rattle.tso_state.specs.States.{State, state_start}
use Rattle.tso_state.specs.Steps.{event, step, told}
use Rattle.tso_state.specs.declared.moves.Move.{Move}
pub use Rattle.tso_times.specs.Timed.{ordering_of, ordering_port}

-- a state whose riders record times
abbrev pub TimedState : Type 0
TimedState = State Times (Unit {0})

-- the machine, what the reduction holds, and its edges in the order in which they were found
pub record Standing : Type 0 where
  pub state : TimedState
  pub reduction : Reduced
  pub edges : List Edge

-- ---- one step

-- the times that the access ordered in a move finds
abbrev pub found_in : TimedState → Move → Times
found_in s m =
    rider_of_event times_riding (ordering_of (event times_riding none_carrying s m))
    (ordering_port times_riding none_carrying s m)

-- the clock of an access that the reduction is told of with the times that it found, and the times that it leaves
abbrev pub clock_told : Reduced → ClerkEvent → (found : Times) → Clock
clock_told r (Accesses a) found = clock_of (retired r a found) a.at.core
clock_told r _ found = no_counts

abbrev pub times_left : Reduced → ClerkEvent → (found : Times) → Times
times_left r (Accesses a) found = times_noted a found (clock_of (retired r a found) a.at.core)
times_left r _ found = found

-- what the reduction comes to, and the edges that are found, by what is told with these times
abbrev pub reduced_told : Reduced → (found : Times) → List Told → Reduced
reduced_told r found [] = r
reduced_told r found (Alone at ∷ list) = reduced_told (counted r at) found list
reduced_told r found (Ordered a ∷ list) = reduced_told (retired r a found) found list
reduced_told r found (Logged at word value ∷ list) = reduced_told (counted r at) found list

abbrev pub edges_told : Reduced → (found : Times) → List Told → List Edge
edges_told r found [] = []
edges_told r found (Alone at ∷ list) = edges_told (counted r at) found list
edges_told r found (Ordered a ∷ list) = edges_of r a found ++ edges_told (retired r a found) found list
edges_told r found (Logged at word value ∷ list) = edges_told (counted r at) found list

-- each of these is the next instruction of its core for the reduction, once those before it were told
abbrev pub AreNextOf : Reduced → (found : Times) → List Told → Type 0
AreNextOf r found [] = Unit {0}
AreNextOf r found (Alone at ∷ list) = IsNext r at × AreNextOf (counted r at) found list
AreNextOf r found (Ordered a ∷ list) = IsNext r a.at × AreNextOf (retired r a found) found list
AreNextOf r found (Logged at word value ∷ list) = IsNext r at × AreNextOf (counted r at) found list

-- ---- along a run

-- the move that a choice takes
abbrev pub next_move : Standing → (choice : ℕ) → Option Move
next_move w choice = chosen (plain w.state) choice

-- what stands after a move
abbrev pub moved_by : Standing → Option Move → Standing
moved_by w None = w
moved_by w (Some m) =
    let e = ordering_of (event times_riding none_carrying w.state m) in
    let found = found_in w.state m in
    let list = told times_riding none_carrying w.state m in
    record {
      state = step times_riding none_carrying (times_left w.reduction e found) w.state m;
      reduction = reduced_told w.reduction found list;
      edges = w.edges ++ edges_told w.reduction found list;
    }

-- before the first choice, and after t choices
abbrev pub standing_start : Contents → Params → Standing
standing_start image params = record {
  state = state_start times_riding none_carrying image params.cores params.limit;
  reduction = unreduced params.cores;
  edges = [];
}

abbrev pub standing_at : Contents → Params → (choices : ℕ → ℕ) → (t : ℕ) → Standing
standing_at image params choices zero = standing_start image params
standing_at image params choices (suc t) =
    let before = standing_at image params choices t in moved_by before (next_move before (choices t))

-- the times that the access of the choice numbered t finds
abbrev pub found_by : Standing → Option Move → Times
found_by w None = fresh_times
found_by w (Some m) = found_in w.state m

abbrev pub times_found : Contents → Params → (choices : ℕ → ℕ) → (t : ℕ) → Times
times_found image params choices t =
    let before = standing_at image params choices t in found_by before (next_move before (choices t))
