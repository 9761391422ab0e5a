-- Which of the moves that can be made a choice takes.
use Rattle.std.specs.Prelude.{ℕ}
use Rattle.access_times.specs.Riding.{Riding, Carrying}
use Rattle.machine_ports.specs.Steppings.{Takes}
use Rattle.tso_state.specs.declared.moves.Move.{Move}
use Rattle.tso_state.specs.Runs.{chosen}
use Rattle.tso_state.specs.States.{State}
use Rattle.tso_state.specs.Steps.{moves}
use Rattle.tso_invariant.specs.Rests.{HasRoomFor, has_row_for}
use Rattle.tso_plain.specs.Plain.{plain}

-- the move is the one that a step takes by this choice
abbrev pub IsTaken : {R K : Type 0} → Riding R → Carrying K → State R K → (choice : ℕ) → Move → Type 0
IsTaken riding carrying s choice m =
    Takes (moves riding carrying s) (chosen (plain s) choice) (has_row_for riding carrying s)
    (HasRoomFor riding carrying s) choice m
