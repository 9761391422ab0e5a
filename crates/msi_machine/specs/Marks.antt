-- Which moves can be made, one bit a core in a set for each kind of move.
use Rattle.std.specs.Prelude.{◌≡◌, ℕ, List, length, map, Option, Some, None}
use Rattle.access_times.specs.Riding.{Riding, Carrying}
use Rattle.rtr_types.specs.CoreSets.{has}
use Rattle.rtr_types.specs.declared.TheConstants.{CORES_MAX}
use Rattle.rtr_types.specs.declared.instr.Instr.{Instr}
use Rattle.move_marks.specs.declared.marks.MarkedMove.{MarkedMove}
use Rattle.move_marks.specs.declared.marks.MoveKind.{MoveKind}
use Rattle.move_marks.specs.declared.marks.MoveKind.TheVariants.{Own}
use Rattle.move_marks.specs.Kinds.{marked as marked_in, set_of}
use Rattle.move_marks.specs.Ports.{PortsMarked, PortsMarkedBut}
use Rattle.machine_ports.specs.Marks.{move_by}
use Rattle.msi_state.specs.declared.moves.Move.{Move}
use Rattle.msi_state.specs.declared.moves.Move.TheVariants.{Core as CoreMove, Request as RequestMove}
use Rattle.msi_state.specs.declared.moves.Move.TheVariants.{Response as ResponseMove, FromHome as MessageMove}
use Rattle.msi_state.specs.States.{State}
use Rattle.msi_state.specs.Steps.{enabled}
use Rattle.msi_machine.specs.declared.marks.Marks.{Marks}

-- the move of a kind at a core
abbrev pub made_of : MoveKind → ℕ → Move
made_of = move_by (λ c. CoreMove c) (λ c. RequestMove c) (λ c. ResponseMove c) (λ c. MessageMove c)

abbrev pub move_of : MarkedMove → Move
move_of x = made_of x.kind x.core

-- the marked moves, in order
abbrev pub marked : Marks → List Move
marked marks = map move_of (marked_in marks.moves)

-- the core that asked the home for a block in a move in which this retired: one that moved by itself and retired
-- nothing. No other move asks; the number is none of a core then
abbrev pub asker_of : Move → Option Instr → ℕ
asker_of (CoreMove c) None = c
asker_of (CoreMove c) (Some at) = CORES_MAX
asker_of (RequestMove c) retired = CORES_MAX
asker_of (ResponseMove c) retired = CORES_MAX
asker_of (MessageMove c) retired = CORES_MAX

module _ {R K : Type 0} where
  -- exactly the moves that can be made are marked
  pub record AllMarked (riding : Riding R) (carrying : Carrying K) (s : State R K) (marks : Marks) : Type 0 where
    pub cores : marks.cores ≡ length s.cores
    pub own : (c : ℕ) → has (set_of Own marks.moves) c ≡ enabled riding carrying s (CoreMove c)
    pub ports : PortsMarked riding carrying s.memory marks.moves

  -- so is it but perhaps for this core's oldest request, which it put down last
  pub record OthersMarked (riding : Riding R) (carrying : Carrying K) (s : State R K) (marks : Marks) (asker : ℕ)
      : Type 0 where
    pub cores : marks.cores ≡ length s.cores
    pub own : (c : ℕ) → has (set_of Own marks.moves) c ≡ enabled riding carrying s (CoreMove c)
    pub ports : PortsMarkedBut riding carrying s.memory marks.moves asker
