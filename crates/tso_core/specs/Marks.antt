-- Which moves can be made, one bit a core in a set for each kind of move.
use Rattle.std.specs.Prelude.{◌≡◌, ℕ, ◌-◌, ◌==◌, if◌then◌else◌, Option, Some, None, List, ◌++◌, length, map}
use Rattle.access_times.specs.Riding.{Riding, Carrying}
use Rattle.rtr_types.specs.CoreSets.{has}
use Rattle.move_marks.specs.declared.marks.MarkedMove.{MarkedMove}
use Rattle.move_marks.specs.declared.marks.MoveKind.{MoveKind}
use Rattle.move_marks.specs.declared.marks.MoveKind.TheVariants.{Own}
use Rattle.move_marks.specs.Kinds.{marked_at_ports, set_of}
use Rattle.move_marks.specs.Members.{members}
use Rattle.move_marks.specs.Ports.{PortsMarked, PortsMarkedBut}
use Rattle.machine_ports.specs.Marks.{move_by}
use Rattle.tso_state.specs.declared.moves.Move.{Move}
use Rattle.tso_state.specs.declared.moves.Move.TheVariants.{Core as CoreMove, Order as OrderMove}
use Rattle.tso_state.specs.declared.moves.Move.TheVariants.{Request as RequestMove, Response as ResponseMove}
use Rattle.tso_state.specs.declared.moves.Move.TheVariants.{FromHome as MessageMove}
use Rattle.tso_state.specs.States.{State}
use Rattle.tso_state.specs.Steps.{enabled}
use Rattle.tso_core.specs.declared.marks.Marks.{Marks}

-- the move of a kind at a core
abbrev pub made_of : MoveKind → ℕ → Move
made_of = move_by (λ c. CoreMove c) (λ c. RequestMove c) (λ c. ResponseMove c) (λ c. MessageMove c)

abbrev pub move_of : MarkedMove → Move
move_of x = made_of x.kind x.core

-- the marked moves that aren't cores' own, in order
abbrev pub marked_past_own : Marks → List Move
marked_past_own marks = map (λ c. OrderMove c) (members marks.orders) ++ map move_of (marked_at_ports marks.moves)

-- the marked moves, in order
abbrev pub marked : Marks → List Move
marked marks = map (λ c. CoreMove c) (members (set_of Own marks.moves)) ++ marked_past_own marks

-- the number of the last marked move, where it is one of a message
abbrev pub last_at_port : Marks → Option ℕ
last_at_port marks =
    if length (marked_at_ports marks.moves) == 0 then None else Some (length (marked marks) - 1)

module _ {R K : Type 0} where
  -- of so many cores exactly those are marked that can move, and that can order their oldest pending access
  pub record CoresMarked (riding : Riding R) (carrying : Carrying K) (s : State R K) (marks : Marks) : Type 0 where
    pub cores : marks.cores ≡ length s.cores
    pub own : (c : ℕ) → has (set_of Own marks.moves) c ≡ enabled riding carrying s (CoreMove c)
    pub orders : (c : ℕ) → has marks.orders c ≡ enabled riding carrying s (OrderMove c)

  -- exactly the moves that can be made are marked
  pub record AllMarked (riding : Riding R) (carrying : Carrying K) (s : State R K) (marks : Marks) : Type 0 where
    pub cores : CoresMarked riding carrying s marks
    pub ports : PortsMarked riding carrying s.memory marks.moves

  -- so is it but perhaps for this core's oldest request, whose block may be another than it was
  pub record OthersMarked (riding : Riding R) (carrying : Carrying K) (s : State R K) (marks : Marks) (mover : ℕ)
      : Type 0 where
    pub cores : CoresMarked riding carrying s marks
    pub ports : PortsMarkedBut riding carrying s.memory marks.moves mover
