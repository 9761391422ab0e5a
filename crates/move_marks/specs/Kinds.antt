-- Which moves are marked, by their kinds.
use Rattle.std.specs.Prelude.{ℕ, ◌-◌, ◌/◌, ◌%◌, ◌^◌, ◌==◌, if◌then◌else◌, Option, Some, None, List, ◌++◌, length, map}
use Rattle.rtr_types.specs.declared.TheConstants.{CORES_MAX}
use Rattle.rtr_types.specs.declared.core_set.CoreSet.{CoreSet}
use Rattle.move_marks.specs.declared.marks.MarkedMove.{MarkedMove}
use Rattle.move_marks.specs.declared.marks.MoveKind.{MoveKind}
use Rattle.move_marks.specs.declared.marks.MoveKind.TheVariants.{Own, Request, Response, FromHome}
use Rattle.move_marks.specs.declared.marks.MoveMarks.{MoveMarks}
use Rattle.move_marks.specs.Members.{members}

-- where the bits of the kind's set begin
abbrev pub place_of : MoveKind → ℕ
place_of Own = 0
place_of Request = 16
place_of Response = 32
place_of FromHome = 48

-- the cores at which moves of the kind are marked
unfoldable pub set_of : MoveKind → MoveMarks → CoreSet
set_of kind marks = record { bits = marks.bits / 2 ^ place_of kind % 2 ^ CORES_MAX }

-- the marked moves of the kind, by core
abbrev pub marked_of : MoveKind → MoveMarks → List MarkedMove
marked_of kind marks = map (λ c. record { kind = kind; core = c }) (members (set_of kind marks))

-- the marked moves that aren't cores' own, in order
abbrev pub marked_at_ports : MoveMarks → List MarkedMove
marked_at_ports marks = marked_of Request marks ++ (marked_of Response marks ++ marked_of FromHome marks)

-- the marked moves, in order
abbrev pub marked : MoveMarks → List MarkedMove
marked marks = marked_of Own marks ++ marked_at_ports marks

-- the number of the last marked move, where it isn't a core's own
abbrev pub last_at_port : MoveMarks → Option ℕ
last_at_port marks =
    if length (marked_at_ports marks) == 0 then None else Some (length (marked marks) - 1)
