-- The moves of a machine, by the kinds of its marks.
use Rattle.std.specs.Prelude.{ℕ}
use Rattle.move_marks.specs.declared.marks.MoveKind.{MoveKind}
use Rattle.move_marks.specs.declared.marks.MoveKind.TheVariants.{Own, Request, Response, FromHome}

-- the move of a kind at a core, where these are the machine's moves of each kind
abbrev pub move_by : {M : Type 0} → (own request response message : ℕ → M) → MoveKind → ℕ → M
move_by own request response message Own c = own c
move_by own request response message Request c = request c
move_by own request response message Response c = response c
move_by own request response message FromHome c = message c
