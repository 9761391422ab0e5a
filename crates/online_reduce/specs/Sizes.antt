-- The size that callers see, as a number. `sizes_law` ties the code's constant, which a list's type cites, to it.
use Rattle.std.specs.Prelude.{ℕ}

-- how many edges the list that a retirement answers has room for in the value itself
abbrev pub edges_room : ℕ
edges_room = 17
