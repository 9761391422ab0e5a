-- The size that callers see, as a number. `sizes_law` ties the code's constant, which the definitions cite, to it.
use Rattle.std.specs.Prelude.{ℕ}

-- the most accesses of a list of which the plain reduction is made
abbrev pub accesses_max : ℕ
accesses_max = 512
